-- So many pairs are read.
use Rattle.fields.specs.declared.Cursor.{Cursor}
use Rattle.fields.specs.Reading.{Stands}
use Rattle.pairs.proofs.Laws.{PairsDone}
use Rattle.pairs.proofs.place.next_pairs.Given as goal

abbrev pub invariant-loop-i : goal.invariant-loop-i
invariant-loop-i l = (c : Cursor) → Stands c l.fn.at → PairsDone l.s l.routes c l.count l.last l.conflict l.at l.i
