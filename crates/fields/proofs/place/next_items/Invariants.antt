-- So many numbers of the list are read.
use Rattle.fields.specs.declared.Cursor.{Cursor}
use Rattle.fields.specs.Reading.{Stands}
use Rattle.fields.proofs.Turns.{ItemsDone}
use Rattle.fields.proofs.place.next_items.Given as goal

abbrev pub invariant-loop-i : goal.invariant-loop-i
invariant-loop-i l = (c : Cursor) → Stands c l.fn.at → ItemsDone l.s c l.low l.high l.objects l.count l.item l.at l.i
