-- So many lines are read
use Rattle.fields.specs.declared.Cursor.{Cursor}
use Rattle.fields.specs.Reading.{Stands}
use Rattle.file_objects.proofs.Turns.{LinesDone}
use Rattle.file_objects.proofs.place.next_lines.Given as goal

abbrev pub invariant-loop-i : goal.invariant-loop-i
invariant-loop-i l = (c : Cursor) → Stands c l.fn.at → LinesDone l.s l.n c l.count l.line l.at l.i
