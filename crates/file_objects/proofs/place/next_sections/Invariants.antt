-- So many of the sections are read
use Rattle.fields.specs.declared.Cursor.{Cursor}
use Rattle.fields.specs.Reading.{Stands}
use Rattle.file_objects.proofs.Turns.{OwnedDone}
use Rattle.file_objects.proofs.place.next_sections.Given as goal

abbrev pub invariant-loop-i : goal.invariant-loop-i
invariant-loop-i l = (c : Cursor) → Stands c l.fn.at → OwnedDone l.s c l.objects l.count l.section l.at l.i
