-- So many distants are read, of a version that lists them.
use Rattle.fields.specs.declared.Cursor.{Cursor}
use Rattle.fields.specs.Reading.{Stands}
use Rattle.file_objects.proofs.DistantTurns.{DistantsDone}
use Rattle.file_objects.proofs.place.next_distants.Given as goal

abbrev pub invariant-loop-i : goal.invariant-loop-i
invariant-loop-i l = (c : Cursor) → Stands c l.fn.at → DistantsDone l.s l.signals c l.count l.carrier l.announced l.at l.i
