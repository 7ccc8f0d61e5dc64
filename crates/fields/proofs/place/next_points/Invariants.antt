-- So many points are read, with their positions.
use Rattle.fields.specs.declared.Cursor.{Cursor}
use Rattle.fields.specs.Reading.{Stands}
use Rattle.fields.proofs.Turns.{PointsDone}
use Rattle.fields.proofs.place.next_points.Given as goal

abbrev pub invariant-loop-i : goal.invariant-loop-i
invariant-loop-i l = (c : Cursor) → Stands c l.fn.at → PointsDone l.s c l.objects l.count l.point l.position l.at l.i
