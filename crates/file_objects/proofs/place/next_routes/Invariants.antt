-- So many routes are read
use Rattle.fields.specs.declared.Cursor.{Cursor}
use Rattle.fields.specs.Reading.{Stands}
use Rattle.file_objects.proofs.Turns.{RoutesDone}
use Rattle.file_objects.proofs.place.next_routes.Given as goal

abbrev pub invariant-loop-i : goal.invariant-loop-i
invariant-loop-i l = (c : Cursor) → Stands c l.fn.at → RoutesDone l.s l.n c l.count l.route l.at l.i
