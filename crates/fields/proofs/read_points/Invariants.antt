-- So many turns are done.
use Rattle.laws.proofs.Loops.{Turned}
use Rattle.fields.specs.Lists.{point_turn}
use Rattle.fields.proofs.read_points.Given as goal

abbrev pub invariant-loop-i : goal.invariant-loop-i
invariant-loop-i l = Turned l.i-end (point_turn l.s l.objects) l.initial.t l.t l.i
