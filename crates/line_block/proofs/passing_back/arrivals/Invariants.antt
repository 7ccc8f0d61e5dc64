-- The lines at whose arrival end one of the routes before r was released.
use Rattle.line_block.specs.PassingBack.{Arrived}
use Rattle.line_block.proofs.passing_back.arrivals.Given as goal

abbrev pub invariant-loop-r : goal.invariant-loop-r
invariant-loop-r l = Arrived l.r l.l.route l.before.phase.now l.now.phase.now l.now.direction.now l.arrived
