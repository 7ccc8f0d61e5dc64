-- The lowest is none of those before r.
use Rattle.laws.proofs.Searches.{Sought}
use Rattle.reasons.specs.Searches.{route_locks}
use Rattle.reasons.proofs.searches.lowest_route_locking.Given as goal

abbrev pub invariant-loop-r : goal.invariant-loop-r
invariant-loop-r l = Sought l.n (route_locks l.rs l.phases l.p) l.r
