-- The lowest is none of those before r.
use Rattle.laws.proofs.Searches.{Sought}
use Rattle.tables.specs.Locks.{locked_exit}
use Rattle.reasons.proofs.searches.lowest_locked_exit.Given as goal

abbrev pub invariant-loop-r : goal.invariant-loop-r
invariant-loop-r l = Sought l.n (locked_exit l.rs l.phases l.l) l.r
