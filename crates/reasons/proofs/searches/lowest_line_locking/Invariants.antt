-- The lowest is none of those before l.
use Rattle.laws.proofs.Searches.{Sought}
use Rattle.reasons.specs.Searches.{line_locks}
use Rattle.reasons.proofs.searches.lowest_line_locking.Given as goal

abbrev pub invariant-loop-l : goal.invariant-loop-l
invariant-loop-l l = Sought l.n (line_locks l.ls l.directions l.p) l.l
