-- The lowest is none of those before q.
use Rattle.laws.proofs.Searches.{Sought}
use Rattle.reasons.specs.Searches.{conflicts_with}
use Rattle.reasons.proofs.searches.lowest_conflicting.Given as goal

abbrev pub invariant-loop-q : goal.invariant-loop-q
invariant-loop-q l = Sought l.n (conflicts_with l.conflict l.phases l.r) l.q
