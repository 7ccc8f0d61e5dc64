-- Rule 6 holds of each route before r, and of r with each before q.
use Rattle.laws.proofs.Loops.{SoFar}
use Rattle.laws.specs.Tests.{all_below}
use Rattle.layout.specs.Walks.{row_keeps}
use Rattle.layout.proofs.pairs_of_routes.rows_keep.Given as goal

abbrev pub invariant-loop-r : goal.invariant-loop-r
invariant-loop-r l = SoFar l.n (λ k. all_below k (row_keeps l.m l.t k)) l.r

abbrev pub invariant-loop-q : goal.invariant-loop-q
invariant-loop-q l = SoFar l.r (row_keeps l.m l.t l.r) l.q
