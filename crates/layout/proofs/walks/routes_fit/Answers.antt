-- The closure is the test of one route.
use borrow.Author.Rules.{rules}
use Rattle.laws.proofs.Chains.{all_asked}
use Rattle.layout.specs.Layout.{route_in}
use Rattle.layout.proofs.walks.routes_fit.Goals as goal

pub returns : goal.returns
unfolding route_in
returns c = all_asked c.all.ensures.ran (λ x b q k. search rules)
