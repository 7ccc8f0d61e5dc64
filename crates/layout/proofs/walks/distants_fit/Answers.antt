-- The closure is the test of one distant.
use borrow.Author.Rules.{rules}
use Rattle.laws.proofs.Chains.{all_asked}
use Rattle.layout.specs.Layout.{signals_in}
use Rattle.layout.proofs.walks.distants_fit.Goals as goal

pub returns : goal.returns
unfolding signals_in
returns c = all_asked c.all.ensures.ran (λ x b q k. search rules)
