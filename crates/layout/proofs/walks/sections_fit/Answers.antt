-- The closure is the test of one point.
use borrow.Author.Rules.{rules}
use Rattle.laws.proofs.Chains.{all_asked}
use Rattle.layout.specs.Sound.{sections_fit}
use Rattle.layout.proofs.walks.sections_fit.Goals as goal

pub returns : goal.returns
unfolding sections_fit
returns c = all_asked c.all.ensures.ran (λ x b q k. search rules)
