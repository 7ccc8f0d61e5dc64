-- The closure is the test of one section.
use borrow.Author.Rules.{rules}
use Rattle.laws.proofs.Chains.{all_asked}
use Rattle.layout.proofs.walks.heads_fit.Goals as goal

pub returns : goal.returns
returns c = all_asked c.all.ensures.ran (λ x b q k. search rules)
