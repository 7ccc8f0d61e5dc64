-- The closure is the rule's test.
use borrow.Author.Rules.{rules}
use Rattle.laws.proofs.Chains.{all_asked}
use Rattle.layout.specs.Rules.{rule2}
use Rattle.layout.proofs.walks.rule_2.Goals as goal

pub returns : goal.returns
unfolding rule2
returns c = all_asked c.all.ensures.ran (λ x b q k. search rules)
