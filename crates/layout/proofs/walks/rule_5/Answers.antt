-- The closure is the rule's test.
use borrow.Author.Rules.{rules}
use Rattle.laws.proofs.Chains.{all_asked}
use Rattle.layout.specs.Rules.{rule5}
use Rattle.layout.specs.Layout.{route_in}
use Rattle.layout.proofs.walks.rule_5.Goals as goal

pub returns : goal.returns
unfolding rule5 route_in
returns c = all_asked c.all.ensures.ran (λ x b q k. search rules)
