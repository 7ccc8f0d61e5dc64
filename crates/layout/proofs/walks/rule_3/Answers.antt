-- The closures are the tests of one route and of one line.
use borrow.Author.Rules.{rules}
use Rattle.laws.proofs.Chains.{all_asked}
use mathlib.Core.Path.{ap₂}
use Rattle.laws.specs.Tests.{◌and◌}
use Rattle.layout.specs.Rules.{rule3}
use Rattle.layout.specs.Layout.{route_in}
use Rattle.layout.proofs.walks.rule_3.Goals as goal

pub returns : goal.returns
unfolding rule3 route_in ◌and◌
returns c = ap₂ ◌and◌ (all_asked c.all-routes.ensures.ran (λ x b q k. search rules)) (all_asked c.all-lines.ensures.ran (λ x b q k. search rules))
