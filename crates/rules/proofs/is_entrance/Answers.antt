-- The closure asks both entrance signals of a line.
use borrow.Author.Rules.{rules}
use Rattle.laws.specs.Tests.{◌or◌}
use Rattle.laws.proofs.Chains.{any_asked}
use Rattle.rules.specs.Rules.{has_entrance, is_entrance}
use Rattle.rules.proofs.is_entrance.Goals as goal

pub returns : goal.returns
unfolding is_entrance has_entrance ◌or◌
returns c = any_asked c.any.ensures.ran (λ x b q k. search rules)
