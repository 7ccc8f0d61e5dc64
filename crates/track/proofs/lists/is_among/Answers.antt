-- The closure is the definition's test.
use borrow.Author.Rules.{rules}
use Rattle.laws.proofs.Chains.{any_asked}
use Rattle.track.specs.Lists.{among}
use Rattle.track.proofs.lists.is_among.Goals as goal

pub returns : goal.returns
unfolding among
returns c = any_asked c.any.ensures.ran (λ x b q k. search rules)
