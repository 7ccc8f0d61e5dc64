-- The closure is the definition's test.
use borrow.Author.Rules.{rules}
use Rattle.laws.proofs.Chains.{all_asked}
use Rattle.track.specs.Lists.{positions}
use Rattle.track.proofs.lists.all_positions.Goals as goal

pub returns : goal.returns
unfolding positions
returns c = all_asked c.all.ensures.ran (λ x b q k. search rules)
