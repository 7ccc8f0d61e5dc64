-- The closure asks whether a point is read in its position.
use borrow.Author.Rules.{rules}
use Rattle.laws.proofs.Chains.{all_asked}
use Rattle.tables.specs.Readings.{in_position}
use Rattle.tables.proofs.all_placed.Goals as goal

pub returns : goal.returns
unfolding in_position
returns c = all_asked c.all.ensures.ran (λ x b q k. search rules)
