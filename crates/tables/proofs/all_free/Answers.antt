-- The closure asks whether a section reads free.
use borrow.Author.Rules.{rules}
use Rattle.laws.proofs.Chains.{all_asked}
use Rattle.tables.specs.Readings.{all_free}
use Rattle.tables.proofs.all_free.Goals as goal

pub returns : goal.returns
unfolding all_free
returns c = all_asked c.all.ensures.ran (λ x b q k. search rules)
