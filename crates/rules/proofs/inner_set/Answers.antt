-- A turn for each line, which adds its two inner sections.
use borrow.Author.Rules.{rules}
use Rattle.laws.proofs.Chains.{turns_taken}
use Rattle.rules.specs.Sets.{inner_turn, inner_set}
use Rattle.rules.proofs.inner_set.Goals as goal

pub returns : goal.returns
unfolding inner_set inner_turn
returns c = turns_taken c.fold.ensures.ran (λ a x d q k. search rules)
