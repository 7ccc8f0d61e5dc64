-- A turn for each line, which adds the sections of its blocks.
use borrow.Author.Rules.{rules}
use Rattle.laws.proofs.Chains.{turns_taken}
use Rattle.rules.specs.Sets.{line_blocks, block_set}
use Rattle.rules.proofs.block_set.Goals as goal

pub returns : goal.returns
unfolding block_set line_blocks
returns c = turns_taken c.fold.ensures.ran (λ a x d q k. search rules)
