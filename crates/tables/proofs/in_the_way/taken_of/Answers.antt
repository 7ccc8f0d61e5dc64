-- A turn for each block, whose section is put into the set where the block is held or barred.
use borrow.Author.Rules.{rules}
use Rattle.laws.proofs.Chains.{turns_taken}
use Rattle.sets.specs.Lowest.{set_where}
use Rattle.sets.proofs.Lowest.{unless_failed, unless_held}
use Rattle.tables.specs.Blocks.{is_open}
use Rattle.tables.specs.InTheWay.{taken_of}
use Rattle.tables.proofs.in_the_way.taken_of.Goals as goal

pub returns : goal.returns
unfolding taken_of set_where is_open
returns c = turns_taken c.fold.ensures.ran (λ a x d q k. search (rules, unless_held, unless_failed))
