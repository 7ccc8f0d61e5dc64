-- A turn for each section, which adds it where it does not read free.
use borrow.Author.Rules.{rules}
use Rattle.laws.proofs.Chains.{turns_taken}
use Rattle.sets.specs.Lowest.{set_where}
use Rattle.tables.specs.InTheWay.{with_unfree, unfree_of}
use Rattle.tables.proofs.in_the_way.unfree_of.Goals as goal

pub returns : goal.returns
unfolding unfree_of set_where with_unfree
returns c = turns_taken c.fold.ensures.ran (λ a x d q k. search rules)
