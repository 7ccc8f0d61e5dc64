-- A turn for each point, which adds it where it is not read in its position.
use borrow.Author.Rules.{rules}
use Rattle.laws.proofs.Chains.{turns_taken}
use Rattle.sets.specs.Lowest.{set_where}
use Rattle.tables.specs.InTheWay.{misplaced_of}
use Rattle.tables.proofs.in_the_way.misplaced_of.Goals as goal

pub returns : goal.returns
unfolding misplaced_of set_where
returns c = turns_taken c.fold.ensures.ran (λ a x d q k. search rules)
