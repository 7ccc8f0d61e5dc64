-- The first of the six that is the speed is the lowest.
use borrow.Author.Rules.{rules}
use lib.Dec.{eqb}
use Rattle.std.proofs.lemmas.Iterator.{YieldsList-from_slice}
use Rattle.std.proofs.lemmas.Iterator.Search.{position_from_yields_List}
use Rattle.block_lengths.proofs.Columns.{first_found}
use Rattle.block_lengths.specs.Paper.{speeds}
use Rattle.block_lengths.proofs.paper.column_of.Goals as goal

pub returns : goal.returns
unfolding speeds
returns c =
    first_found _ _ (position_from_yields_List (λ own. eqb own c.args.speed) _ _ _ c.position.ensures.ran (YieldsList-from_slice speeds cc) (λ x b q k. search rules))
