-- An entry of the list, and 0 past its end.
use Rattle.laws.proofs.Arrays.{totals}
use Rattle.block_lengths.specs.Paper.{speeds}
use Rattle.block_lengths.proofs.paper.speed_of.Goals as goal

pub returns-then-column-lt6 : goal.returns-then-column-lt6
unfolding speeds
returns-then-column-lt6 c = search totals

pub returns-else-column-lt6 : goal.returns-else-column-lt6
unfolding speeds
returns-else-column-lt6 c = search totals
