-- No second result meets the contract of a public function. Each `Post` is the contract itself, as the function is proved to meet it.
use Rattle.laws.proofs.Only.{Determines, only}
use Rattle.passage.proofs.own_stage.Reads as own_stage
use Rattle.passage.proofs.departure_end.Reads as departure_end
use Rattle.passage.proofs.arrival_end.Reads as arrival_end
use Rattle.passage.proofs.beyond_block.Reads as beyond_block
use Rattle.passage.proofs.from_arrival.Reads as from_arrival
use Rattle.passage.proofs.far_section.Reads as far_section
use Rattle.passage.proofs.far_stage.Reads as far_stage

-- The stage after the block's own reading: 1 free, 2 occupied, 3 none; any other number says nothing
pub own_stage_determined : Determines own_stage.Post
own_stage_determined κs a r q s = only

-- The end that a direction leaves
pub departure_end_determined : Determines departure_end.Post
departure_end_determined κs a r q s = only

-- The end at which a direction arrives
pub arrival_end_determined : Determines arrival_end.Post
arrival_end_determined κs a r q s = only

-- What lies beyond block i in a direction
pub beyond_block_determined : Determines beyond_block.Post
beyond_block_determined κs a r q s = only

-- Block i counted from the arrival end of a direction
pub from_arrival_determined : Determines from_arrival.Post
from_arrival_determined κs a r q s = only

-- The far section of block i in a direction
pub far_section_determined : Determines far_section.Post
far_section_determined κs a r q s = only

-- The stage after the far section's reading, in an event that did or did not drop the far signal
pub far_stage_determined : Determines far_stage.Post
far_stage_determined κs a r q s = only
