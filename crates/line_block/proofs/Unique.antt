-- No second result meets the contract of a public function. Each `Post` is the contract itself, as the function is proved to meet it.
use Rattle.laws.proofs.Only.{Determines, only}
use Rattle.line_block.proofs.far_sections.far_stages.Reads as far_stages
use Rattle.line_block.proofs.line_release.directions_after.Reads as directions_after
use Rattle.line_block.proofs.own_readings.own_stages.Reads as own_stages
use Rattle.line_block.proofs.passing_back.none_waits.Reads as none_waits
use Rattle.line_block.proofs.passing_back.stages_after_arrivals.Reads as stages_after_arrivals

-- the stages of the blocks after far sections
pub far_stages_determined : Determines far_stages.Post
far_stages_determined κs a r q s = only

-- the directions of the lines after line release
pub directions_after_determined : Determines directions_after.Post
directions_after_determined κs a r q s = only

-- the stages of the blocks after own readings
pub own_stages_determined : Determines own_stages.Post
own_stages_determined κs a r q s = only

-- the stages of the blocks after entrance routes were released
pub stages_after_arrivals_determined : Determines stages_after_arrivals.Post
stages_after_arrivals_determined κs a r q s = only

-- no block waits
pub none_waits_determined : Determines none_waits.Post
none_waits_determined κs a r q s = only
