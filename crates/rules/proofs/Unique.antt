-- No second result meets the contract of a public function. Each `Post` is the contract itself, as the function is proved to meet it.
use Rattle.laws.proofs.Only.{Determines, only}
use Rattle.rules.proofs.block_set.Reads as block_set
use Rattle.rules.proofs.inner_set.Reads as inner_set
use Rattle.rules.proofs.blocks_once.Reads as blocks_once
use Rattle.rules.proofs.path_off_blocks.Reads as path_off_blocks
use Rattle.rules.proofs.line_ends.Reads as line_ends
use Rattle.rules.proofs.line_points.Reads as line_points
use Rattle.rules.proofs.route_lists.Reads as route_lists
use Rattle.rules.proofs.route_length.Reads as route_length
use Rattle.rules.proofs.route_ends.Reads as route_ends
use Rattle.rules.proofs.route_reach.Reads as route_reach
use Rattle.rules.proofs.clash.Reads as clash
use Rattle.rules.proofs.announces_carrier.Reads as announces_carrier

-- the set of all blocks
pub block_set_determined : Determines block_set.Post
block_set_determined κs a r q s = only

-- the set of all inner sections
pub inner_set_determined : Determines inner_set.Post
inner_set_determined κs a r q s = only

-- rule 1 on one line
pub blocks_once_determined : Determines blocks_once.Post
blocks_once_determined κs a r q s = only

-- rule 1 on one route
pub path_off_blocks_determined : Determines path_off_blocks.Post
path_off_blocks_determined κs a r q s = only

-- rule 2 on one line
pub line_ends_determined : Determines line_ends.Post
line_ends_determined κs a r q s = only

-- rule 3 on one line
pub line_points_determined : Determines line_points.Post
line_points_determined κs a r q s = only

-- rule 3 on one route
pub route_lists_determined : Determines route_lists.Post
route_lists_determined κs a r q s = only

-- rule 4 on one route
pub route_length_determined : Determines route_length.Post
route_length_determined κs a r q s = only

-- rule 5 on one route
pub route_ends_determined : Determines route_ends.Post
route_ends_determined κs a r q s = only

-- what rule 6 asks of a route
pub route_reach_determined : Determines route_reach.Post
route_reach_determined κs a r q s = only

-- rule 6 on two routes
pub clash_determined : Determines clash.Post
clash_determined κs a r q s = only

-- rule 7 on one distant
pub announces_carrier_determined : Determines announces_carrier.Post
announces_carrier_determined κs a r q s = only
