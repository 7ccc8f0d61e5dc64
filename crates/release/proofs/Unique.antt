-- No second result meets the contract of a public function. Each `Post` is the contract itself, as the function is proved to meet it.
use Rattle.laws.proofs.Only.{Determines, only}
use Rattle.release.proofs.locking_after.Reads as locking_after
use Rattle.release.proofs.route_settled.Reads as route_settled

-- What becomes of a locked route in an event
pub locking_after_determined : Determines locking_after.Post
locking_after_determined κs a r q s = only

-- What a locked route has after an event
pub route_settled_determined : Determines route_settled.Post
route_settled_determined κs a r q s = only
