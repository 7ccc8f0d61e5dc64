-- No second result meets the contract of a public function. `Post` is the contract itself, as the function is proved to meet it.
use Rattle.laws.proofs.Only.{Determines, only}
use Rattle.numbers.proofs.Cases.{number_same}
use Rattle.numbers.proofs.Same.{given_same}
use Rattle.numbers.proofs.read.Reads as read
use Rattle.numbers.proofs.Fault.number.Reads as number
use Rattle.numbers.proofs.Fault.detail.Reads as detail

-- what stands at a place
pub read_determined : Determines read.Post
read_determined κs a r q s p o = given_same r q (number_same _ _ (only p o))

-- a fault's number
pub number_determined : Determines number.Post
number_determined κs a r q s = only

-- the place that it is told of
pub detail_determined : Determines detail.Post
detail_determined κs a r q s = only
