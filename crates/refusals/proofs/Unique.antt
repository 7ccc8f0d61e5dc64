-- No second result meets the contract of a public function. Each `Post` is the contract itself, as the function is proved to meet it.
use Rattle.laws.proofs.Only.{Determines, only}
use Rattle.reasons.proofs.Told.{told_once}
use Rattle.refusals.proofs.numbers_refusal.Reads as numbers_refusal
use Rattle.refusals.proofs.numbers_reason.Reads as numbers_reason
use Rattle.refusals.proofs.throw_refusal.Reads as throw_refusal
use Rattle.refusals.proofs.set_refusal.Reads as set_refusal
use Rattle.refusals.proofs.cancel_refusal.Reads as cancel_refusal
use Rattle.refusals.proofs.secure_refusal.Reads as secure_refusal
use Rattle.refusals.proofs.manual_refusal.Reads as manual_refusal

-- what is refused of any event by its numbers
pub numbers_refusal_determined : Determines numbers_refusal.Post
numbers_refusal_determined κs a r q s = only

-- the same by a reason
pub numbers_reason_determined : Determines numbers_reason.Post
numbers_reason_determined κs a r q s = told_once r q

-- of a throw
pub throw_refusal_determined : Determines throw_refusal.Post
throw_refusal_determined κs a r q s = told_once r q

-- of setting a route
pub set_refusal_determined : Determines set_refusal.Post
set_refusal_determined κs a r q s = told_once r q

-- of cancelling a route
pub cancel_refusal_determined : Determines cancel_refusal.Post
cancel_refusal_determined κs a r q s = told_once r q

-- of securing a line
pub secure_refusal_determined : Determines secure_refusal.Post
secure_refusal_determined κs a r q s = told_once r q

-- of a manual release
pub manual_refusal_determined : Determines manual_refusal.Post
manual_refusal_determined κs a r q s = told_once r q
