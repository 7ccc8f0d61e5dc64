-- No second result meets the contract of a public function. Each `Post` is the contract itself, as the function is proved to meet it.
use Rattle.laws.proofs.Only.{Determines, only}
use Rattle.signals.proofs.block_signals.may_enter.Reads as may_enter_law
use Rattle.signals.proofs.block_signals.may_enter_line.Reads as may_enter_line
use Rattle.signals.proofs.main_signals.is_clear.Reads as is_clear
use Rattle.signals.proofs.main_signals.falls_to.Reads as falls_to
use Rattle.signals.proofs.main_signals.main_shown.Reads as main_shown
use Rattle.signals.proofs.block_signals.block_shown.Reads as block_shown
use Rattle.signals.proofs.numbers.number_shown.Reads as number_shown
use Rattle.signals.proofs.distants.distant_shown.Reads as distant_shown

-- A train may be let into block i of line l
pub may_enter_determined : Determines may_enter_law.Post
may_enter_determined κs a r q s = only

-- The same, of the line's record
pub may_enter_line_determined : Determines may_enter_line.Post
may_enter_line_determined κs a r q s = only

-- What keeps a route's signal at proceed
pub is_clear_determined : Determines is_clear.Post
is_clear_determined κs a r q s = only

-- The phase that a route's signal falls to, or stays in
pub falls_to_determined : Determines falls_to.Post
falls_to_determined κs a r q s = only

-- What each main signal shows
pub main_shown_determined : Determines main_shown.Post
main_shown_determined κs a r q s = only

-- What the signal into a block shows
pub block_shown_determined : Determines block_shown.Post
block_shown_determined κs a r q s = only

-- What the signal of a number shows
pub number_shown_determined : Determines number_shown.Post
number_shown_determined κs a r q s = only

-- What a distant shows
pub distant_shown_determined : Determines distant_shown.Post
distant_shown_determined κs a r q s = only
