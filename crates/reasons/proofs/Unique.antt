-- No second result meets the contract of a public function. Each `Post` is the contract itself, as the function is proved to meet it.
use Rattle.laws.proofs.Only.{Determines, only}
use Rattle.reasons.proofs.Told.{told_once}
use Rattle.reasons.proofs.arrival_dark.Reads as arrival_dark
use Rattle.reasons.proofs.answers.Reason.number.Reads as number
use Rattle.reasons.proofs.answers.Reason.detail.Reads as detail
use Rattle.reasons.proofs.answers.reason_if.Reads as reason_if
use Rattle.reasons.proofs.refusal.no_refusal.Reads as no_refusal
use Rattle.reasons.proofs.refusal.refuse.Reads as refuse
use Rattle.reasons.proofs.refusal.refused_if.Reads as refused_if
use Rattle.reasons.proofs.conflicting.Reads as conflicting
use Rattle.reasons.proofs.by_route.Reads as by_route
use Rattle.reasons.proofs.by_line.Reads as by_line
use Rattle.reasons.proofs.exit_locked.Reads as exit_locked
use Rattle.reasons.proofs.block_barred.Reads as block_barred
use Rattle.reasons.proofs.block_held.Reads as block_held
use Rattle.reasons.proofs.line_not_placed.Reads as line_not_placed
use Rattle.reasons.proofs.route_not_placed.Reads as route_not_placed
use Rattle.reasons.proofs.route_not_free.Reads as route_not_free
use Rattle.reasons.proofs.point_not_free.Reads as point_not_free
use Rattle.reasons.proofs.line_not_free.Reads as line_not_free
use Rattle.reasons.proofs.already_locked.Reads as already_locked
use Rattle.reasons.proofs.not_locked.Reads as not_locked
use Rattle.reasons.proofs.already_cancelling.Reads as already_cancelling
use Rattle.reasons.proofs.not_secured.Reads as not_secured
use Rattle.reasons.proofs.already_secured.Reads as already_secured
use Rattle.reasons.proofs.entered_barred.Reads as entered_barred
use Rattle.reasons.proofs.entered_held.Reads as entered_held
use Rattle.reasons.proofs.events.is_outside.Reads as is_outside
use Rattle.reasons.proofs.events.no_such_block.Reads as no_such_block
use Rattle.reasons.proofs.events.is_fitted.Reads as is_fitted_law
use Rattle.reasons.proofs.searches.section_of.Reads as section_of
use Rattle.reasons.proofs.searches.lowest_misplaced.Reads as lowest_misplaced
use Rattle.reasons.proofs.searches.lowest_conflicting.Reads as lowest_conflicting
use Rattle.reasons.proofs.searches.lowest_route_locking.Reads as lowest_route_locking
use Rattle.reasons.proofs.searches.lowest_line_locking.Reads as lowest_line_locking
use Rattle.reasons.proofs.searches.lowest_locked_exit.Reads as lowest_locked_exit
use Rattle.reasons.proofs.searches.lowest_taken.Reads as lowest_taken

-- the number of a reason
pub number_determined : Determines number.Post
number_determined κs a r q s = only

-- its detail
pub detail_determined : Determines detail.Post
detail_determined κs a r q s = only

-- a reason where a test holds
pub reason_if_determined : Determines reason_if.Post
reason_if_determined κs a r q s = told_once r q

-- no refusal
pub no_refusal_determined : Determines no_refusal.Post
no_refusal_determined κs a r q s = only

-- a refusal by its number and detail
pub refuse_determined : Determines refuse.Post
refuse_determined κs a r q s = only

-- a refusal where a test holds
pub refused_if_determined : Determines refused_if.Post
refused_if_determined κs a r q s = only

-- 5: a conflicting route is locked
pub conflicting_determined : Determines conflicting.Post
conflicting_determined κs a r q s = told_once r q

-- 15: a locked route lists the point
pub by_route_determined : Determines by_route.Post
by_route_determined κs a r q s = told_once r q

-- 16: a secured line lists the point
pub by_line_determined : Determines by_line.Post
by_line_determined κs a r q s = told_once r q

-- 17: an exit route is locked
pub exit_locked_determined : Determines exit_locked.Post
exit_locked_determined κs a r q s = told_once r q

-- 11: a block of a line is barred
pub block_barred_determined : Determines block_barred.Post
block_barred_determined κs a r q s = told_once r q

-- 10: a block of a line is held
pub block_held_determined : Determines block_held.Post
block_held_determined κs a r q s = told_once r q

-- 6: a line's point is not read in position
pub line_not_placed_determined : Determines line_not_placed.Post
line_not_placed_determined κs a r q s = told_once r q

-- 6: a route's point is not read in position
pub route_not_placed_determined : Determines route_not_placed.Post
route_not_placed_determined κs a r q s = told_once r q

-- 7, 8: a section of a path or an overlap does not read free
pub route_not_free_determined : Determines route_not_free.Post
route_not_free_determined κs a r q s = told_once r q

-- 7, 8: a point's section does not read free
pub point_not_free_determined : Determines point_not_free.Post
point_not_free_determined κs a r q s = told_once r q

-- 7, 8: a block does not read free
pub line_not_free_determined : Determines line_not_free.Post
line_not_free_determined κs a r q s = told_once r q

-- 4: the route is locked
pub already_locked_determined : Determines already_locked.Post
already_locked_determined κs a r q s = told_once r q

-- 13: the route is not locked
pub not_locked_determined : Determines not_locked.Post
not_locked_determined κs a r q s = told_once r q

-- 14: the route is cancelling
pub already_cancelling_determined : Determines already_cancelling.Post
already_cancelling_determined κs a r q s = told_once r q

-- 9: the line is not secured that way
pub not_secured_determined : Determines not_secured.Post
not_secured_determined κs a r q s = told_once r q

-- 12: the line is secured
pub already_secured_determined : Determines already_secured.Post
already_secured_determined κs a r q s = told_once r q

-- 11: the block entered is barred
pub entered_barred_determined : Determines entered_barred.Post
entered_barred_determined κs a r q s = told_once r q

-- 10: the block entered is held
pub entered_held_determined : Determines entered_held.Post
entered_held_determined κs a r q s = told_once r q

-- a number outside its bounds
pub is_outside_determined : Determines is_outside.Post
is_outside_determined κs a r q s = only

-- a block that a line has not
pub no_such_block_determined : Determines no_such_block.Post
no_such_block_determined κs a r q s = only

-- whether a section has heads
pub is_fitted_determined : Determines is_fitted_law.Post
is_fitted_determined κs a r q s = only

-- The section that a point stands in
pub section_of_determined : Determines section_of.Post
section_of_determined κs a r q s = only

-- The lowest point that is not read in its position
pub lowest_misplaced_determined : Determines lowest_misplaced.Post
lowest_misplaced_determined κs a r q s = only

-- The lowest locked route that conflicts
pub lowest_conflicting_determined : Determines lowest_conflicting.Post
lowest_conflicting_determined κs a r q s = only

-- The lowest locked route that lists a point
pub lowest_route_locking_determined : Determines lowest_route_locking.Post
lowest_route_locking_determined κs a r q s = only

-- The lowest secured line that lists a point
pub lowest_line_locking_determined : Determines lowest_line_locking.Post
lowest_line_locking_determined κs a r q s = only

-- The lowest locked exit route of a line
pub lowest_locked_exit_determined : Determines lowest_locked_exit.Post
lowest_locked_exit_determined κs a r q s = only

-- The lowest block of a line that is held, or barred
pub lowest_taken_determined : Determines lowest_taken.Post
lowest_taken_determined κs a r q s = only

-- 31: the lamp of the arrival entrance signal reports none
pub arrival_dark_determined : Determines arrival_dark.Post
arrival_dark_determined κs a r q s = told_once r q
