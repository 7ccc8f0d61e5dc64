-- No second result meets the contract of a public function. Each `Post` is the contract itself, as the function is proved to meet it.
use mathlib.Core.Path.{◌≡◌}
use Rattle.laws.proofs.Only.{Determines, only}
use Rattle.interlocking.proofs.State.cold.Reads as cold
use Rattle.interlocking.proofs.State.in_range.Reads as in_range_law
use Rattle.interlocking.proofs.State.step.Reads as step
use Rattle.interlocking.proofs.Core.step_in_run.Reads as step_in_run
use Rattle.interlocking.proofs.State.read_section.Reads as read_section
use Rattle.interlocking.proofs.State.read_point.Reads as read_point
use Rattle.interlocking.proofs.State.throw_point.Reads as throw_point
use Rattle.interlocking.proofs.State.set_route.Reads as set_route
use Rattle.interlocking.proofs.State.cancel_route.Reads as cancel_route
use Rattle.interlocking.proofs.State.secure_line.Reads as secure_line
use Rattle.interlocking.proofs.State.release_line.Reads as release_line
use Rattle.interlocking.proofs.State.bar_block.Reads as bar_block
use Rattle.interlocking.proofs.State.unbar_block.Reads as unbar_block
use Rattle.interlocking.proofs.State.second_passed.Reads as second_passed
use Rattle.interlocking.proofs.State.axles_in.Reads as axles_in
use Rattle.interlocking.proofs.State.axles_out.Reads as axles_out
use Rattle.interlocking.proofs.State.head_silent.Reads as head_silent
use Rattle.interlocking.proofs.State.reset_axles.Reads as reset_axles
use Rattle.interlocking.proofs.State.report_lamp.Reads as report_lamp
use Rattle.interlocking.proofs.parts.core_of.Reads as core_of
use Rattle.interlocking.proofs.parts.whole.Reads as whole
use Rattle.interlocking.proofs.parts.head_place.Reads as head_place
use Rattle.interlocking.proofs.parts.heads_then.Reads as heads_then
use Rattle.interlocking.proofs.parts.lamps_then.Reads as lamps_then

-- the cold start
pub cold_determined : Determines cold.Post
cold_determined κs a r q s = only

-- whether no code is outside its range
pub in_range_determined : Determines in_range_law.Post
in_range_determined κs a r q s = only

-- one step
pub step_determined : Determines step.Post
step_determined κs a r q s = only

-- one step of a run
pub step_in_run_determined : Determines step_in_run.Post
step_in_run_determined κs a r q s = only

-- 1: a section reading
pub read_section_determined : Determines read_section.Post
read_section_determined κs a r q s = only

-- 2: a point reading
pub read_point_determined : Determines read_point.Post
read_point_determined κs a r q s = only

-- 3: throw
pub throw_point_determined : Determines throw_point.Post
throw_point_determined κs a r q s = only

-- 4: set route
pub set_route_determined : Determines set_route.Post
set_route_determined κs a r q s = only

-- 5: cancel route
pub cancel_route_determined : Determines cancel_route.Post
cancel_route_determined κs a r q s = only

-- 6: secure line
pub secure_line_determined : Determines secure_line.Post
secure_line_determined κs a r q s = only

-- 7: manual release
pub release_line_determined : Determines release_line.Post
release_line_determined κs a r q s = only

-- 8: bar
pub bar_block_determined : Determines bar_block.Post
bar_block_determined κs a r q s = only

-- 9: unbar
pub unbar_block_determined : Determines unbar_block.Post
unbar_block_determined κs a r q s = only

-- 10: one second has passed
pub second_passed_determined : Determines second_passed.Post
second_passed_determined κs a r q s = only

-- 11: axles in
pub axles_in_determined : Determines axles_in.Post
axles_in_determined κs a r q s = only

-- 12: axles out
pub axles_out_determined : Determines axles_out.Post
axles_out_determined κs a r q s = only

-- 13: a head is silent
pub head_silent_determined : Determines head_silent.Post
head_silent_determined κs a r q s = only

-- 14: reset
pub reset_axles_determined : Determines reset_axles.Post
reset_axles_determined κs a r q s = only

-- 15: a lamp's report
pub report_lamp_determined : Determines report_lamp.Post
report_lamp_determined κs a r q s = only

-- the nine tables of a state
pub core_of_determined : Determines core_of.Post
core_of_determined κs a r q s = only

-- a state of its parts
pub whole_determined : Determines whole.Post
whole_determined κs a r q s = only

-- the place of the heads that an event names
pub head_place_determined : Determines head_place.Post
head_place_determined κs a r q s = only

-- what becomes of them
pub heads_then_determined : Determines heads_then.Post
heads_then_determined κs a r q s = only

-- at every call, two outcomes that meet the contract leave one value behind the reference that `lent` reads
abbrev DeterminesLent : {K : Type 0} {A R S : K → Type 0} {X : Type 0} → ((κs : K) → S κs → X) → ((κs : K) → A κs → R κs → S κs → Type 0) → Type 0
DeterminesLent {K} {A} {R} {S} lent Post = (κs : K) (a : A κs) (r q : R κs) (s t : S κs) → Post κs a r s → Post κs a q t → lent κs s ≡ lent κs t

-- the lamps after an event
pub lamps_then_determined : DeterminesLent (λ κs s. s.0.now) lamps_then.Post
lamps_then_determined κs a r q s t = only
