-- Demand 3 lets trains pass: a signal does show proceed into a block, by a manual release and by a proved passage, an exit signal and a block signal; one
-- of two that lead into it; and a release clears the blocks of its own line. So it does where the block has heads (L1), and where the far signal's stop isn't
-- shown and the block waits (L3). What it refuses is in WrongRuns, WrongHeads and WrongLamps.
use Prim.Native.Nat.{ℕ}
use mathlib.Core.Path.{◌≡◌, refl}
use mathlib.Core.Bool.{false}
use mathlib.Core.List.{List, [], ◌∷◌, ◌++◌}
use Rattle.laws.specs.Tests.{◌or◌}
use Rattle.laws.proofs.Tests.{not_both}
use Rattle.track.specs.Codes.{neutral, open_block, stage3}
use Rattle.track.specs.Signal.{main, into}
use Rattle.layout.specs.Load.{load}
use Rattle.layout_facts.specs.BranchT.{layout_t}
use Rattle.fitted.proofs.InUse.{loaded_in_use}
use Rattle.panel.specs.Shown.{shows_idle}
use Rattle.step_facts.specs.Run.{Event, event}
use Rattle.safety.specs.Cases.{p1, p3, p4}
use Rattle.safety.specs.History.{History, gave_block, shown, Releases, Since, LeavesFree, history}
use Rattle.safety.specs.Cleared.{Stops, Waits, Completed, Cleared}
use Rattle.safety.specs.Demand3.{Enters, Guarded}
use Rattle.safety.specs.OtherLayouts.{two_blocks, two_lines, two_exits}
use Rattle.safety.specs.WrongRuns.{readings, opened, gone, waiting, opened_by_route, both_opened}
use Rattle.safety.specs.WrongHeads.{fitted_t, let_out_at}
use Rattle.safety.proofs.Computed.{run_computed, heads_computed}
use Rattle.safety.proofs.Demand3.{demand3}
use Rattle.safety.proofs.OtherLayouts.{others_load}
use Rattle.safety.proofs.TestedBlocks.{some_waits_means, passed_test, by_hand_test, by_hand_means, passed_means, cleared_means}
use Rattle.safety.proofs.TestedLights.{enters_means}
use Rattle.safety.proofs.WrongHeads.{fitted_in_use}

-- ---- branch T

-- after P1 signal 0 does, from A to B
pub after_release : Enters layout_t (history layout_t p1) (main 0) 0 0 1
unfolding run_computed
after_release = (enters_means layout_t (history layout_t p1) (main 0) 0 0 1).0 refl

-- the line was released by hand, with the block free ever since
pub released_by_hand :
    Since (λ m older. Releases 0 m × LeavesFree (gave_block layout_t 0 0) m older) (LeavesFree (gave_block layout_t 0 0)) (history layout_t p1)
unfolding run_computed
released_by_hand = (by_hand_means layout_t 0 0 (history layout_t p1)).0 refl

-- after P4 the line is secured and route 0 set again
abbrev again : List Event
again = p1 ++ (p3 ++ (p4 ++ (event 6 0 1 ∷ event 4 0 0 ∷ [])))

-- and signal 0 shows proceed again
pub after_passage : Enters layout_t (history layout_t again) (main 0) 0 0 1
unfolding run_computed
after_passage = (enters_means layout_t (history layout_t again) (main 0) 0 0 1).0 refl

-- a passage of the block was completed, and it has read free since
pub passage_completed : (w : ℕ) × Since (Completed layout_t 0 0 w) (LeavesFree (gave_block layout_t 0 0)) (history layout_t again)
unfolding run_computed
passage_completed = (passed_means layout_t 0 0 (history layout_t again)).0 refl

-- and there was no manual release since that spell
no_release : by_hand_test layout_t 0 0 (history layout_t again) ≡ false
unfolding run_computed
no_release = refl

pub no_release_since :
    ¬ Since (λ m older. Releases 0 m × LeavesFree (gave_block layout_t 0 0) m older) (LeavesFree (gave_block layout_t 0 0)) (history layout_t again)
no_release_since x = not_both ((by_hand_means layout_t 0 0 (history layout_t again)).1 x) no_release

-- ---- two blocks

-- with the line secured from A to B the block signal into the second block does
pub by_block_signal : Enters (load two_blocks).layout (history (load two_blocks).layout opened) (into 0 1 1) 0 1 1
unfolding run_computed
by_block_signal = (enters_means (load two_blocks).layout (history (load two_blocks).layout opened) (into 0 1 1) 0 1 1).0 refl

-- and has all that demand 3 asks
pub block_signal_guarded : Guarded (load two_blocks).layout (history (load two_blocks).layout opened) (into 0 1 1) 0 1 1
block_signal_guarded = (demand3 _ (loaded_in_use two_blocks others_load.0) opened).guarded (into 0 1 1) 0 1 1 by_block_signal

-- ---- two signals into one block

-- both exit routes at A are ordered
abbrev both_ordered : History
both_ordered = history (load two_exits).layout (opened ++ (event 4 0 0 ∷ event 4 1 0 ∷ []))

-- one signal shows proceed into the block, and the other stays at stop
pub one_of_two : Enters (load two_exits).layout both_ordered (main 0) 0 0 1 × Stops (shown (load two_exits).layout both_ordered) (main 3)
unfolding run_computed
one_of_two = ((enters_means (load two_exits).layout both_ordered (main 0) 0 0 1).0 refl, refl)

-- ---- two lines

-- all sections read free, and the second line is released by hand
abbrev other_released : History
other_released = history (load two_lines).layout (readings ++ (event 7 1 1 ∷ []))

-- its block is cleared
pub its_own : Cleared (load two_lines).layout 1 0 other_released
unfolding run_computed
its_own = (cleared_means (load two_lines).layout 1 0 other_released).0 refl

-- and the block of the first line is not
not_the_first : passed_test (load two_lines).layout 0 0 other_released or by_hand_test (load two_lines).layout 0 0 other_released ≡ false
unfolding run_computed
not_the_first = refl

-- so it was not cleared
pub no_other : ¬ Cleared (load two_lines).layout 0 0 other_released
no_other c = not_both ((cleared_means (load two_lines).layout 0 0 other_released).1 c) not_the_first

-- ---- branch T with heads on its block (L1)

-- a train is let out, counted into the block and, as it arrives at B, out of it; the line is secured and route 0 set again
abbrev counted_out : List Event
counted_out = let_out_at 0 ++ (event 1 0 2 ∷ event 11 2 2 ∷ event 1 0 1 ∷ event 1 2 2 ∷ event 12 3 2 ∷ event 6 0 1 ∷ event 4 0 0 ∷ [])

-- signal 0 shows proceed again
pub by_heads : Enters fitted_t (history fitted_t counted_out) (main 0) 0 0 1
unfolding run_computed heads_computed
by_heads = (enters_means fitted_t (history fitted_t counted_out) (main 0) 0 0 1).0 refl

-- and has all that demand 3 asks
pub heads_guarded : Guarded fitted_t (history fitted_t counted_out) (main 0) 0 0 1
heads_guarded = (demand3 fitted_t fitted_in_use counted_out).guarded (main 0) 0 0 1 by_heads

-- a count gave the block free, and so completed a passage
pub heads_passage : (w : ℕ) × Since (Completed fitted_t 0 0 w) (LeavesFree (gave_block fitted_t 0 0)) (history fitted_t counted_out)
unfolding run_computed heads_computed
heads_passage = (passed_means fitted_t 0 0 (history fitted_t counted_out)).0 refl

-- a count gives the block occupied also where it read so already: axles in the block, section 0 occupied, one axle more, section 0 free, and route 0 goes
pub counts_again : (shown fitted_t (history fitted_t (let_out_at 0 ++ (event 11 2 2 ∷ event 1 0 2 ∷ event 11 2 3 ∷ event 1 0 1 ∷ [])))).route 0 ≡ shows_idle
unfolding run_computed heads_computed
counts_again = refl

-- ---- a stop that isn't shown (L3)

-- on branch T the block waits while the lamp of the entrance signal at B is dark, and shows 4
pub last_waits : ((shown layout_t (history layout_t waiting)).block 0 0 ≡ stage3) × ((w : ℕ) × Waits layout_t 0 0 w (history layout_t waiting))
unfolding run_computed
last_waits = (refl, (some_waits_means layout_t 0 0 (history layout_t waiting)).0 refl)

-- in the event in which the route in at B is released the block opens, and the line becomes neutral
pub opens_by_route : ((shown layout_t (history layout_t opened_by_route)).route 1 ≡ shows_idle) × ((shown layout_t (history layout_t opened_by_route)).block 0 0 ≡ open_block)
    × ((shown layout_t (history layout_t opened_by_route)).line 0 ≡ neutral)
unfolding run_computed
opens_by_route = (refl, refl, refl)

-- of two blocks the lamp of the signal between has reported nothing; a train goes on to the second, and the first reads free
abbrev dark_between : List Event
dark_between = gone ++ (event 1 2 2 ∷ event 1 1 1 ∷ [])

-- the first waits, and shows 4
pub first_waits : ((shown (load two_blocks).layout (history (load two_blocks).layout dark_between)).block 0 0 ≡ stage3)
    × ((w : ℕ) × Waits (load two_blocks).layout 0 0 w (history (load two_blocks).layout dark_between))
unfolding run_computed
first_waits = (refl, (some_waits_means (load two_blocks).layout 0 0 (history (load two_blocks).layout dark_between)).0 refl)

-- where the lamp at B is dark too both wait
pub both_wait : ((shown (load two_blocks).layout (history (load two_blocks).layout opened_by_route)).block 0 0 ≡ stage3)
    × ((shown (load two_blocks).layout (history (load two_blocks).layout opened_by_route)).block 0 1 ≡ stage3)
unfolding run_computed
both_wait = (refl, refl)

-- and are cleared, both in the event in which the route in at B is released
pub both_cleared : Cleared (load two_blocks).layout 0 0 (history (load two_blocks).layout both_opened) × Cleared (load two_blocks).layout 0 1 (history (load two_blocks).layout both_opened)
unfolding run_computed
both_cleared = (
  (cleared_means (load two_blocks).layout 0 0 (history (load two_blocks).layout both_opened)).0 refl,
  (cleared_means (load two_blocks).layout 0 1 (history (load two_blocks).layout both_opened)).0 refl,
)

-- the train arrives at B, and the second reads free: it opens, and the first with it; the line is secured and route 0 set again
abbrev both_freed : List Event
both_freed = dark_between ++ (event 1 3 2 ∷ event 1 2 1 ∷ event 6 0 1 ∷ event 4 0 0 ∷ [])

-- signal 0 shows proceed into the first
pub after_waiting : Enters (load two_blocks).layout (history (load two_blocks).layout both_freed) (main 0) 0 0 1
unfolding run_computed
after_waiting = (enters_means (load two_blocks).layout (history (load two_blocks).layout both_freed) (main 0) 0 0 1).0 refl

-- and has all that demand 3 asks
pub waiting_guarded : Guarded (load two_blocks).layout (history (load two_blocks).layout both_freed) (main 0) 0 0 1
waiting_guarded = (demand3 _ (loaded_in_use two_blocks others_load.0) both_freed).guarded (main 0) 0 0 1 after_waiting

-- its passage was completed
pub waiting_passage : (w : ℕ) × Since (Completed (load two_blocks).layout 0 0 w) (LeavesFree (gave_block (load two_blocks).layout 0 0)) (history (load two_blocks).layout both_freed)
unfolding run_computed
waiting_passage = (passed_means (load two_blocks).layout 0 0 (history (load two_blocks).layout both_freed)).0 refl
