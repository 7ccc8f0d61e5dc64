-- The wrong boxes differ from the box only in what they are named for: with the step's own parts they are the step of a run.
use Prim.Native.Nat.{ℕ}
use mathlib.Core.Path.{◌≡◌, refl, sym}
use borrow.Author.Tests.{eqb-false, eqb-true}
use lib.Dec.{eqb}
use Rattle.laws.specs.Choice.{when◌then◌else◌}
use Rattle.laws.proofs.Choice.{if_both}
use Rattle.passage.specs.Passage.{own_stage, far_stage}
use Rattle.layout.specs.declared.Layout.{Layout}
use Rattle.layout.specs.Layout.{line_in}
use Rattle.reasons.specs.Refusal.{Refusal}
use Rattle.refusals.specs.Orders.{throw_refusal, set_refusal, secure_refusal, manual_refusal}
use Rattle.line_block.specs.OwnReadings.{own_stage_at, given_stages, own_stages}
use Rattle.line_block.specs.FarSections.{far_moved, far_stage_at, far_stages}
use Rattle.line_block.specs.LineRelease.{direction_after, directions_after}
use Rattle.interlocking.specs.declared.State.{State}
use Rattle.interlocking.specs.State.{tables_of, with_sections}
use Rattle.interlocking.specs.Own.{own_section}
use Rattle.interlocking.specs.Settle.{signals, far_sections, routes, arrivals, line_release, settle}
use Rattle.interlocking.specs.declared.Answer.{Answer}
use Rattle.interlocking.specs.Rows.{section_row, throw_row, set_row, secure_row, manual_row, row_with, row_of}
use Rattle.interlocking.specs.Step.{row_refusal, step_in_run, refusal, own, gives, after}
use Rattle.signals.specs.BlockSignals.{block_shows}
use Rattle.panel.specs.Panel.{distant_byte, block_bytes, line_bytes, image}
use Rattle.step_facts.proofs.Step.{step_done, step_refused}
use Rattle.step_facts.specs.Run.{Event, box_in_run}
use Rattle.safety.specs.WrongBoxes.{answers_by, step_by, refuses, does, read_by, stop_lit, move_by, secured, end_by}
use Rattle.safety.specs.WrongOrders.{asks_by, refuse_by}
use Rattle.safety.specs.WrongPanels.{image_by, its_way}
use Rattle.step_facts.specs.FarInState.{far_reading, far_dropped}
use Rattle.step_facts.proofs.Entries.{ends}

-- what is refused, what the event does itself, and all that follows
pub own_answer : (L : Layout) (s : State) (e : Event) → answers_by refuses (λ L s e. settle L s (does L s e) (gives L s e.kind e.first e.second)) L s e ≡ box_in_run L s e
unfolding box_in_run step_in_run after
own_answer L s e =
    if_both (λ (r : Answer). r ≡ box_in_run L s e) (eqb (refuses L s e).number 0)
    (λ t. sym (step_done _ L s e.kind e.first e.second (eqb-true _ 0 t))) (λ f. sym (step_refused _ L s e.kind e.first e.second (eqb-false _ 0 f)))

-- one part after the other
pub own_parts : (L : Layout) (s : State) (e : Event) → step_by refuses does signals far_sections routes arrivals line_release L s e ≡ box_in_run L s e
unfolding settle
own_parts L s e = own_answer L s e

-- what is refused of an event, by 30 and 34 (L1) and besides
pub own_asked : (L : Layout) (s : State) (e : Event) (k : ℕ) → asks_by k (λ row. row.misfit) (λ row. row.besides) L s e ≡ refuses L s e
unfolding refusal row_refusal
own_asked L s e k = if_both (λ (r : Refusal). r ≡ refuses L s e) (eqb e.kind k) (λ t. rw (eqb-true e.kind k t)) (λ f. refl)

-- what is refused of a throw, of a route that is set, of a line that is secured and of a manual release
pub own_refusals : (L : Layout) (s : State) (e : Event)
    → (refuse_by 3 (λ L s p w. throw_refusal L (tables_of s) p) L s e ≡ refuses L s e)
    × (refuse_by 4 (λ L s r b. set_refusal L (tables_of s) r) L s e ≡ refuses L s e)
    × (refuse_by 6 (λ L s l w. secure_refusal L (tables_of s) l w) L s e ≡ refuses L s e)
    × (refuse_by 7 (λ L s l ground. manual_refusal L (tables_of s) l) L s e ≡ refuses L s e)
unfolding row_of row_with throw_row set_row secure_row manual_row when◌then◌else◌
own_refusals L s e = (own_asked L s e 3, own_asked L s e 4, own_asked L s e 6, own_asked L s e 7)

-- a block's own reading
pub own_readings : (L : Layout) (s : State) (e : Event) → read_by stop_lit own_stage L s e ≡ does L s e
unfolding own row_of row_with section_row own_section own_stages given_stages own_stage_at with_sections when◌then◌else◌
own_readings L s e = if_both (λ (t : State). t ≡ does L s e) (eqb e.kind 1) (λ t. rw (eqb-true e.kind 1 t)) (λ f. refl)

-- far sections
pub own_far : (L : Layout) (before s : State)
    → move_by secured (λ L before s l i w was. far_stage (far_reading L s l i w) (far_dropped L before s l i w) was) L before s ≡ far_sections L before s
unfolding far_sections far_stages far_stage_at far_moved line_in
own_far L before s = refl

-- line release
pub own_release : (L : Layout) (before s : State) → end_by ends L before s ≡ line_release L before s
unfolding line_release directions_after direction_after line_in
own_release L before s = refl

-- the panel image
pub own_image : (L : Layout) (s : State) → image_by its_way distant_byte L s ≡ image L s
unfolding image line_bytes block_bytes block_shows
own_image L s = refl
