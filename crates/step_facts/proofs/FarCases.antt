-- Within one accepted event: what its far section does to a block, and that it opens none and shuts none; and what becomes of one that waits (L3).
use Prim.Native.Nat.{ℕ, ◌<◌, ◌≤◌}
use mathlib.Core.Path.{◌≡◌, refl, sym, ap, ◌∙◌}
use mathlib.Core.Logic.{◌≢◌, ◌⊎◌, ◌↔◌, inl, inr}
use mathlib.Core.Bool.{true}
use native.Mathlib.Omega.{arith}
use native.Mathlib.Decide.{ℕ_discrete}
use borrow.Author.Tests.{eqb-true, eqb-false, eq-eqb, ne_eqb}
use lib.Dec.{eqb}
use Rattle.laws.proofs.Choice.{if_both}
use Rattle.laws.proofs.Tests.{and_left, and_right, and_both, not_both}
use Rattle.track.specs.Sizes.{most_blocks}
use Rattle.tables.specs.Blocks.{place, is_open}
use Rattle.signals.specs.Signals.{enterable_by, enterable}
use Rattle.passage.specs.Passage.{far_stage}
use Rattle.line_block.specs.FarSections.{far_moved, far_stage_at, far_stages}
use Rattle.line_block.specs.PassingBack.{no_opening, arrives, waited_stage, waited_stage_at, passed_back}
use Rattle.layout.specs.declared.Layout.{Layout}
use Rattle.layout.specs.Layout.{line_in}
use Rattle.layout_facts.specs.Plain.{Sound}
use Rattle.interlocking.specs.declared.State.{State}
use Rattle.interlocking.specs.State.{with_routes, with_lines}
use Rattle.interlocking.specs.Settle.{proceeds_in, signals, far_sections, routes_by, routes, arrivals, line_release, settle}
use Rattle.interlocking.specs.Step.{after}
use Rattle.step_facts.specs.Run.{Event}
use Rattle.step_facts.specs.FarInState.{far_reading, far_dropped}
use Rattle.step_facts.proofs.Entries.{direction, stage, place_line, place_block, read_block}
use Rattle.step_facts.proofs.Within.{done, lit, moved, end}
use Rattle.line_block.proofs.PassingBackLaws.{not_waiting}

-- two numbers that are n together are tested alike
same_test : (x y n : ℕ) → (x ≡ n ↔ y ≡ n) → eqb x n ≡ eqb y n
same_test x y n f = go (ℕ_discrete y n)
  where
    go : Dec (y ≡ n) → eqb x n ≡ eqb y n
    go (yes q) = eq-eqb x n (f.1 q) ∙ sym (eq-eqb y n q)
    go (no q) = ne_eqb x n (λ z. q (f.0 z)) ∙ sym (ne_eqb y n q)

-- ---- its far section

-- what the far section does to a block of stage `was` in direction w: nothing, 1 to 2, or 2 to 1
pub data FarCase (L : Layout) (before s : State) (l i w was x : ℕ) : Type 0 where
  keeps : x ≡ was → (x ≡ 3 → w ≢ 0 → far_reading L s l i w ≢ 3) → (x ≡ 2 → w ≢ 0 → far_reading L s l i w ≡ 2 → far_dropped L before s l i w ≡ true → ⊥)
      → FarCase L before s l i w was x
  proves : x ≡ 3 → was ≡ 2 → w ≢ 0 → far_reading L s l i w ≡ 2 → far_dropped L before s l i w ≡ true → FarCase L before s l i w was x
  loses : x ≡ 2 → was ≡ 3 → far_reading L s l i w ≡ 3 → FarCase L before s l i w was x

-- by the tests of a block's far section, one after the other
far_case : (L : Layout) (before s : State) (l i was : ℕ) → i < most_blocks
    → FarCase L before s l i (direction s l) was (far_stage_at L.line s.direction s.section (proceeds_in L before) (proceeds_in L s) (place l i) was)
unfolding far_stage_at far_moved far_stage line_in
far_case L before s l i was b =
    rw (place_line l i b, place_block l i b)
    (if_both C (eqb w 0) (λ t. keeps refl (λ z d. absurd (d (eqb-true _ 0 t))) (λ z d. absurd (d (eqb-true _ 0 t))))
    (λ f. if_both C (eqb was 2)
    (λ t. if_both C _ (λ u. proves refl (eqb-true was 2 t) (eqb-false _ 0 f) (eqb-true _ 2 (and_left _ _ u)) (and_right _ _ u))
    (λ u. keeps (sym (eqb-true was 2 t)) (λ z d. absurd (omega arith)) (λ z d f p. not_both (and_both _ _ (eq-eqb _ 2 f) p) u)))
    (λ g. if_both C (eqb was 3)
    (λ t. if_both C (eqb (far_reading L s l i w) 3) (λ u. loses refl (eqb-true was 3 t) (eqb-true _ 3 u))
    (λ u. keeps (sym (eqb-true was 3 t)) (λ z d. eqb-false _ 3 u) (λ z d. absurd (omega arith))))
    (λ t. keeps refl (λ z d. absurd (eqb-false was 3 t z)) (λ z d. absurd (eqb-false was 2 g z))))))
  where
    w : ℕ
    w = direction s l

    C : ℕ → Type 0
    C = FarCase L before s l i w was

-- neither is open or stage 3
moving : (v : ℕ) → (2 ≤ v) × (v ≤ 3) → (v ≡ 0) ⊎ (v ≡ 4) → ⊥
moving v h (inl q) = omega arith
moving v h (inr q) = omega arith

-- what it does within the event
module _ (L : Layout) (S : Sound L) (s : State) (e : Event) (l i : ℕ) (b : l < L.lines) (c : i < (line_in L l).blocks) where
  few_blocks : i < most_blocks
  few_blocks = omega (arith, (S.ranges.lines l b).block_count)

  pub far_of : FarCase L s (lit L s e) l i (direction (done L s e) l) (stage (done L s e) l i) (stage (moved L s e) l i)
  unfolding with_lines routes routes_by with_routes far_sections far_stages signals
  far_of =
      rw (read_block l i few_blocks L.lines (far_stage_at L.line (lit L s e).direction (lit L s e).section (proceeds_in L s) (proceeds_in L (lit L s e))) (done L s e).stage b S.ranges.line_count)
      (far_case L s (lit L s e) l i _ few_blocks)

  -- far sections neither open a block nor shut one, and leave one that waits in stage 3
  pub far_keeps : (v : ℕ) → (v ≡ 0) ⊎ (v ≡ 4) → (stage (moved L s e) l i ≡ v ↔ stage (done L s e) l i ≡ v)
  far_keeps v idle = go far_of
    where
      go : FarCase L s (lit L s e) l i (direction (done L s e) l) (stage (done L s e) l i) (stage (moved L s e) l i)
          → (stage (moved L s e) l i ≡ v ↔ stage (done L s e) l i ≡ v)
      go (keeps x f g) = (λ q. sym x ∙ q, λ q. x ∙ q)
      go (proves x was d o p) = (λ q. absurd (moving v (omega arith) idle), λ q. absurd (moving v (omega arith) idle))
      go (loses x was far) = (λ q. absurd (moving v (omega arith) idle), λ q. absurd (moving v (omega arith) idle))

  -- ---- blocks that wait (L3)

  -- what becomes of it once routes are released
  pub end_of : stage (end L s e) l i
      ≡ waited_stage (line_in L l) (moved L s e).stage no_opening (arrives L.routes L.route s.phase (moved L s e).phase) l i (direction (done L s e) l)
      (stage (moved L s e) l i)
  unfolding after settle line_release with_lines arrivals passed_back waited_stage_at line_in routes routes_by with_routes far_sections signals
  end_of =
      read_block l i few_blocks L.lines (waited_stage_at L.line (moved L s e).direction no_opening (arrives L.routes L.route s.phase (moved L s e).phase) (moved L s e).stage) (moved L s e).stage b S.ranges.line_count
      ∙ rw (place_line l i few_blocks, place_block l i few_blocks)

  -- a block that does not wait is open at the end of the event just where the event itself left it open
  pub open_same : stage (done L s e) l i ≢ 4 → is_open (end L s e).stage l i ≡ is_open (done L s e).stage l i
  unfolding is_open
  open_same d = ap (λ n. eqb n 0) (end_of ∙ not_waiting _ _ _ _ l i _ (λ q. d ((far_keeps 4 (inr refl)).0 q))) ∙ same_test _ _ 0 (far_keeps 0 (inl refl))

  -- so a train may be let into it at the end just where it may after what the event does itself
  pub enterable_same : stage (done L s e) l i ≢ 4
      → enterable L.line (end L s e).point (end L s e).stage (end L s e).bar l i
      ≡ enterable L.line (done L s e).point (done L s e).stage (done L s e).bar l i
  unfolding enterable enterable_by after settle line_release with_lines arrivals routes routes_by with_routes far_sections signals
  enterable_same d = rw (open_same d)
