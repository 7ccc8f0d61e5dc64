-- Stage 3 (L3): through an accepted event a block is in it just where the history tells that it waits until what lies beyond it is freed, and its line is
-- secured that way.
use Prim.Native.Nat.{ℕ, ◌<◌, ◌≤◌}
use mathlib.Core.Path.{◌≡◌, refl, ◌∙◌, sym, subst}
use mathlib.Core.Logic.{◌≢◌, ◌↔◌, inl, inr}
use mathlib.Core.Bool.{true}
use mathlib.Core.List.{◌∷◌}
use native.Mathlib.Omega.{arith}
use Rattle.laws.specs.Tests.{◌and◌}
use Rattle.laws.proofs.Tests.{not_both}
use Rattle.layout.specs.declared.Layout.{Layout}
use Rattle.layout.specs.Layout.{line_in}
use Rattle.layout.specs.Sound.{sound}
use Rattle.layout_facts.specs.Plain.{Sound}
use Rattle.interlocking.specs.declared.State.{State}
use Rattle.interlocking.specs.State.{in_range}
use Rattle.interlocking.specs.Step.{refusal}
use Rattle.step_facts.specs.Run.{Event}
use Rattle.safety.specs.History.{History, gave_block, Since}
use Rattle.safety.specs.Locked.{Locked}
use Rattle.safety.specs.Cleared.{StopLit, Waits}
use Rattle.step_facts.proofs.Entries.{phase, direction, stage}
use Rattle.step_facts.proofs.Passed.{two_ways}
use Rattle.step_facts.proofs.Within.{On, done, end, direction_held}
use Rattle.safety.proofs.Given.{granted, order_gives_nothing}
use Rattle.safety.proofs.Told.{reads_anew, waits_free, left_free, free_given, closing}
use Rattle.safety.proofs.LampsTold.{lit_told}
use Rattle.safety.proofs.Blocks.{by_hand_now, stays_open, shown_stop, opens_with, waits_on, shut, entered}
use Rattle.safety.proofs.Through.{way_kept, lit_now, Case, far_leaves, case_of}
use Rattle.safety.proofs.Freed.{beyond_told}
use Rattle.safety.proofs.Invariant.{Inv}

module _ (L : Layout) (S : Sound L) (s : State) (h : History) (I : Inv L s h) (e : Event)
    (pass : (refusal (sound L and in_range s) L s e.kind e.first e.second).number ≡ 0)
    (locks : (r : ℕ) → r < L.routes → (phase (end L s e) r ≢ 0 ↔ Locked L r (granted L s e ∷ h))) (l i : ℕ) (b : l < L.lines) (c : i < (line_in L l).blocks) where
  -- whether the far signal shows stop, by its lamp
  lit_then : 3 ≤ stage s l i → ¬ On 7 e l → (lit_now L S s h I e pass l b i c ≡ true ↔ StopLit L l i (direction s l) h)
  lit_then held n = lit_told L S s h I l i b c (way_kept L S s h I e pass l b i c held n).0 (two_ways L s e pass l)

  -- a block in stage 3 came there by this event, or was there and nothing took it: it waits, in the direction of its line
  pub holds_then : stage (end L s e) l i ≡ 4 → (direction (end L s e) l ≢ 0) × Waits L l i (direction (end L s e) l) (granted L s e ∷ h)
  unfolding Since
  holds_then z = subst (λ w. (w ≢ 0) × Waits L l i w (granted L s e ∷ h)) (sym unmoved) (go (case_of L S s h I e pass l b i c))
    where
      unmoved : direction (end L s e) l ≡ direction (done L s e) l
      unmoved = direction_held L S.ranges.line_count s e l b i c (omega arith)

      go : Case L S s h I e pass l b i c → (direction (done L s e) l ≢ 0) × Waits L l i (direction (done L s e) l) (granted L s e ∷ h)
      go (by_hand_now u v x) = absurd (omega arith)
      go (stays_open n v was x) = absurd (omega arith)
      go (shown_stop n v was t x) = absurd (omega arith)
      go (opens_with n w B x) = absurd (omega arith)
      go (waits_on n (inl w) B x) =
          let kept = way_kept L S s h I e pass l b i c (omega (arith, w.1)) n in
          let P = ((I.blocks l i b c).passes w.1).1 in
          let C = closing L l i (granted L s e) h _ w.0 ((I.blocks l i b c).enters.0 (omega (arith, w.1))) P in
          rw kept.1
          (kept.0, inl (C, (λ q. not_both ((lit_then (omega (arith, w.1)) n).1 q) w.2), λ q. B ((beyond_told L S s h I e pass locks l b n i c (omega (arith, w.1))).0 q)))
      go (waits_on n (inr w) B x) =
          let kept = way_kept L S s h I e pass l b i c (omega (arith, w.1)) n in
          let W = ((I.blocks l i b c).holds w.1).1 in
          let f = left_free L l i (granted L s e) h (omega (arith, w.0)) (omega (arith, w.0)) (waits_free L l i _ _ h W) in
          let V : Waits L l i (direction (done L s e) l) h = rw kept.1 W in
          rw kept.1
          (kept.0, inr ((f, (λ u. n (u.1, u.2)), λ q. B ((beyond_told L S s h I e pass locks l b n i c (omega (arith, w.1))).0 q)), V))
      go (shut n v x) = absurd (omega arith)
      go (entered n y v few far) = absurd (let k = far_leaves L S s h I e pass l b i c few far in omega arith)

  -- what is told of it then
  abbrev Waiting : ℕ → Type 0
  Waiting w = (stage (end L s e) l i ≡ 4) × (direction (end L s e) l ≡ w)

  -- a block that comes to wait, or waits: neither did its far lamp show stop nor did anything beyond it open
  pub held_then : (w : ℕ) → Waits L l i w (granted L s e ∷ h) → Waiting w
  unfolding Since
  held_then w (inl (C, dark, none)) = (four, direction_held L S.ranges.line_count s e l b i c (omega (arith, four)) ∙ kept.1 ∙ was.1)
    where
      was : (stage s l i ≡ 3) × (direction s l ≡ w)
      was = (I.blocks l i b c).waits w C.passage

      free : gave_block L l i (granted L s e) h ≡ 1
      free = reads_anew (gave_block L l i) (granted L s e) h 1 C.ends.1 C.ends.0

      n : ¬ On 7 e l
      n u = let q : gave_block L l i (granted L s e) h ≡ 0 = order_gives_nothing L _ (granted L s e) h (let k = u.0 in (omega arith, omega arith)) in omega (arith, free)

      kept : (direction s l ≢ 0) × (direction (done L s e) l ≡ direction s l)
      kept = way_kept L S s h I e pass l b i c (omega (arith, was.0)) n

      go : Case L S s h I e pass l b i c → stage (end L s e) l i ≡ 4
      go (by_hand_now u v x) = absurd (n u)
      go (stays_open m v q x) = absurd (omega (arith, was.0))
      go (shown_stop m v q t x) = absurd (dark (rw was.1 at ((lit_then (omega (arith, was.0)) n).0 t)))
      go (opens_with m q B x) = absurd (none (rw was.1 at ((beyond_told L S s h I e pass locks l b n i c (omega (arith, was.0))).1 B)))
      go (waits_on m q B x) = x
      go (shut m (inl v) x) = absurd (omega (arith, free))
      go (shut m (inr (inl v)) x) = absurd (v.2 was.0)
      go (shut m (inr (inr v)) x) = absurd (omega (arith, free, v.0))
      go (entered m y (inl v) few far) = absurd (omega (arith, free, v.0))
      go (entered m y (inr v) few far) = absurd (v.0 free)

      four : stage (end L s e) l i ≡ 4
      four = go (case_of L S s h I e pass l b i c)
  held_then w (inr ((f, hand, none), W)) = (four, direction_held L S.ranges.line_count s e l b i c (omega (arith, four)) ∙ kept.1 ∙ was.1)
    where
      was : (stage s l i ≡ 4) × (direction s l ≡ w)
      was = (I.blocks l i b c).held w W

      n : ¬ On 7 e l
      n u = hand (refl, u.0, u.1)

      kept : (direction s l ≢ 0) × (direction (done L s e) l ≡ direction s l)
      kept = way_kept L S s h I e pass l b i c (omega (arith, was.0)) n

      few_given : gave_block L l i (granted L s e) h ≤ 1
      few_given = free_given L l i (granted L s e) h f

      go : Case L S s h I e pass l b i c → stage (end L s e) l i ≡ 4
      go (by_hand_now u v x) = absurd (n u)
      go (stays_open m v q x) = absurd (omega (arith, was.0))
      go (shown_stop m v q t x) = absurd (omega (arith, was.0))
      go (opens_with m q B x) = absurd (none (rw was.1 at ((beyond_told L S s h I e pass locks l b n i c (omega (arith, was.0))).1 B)))
      go (waits_on m q B x) = x
      go (shut m (inl v) x) = absurd (omega (arith, few_given))
      go (shut m (inr (inl v)) x) = absurd (v.3 was.0)
      go (shut m (inr (inr v)) x) = absurd (omega (arith, was.0, v.1))
      go (entered m y (inl v) few far) = absurd (omega (arith, few_given, v.0))
      go (entered m y (inr v) few far) = absurd (omega (arith, was.0, few, v.2))

      four : stage (end L s e) l i ≡ 4
      four = go (case_of L S s h I e pass l b i c)
