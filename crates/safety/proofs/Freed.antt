-- What an accepted event frees beyond a block, as the history tells it, is what opens there in the box (L3): along the line, from the arrival end back.
use Prim.Native.Nat.{ℕ, zero, suc, ◌<◌, ◌≤◌}
use mathlib.Core.Path.{◌≡◌, sym, ap, subst, ◌∙◌}
use mathlib.Core.Logic.{◌≢◌, ◌⊎◌, ◌↔◌, inl, inr}
use mathlib.Core.HLevel.{dec→stable}
use mathlib.Core.Bool.{true, not}
use mathlib.Core.List.{◌∷◌}
use native.Mathlib.Decide.{ℕ_discrete}
use native.Mathlib.Omega.{arith}
use borrow.Author.Tests.{eqb-true, eqb-false, eq-eqb, ne_eqb, not-true, not-false}
use Rattle.laws.specs.Tests.{◌and◌}
use Rattle.laws.proofs.Tests.{and_left, and_right, and_both, any_some, any_at, fails_not, not_both}
use Rattle.track.specs.Codes.{entrance_route}
use Rattle.tables.specs.Locks.{locked}
use Rattle.tables.specs.Blocks.{stage_of}
use Rattle.passage.specs.Passage.{arrival, from_arrival}
use Rattle.line_block.specs.PassingBack.{released_entrance_by, arrives}
use Rattle.layout.specs.declared.Layout.{Layout}
use Rattle.layout.specs.Layout.{line_in, route_in}
use Rattle.layout.specs.Sound.{sound}
use Rattle.layout_facts.specs.Plain.{Sound}
use Rattle.interlocking.specs.declared.State.{State}
use Rattle.interlocking.specs.State.{in_range, with_lines}
use Rattle.interlocking.specs.Settle.{arrivals, line_release, settle}
use Rattle.interlocking.specs.Step.{refusal, after}
use Rattle.step_facts.specs.Run.{Event}
use Rattle.step_facts.proofs.Entries.{phase, direction, stage, block}
use Rattle.step_facts.proofs.Passed.{two_ways}
use Rattle.step_facts.proofs.Within.{On, done, end}
use Rattle.passage.proofs.Laws.{counted_below, counted_twice}
use Rattle.step_facts.proofs.Openings.{Opens}
use Rattle.safety.specs.History.{History, gave_block, LeavesFree}
use Rattle.safety.specs.Locked.{Locked}
use Rattle.safety.specs.Cleared.{Closes, StopLit, ReleasesEntrance, WaitsFor, CompletedBy, while_lit, with_beyond, later, FreesBeyond, Completed}
use Rattle.safety.proofs.Given.{granted}
use Rattle.safety.proofs.Told.{reads_anew, waits_free, left_free, free_given, closing}
use Rattle.safety.proofs.LampsTold.{lit_told}
use Rattle.safety.proofs.Blocks.{by_hand_now, stays_open, shown_stop, opens_with, waits_on, shut, entered}
use Rattle.safety.proofs.Through.{arrived, OpensBeyond, way_kept, lit_now, BeyondNow, Case, case_of, far_leaves}
use Rattle.safety.proofs.Invariant.{Inv}

module _ (L : Layout) (S : Sound L) (s : State) (h : History) (I : Inv L s h) (e : Event)
    (pass : (refusal (sound L and in_range s) L s e.kind e.first e.second).number ≡ 0)
    (locks : (r : ℕ) → r < L.routes → (phase (end L s e) r ≢ 0 ↔ Locked L r (granted L s e ∷ h))) (l : ℕ) (b : l < L.lines) (n : ¬ On 7 e l) where
  -- an entrance route of the arrival end is released in the box just where the history tells so
  pub entrance_told : (w : ℕ) → ((r : ℕ) × ReleasesEntrance L l w (granted L s e) h r) ↔ (arrived L s e l w ≡ true)
  unfolding arrives released_entrance_by locked route_in after settle line_release with_lines arrivals
  entrance_told w = (there, back)
    where
      there : (r : ℕ) × ReleasesEntrance L l w (granted L s e) h r → arrived L s e l w ≡ true
      there (r, R) =
          let was = (I.routes r R.there).locks.1 R.locked in
          let gone : phase (end L s e) r ≡ 0 = dec→stable (ℕ_discrete _ 0) (λ d. R.released ((locks r R.there).0 d)) in
          any_at _ _ r R.there
          (and_both _ _ (and_both _ _ (fails_not _ (ne_eqb _ 0 was)) (ap not (ap not (eq-eqb _ 0 gone))))
          (and_both _ _ (eq-eqb _ entrance_route R.is_entrance) (and_both _ _ (eq-eqb _ l R.of_line) (eq-eqb _ (arrival w) R.of_end))))

      back : arrived L s e l w ≡ true → (r : ℕ) × ReleasesEntrance L l w (granted L s e) h r
      back t =
          let (r, there, x) = any_some _ _ t in
          let was = eqb-false (phase s r) 0 (not-true _ (and_left _ _ (and_left _ _ x))) in
          let gone = eqb-true (phase (end L s e) r) 0 (not-false _ (not-true _ (and_right _ _ (and_left _ _ x)))) in (
            r,
            record {
              there = there;
              is_entrance = eqb-true _ entrance_route (and_left _ _ (and_right _ _ x));
              of_line = eqb-true _ l (and_left _ _ (and_right _ _ (and_right _ _ x)));
              of_end = eqb-true _ (arrival w) (and_right _ _ (and_right _ _ (and_right _ _ x)));
              locked = (I.routes r there).locks.0 was;
              released = λ k. (locks r there).1 k gone;
            },
          )

  -- one block, in direction w
  module _ (w : ℕ) (way : direction (done L s e) l ≡ w) (z : w ≢ 0) (i : ℕ) (c : i < (line_in L l).blocks) where
    -- how many blocks lie beyond it
    abbrev d : ℕ
    d = from_arrival (line_in L l) w i

    -- what lies beyond it, by the direction that the event leaves
    beyond_now : OpensBeyond L s e l w d ↔ BeyondNow L S s h I e pass l b i c
    beyond_now = rw way (λ x. x, λ x. x)

    -- in stage 2 or 3 its line is secured that way
    secured_way : 3 ≤ stage s l i → direction s l ≡ w
    secured_way held = sym (way_kept L S s h I e pass l b i c held n).1 ∙ way

    -- whether its far signal shows stop, by its lamp
    lit_way : 3 ≤ stage s l i → (lit_now L S s h I e pass l b i c ≡ true ↔ StopLit L l i w h)
    lit_way held = subst (λ v. lit_now L S s h I e pass l b i c ≡ true ↔ StopLit L l i v h) (secured_way held) (lit_told L S s h I l i b c (way_kept L S s h I e pass l b i c held n).0 (two_ways L s e pass l))

    -- where what lies beyond it is told as it opens, its passage is completed just where it was held and is open at the end
    module _ (told : FreesBeyond L l w d (granted L s e) h ↔ OpensBeyond L s e l w d) where
      -- given free in stage 2, it opens where its stop is shown, or with what lies beyond it
      closes_opens : Closes L l i w (granted L s e) h → StopLit L l i w h ⊎ OpensBeyond L s e l w d → (stage s l i ≢ 0) × (stage (end L s e) l i ≡ 0)
      closes_opens C x = (omega (arith, three), go x (case_of L S s h I e pass l b i c))
        where
          three : stage s l i ≡ 3
          three = ((I.blocks l i b c).waits w C.passage).0

          free : gave_block L l i (granted L s e) h ≡ 1
          free = reads_anew (gave_block L l i) (granted L s e) h 1 C.ends.1 C.ends.0

          go : StopLit L l i w h ⊎ OpensBeyond L s e l w d → Case L S s h I e pass l b i c → stage (end L s e) l i ≡ 0
          go k (by_hand_now u v x) = x
          go k (stays_open m v was x) = x
          go k (shown_stop m v was t x) = x
          go k (opens_with m wait B x) = x
          go (inl k) (waits_on m (inl wait) B x) = absurd (not_both ((lit_way (omega (arith, three))).1 k) wait.2)
          go (inl k) (waits_on m (inr wait) B x) = absurd (omega (arith, three, wait.1))
          go (inr k) (waits_on m wait B x) = absurd (B (beyond_now.0 k))
          go k (shut m (inl v) x) = absurd (omega (arith, free))
          go k (shut m (inr (inl v)) x) = absurd (v.2 three)
          go k (shut m (inr (inr v)) x) = absurd (omega (arith, three, v.1))
          go k (entered m y (inl v) few far) = absurd (omega (arith, free, v.0))
          go k (entered m y (inr v) few far) = absurd (v.0 free)

      -- waiting in stage 3, with what lies beyond it
      waits_opens : WaitsFor L l i w (FreesBeyond L l w d) h → LeavesFree (gave_block L l i) (granted L s e) h → OpensBeyond L s e l w d
          → (stage s l i ≢ 0) × (stage (end L s e) l i ≡ 0)
      waits_opens W f k = (omega (arith, four), go (case_of L S s h I e pass l b i c))
        where
          four : stage s l i ≡ 4
          four = ((I.blocks l i b c).held w W).0

          few : gave_block L l i (granted L s e) h ≤ 1
          few = free_given L l i (granted L s e) h f

          go : Case L S s h I e pass l b i c → stage (end L s e) l i ≡ 0
          go (by_hand_now u v x) = x
          go (stays_open m v was x) = x
          go (shown_stop m v was t x) = x
          go (opens_with m wait B x) = x
          go (waits_on m wait B x) = absurd (B (beyond_now.0 k))
          go (shut m (inl v) x) = absurd (omega (arith, few))
          go (shut m (inr (inl v)) x) = absurd (v.3 four)
          go (shut m (inr (inr v)) x) = absurd (omega (arith, four, v.1))
          go (entered m y (inl v) few3 far) = absurd (omega (arith, few, v.0))
          go (entered m y (inr v) few3 far) = absurd (omega (arith, four, v.2))

      -- so told
      completes : CompletedBy L l i w (FreesBeyond L l w d) (granted L s e) h → (stage s l i ≢ 0) × (stage (end L s e) l i ≡ 0)
      completes (while_lit C t) = closes_opens C (inl t)
      completes (with_beyond C B) = closes_opens C (inr (told.0 B))
      completes (later W f B) = waits_opens W f (told.0 B)

      -- the free reading that finds it in stage 2
      closes_now : gave_block L l i (granted L s e) h ≡ 1 → stage s l i ≡ 3 → Closes L l i w (granted L s e) h
      closes_now v was =
          closing L l i (granted L s e) h w v ((I.blocks l i b c).enters.0 (omega arith)) (rw (secured_way (omega arith)) at ((I.blocks l i b c).passes was).1)

      -- the other way round
      is_completed : stage s l i ≢ 0 → stage (end L s e) l i ≡ 0 → CompletedBy L l i w (FreesBeyond L l w d) (granted L s e) h
      is_completed o q = go (case_of L S s h I e pass l b i c)
        where
          go : Case L S s h I e pass l b i c → CompletedBy L l i w (FreesBeyond L l w d) (granted L s e) h
          go (by_hand_now u v x) = absurd (n u)
          go (stays_open m v was x) = absurd (o was)
          go (shown_stop m v was t x) = while_lit (closes_now v was) ((lit_way (omega arith)).0 t)
          go (opens_with m (inl wait) B x) = with_beyond (closes_now wait.0 wait.1) (told.1 (beyond_now.1 B))
          go (opens_with m (inr wait) B x) =
              let W = ((I.blocks l i b c).holds wait.1).1 in
              let W' : WaitsFor L l i w (FreesBeyond L l w d) h = rw (secured_way (omega (arith, wait.1))) at W in
              later W' (left_free L l i (granted L s e) h (omega (arith, wait.0)) (omega (arith, wait.0)) (waits_free L l i w _ h W')) (told.1 (beyond_now.1 B))
          go (waits_on m wait B x) = absurd (omega arith)
          go (shut m v x) = absurd (omega arith)
          go (entered m y v few far) = absurd (let k = far_leaves L S s h I e pass l b i c few far in omega arith)

      pub completed_told : CompletedBy L l i w (FreesBeyond L l w d) (granted L s e) h ↔ ((stage s l i ≢ 0) × (stage (end L s e) l i ≡ 0))
      completed_told = (completes, λ x. is_completed x.0 x.1)

  -- along the line, from the arrival end back
  pub frees_told : (w : ℕ) → direction (done L s e) l ≡ w → w ≢ 0 → (d : ℕ) → d ≤ (line_in L l).blocks → FreesBeyond L l w d (granted L s e) h ↔ OpensBeyond L s e l w d
  unfolding FreesBeyond Opens stage_of
  frees_told w way z zero k = entrance_told w
  frees_told w way z (suc d) k =
      let c = counted_below (line_in L l) w d (omega arith) in
      let again = counted_twice (line_in L l) w d (omega arith) in
      subst (λ m. CompletedBy L l (from_arrival (line_in L l) w d) w (FreesBeyond L l w m) (granted L s e) h
      ↔ ((stage s l (from_arrival (line_in L l) w d) ≢ 0) × (stage (end L s e) l (from_arrival (line_in L l) w d) ≡ 0))) again
      (completed_told w way z _ c (subst (λ m. FreesBeyond L l w m (granted L s e) h ↔ OpensBeyond L s e l w m) (sym again) (frees_told w way z d (omega arith))))

  -- ---- so of each block of the line

  module _ (i : ℕ) (c : i < (line_in L l).blocks) where
    -- a block whose passage the event completes was in stage 2 or 3, and its line secured that way
    pub completed_way : (w : ℕ) → Completed L l i w (granted L s e) h → (3 ≤ stage s l i) × (direction s l ≡ w)
    completed_way w (while_lit C t) = let x = (I.blocks l i b c).waits w C.passage in (omega (arith, x.0), x.1)
    completed_way w (with_beyond C B) = let x = (I.blocks l i b c).waits w C.passage in (omega (arith, x.0), x.1)
    completed_way w (later W f B) = let x = (I.blocks l i b c).held w W in (omega (arith, x.0), x.1)

    -- in stage 2 or 3 what lies beyond it is told as it opens
    pub beyond_told : (held : 3 ≤ stage s l i)
        → (FreesBeyond L l (direction s l) (from_arrival (line_in L l) (direction s l) i) (granted L s e) h ↔ BeyondNow L S s h I e pass l b i c)
    beyond_told held =
        let kept = way_kept L S s h I e pass l b i c held n in
        rw kept.1 (frees_told (direction s l) kept.1 kept.0 _ (let k = counted_below (line_in L l) (direction s l) i c in omega arith))

    -- it completes its passage just where it opens it
    pub opens_completed : (held : 3 ≤ stage s l i) → (Completed L l i (direction s l) (granted L s e) h ↔ ((stage s l i ≢ 0) × (stage (end L s e) l i ≡ 0)))
    opens_completed held =
        let kept = way_kept L S s h I e pass l b i c held n in
        completed_told (direction s l) kept.1 kept.0 i c
        (frees_told (direction s l) kept.1 kept.0 _ (let k = counted_below (line_in L l) (direction s l) i c in omega arith))
