-- A block that waits in stage 3 opens with the event that frees what lies beyond it (L3), as it shows.
use Prim.Native.Nat.{ℕ, suc, ◌+◌, ◌-◌, ◌<◌, ◌≤◌}
use mathlib.Core.Path.{◌≡◌, refl, sym, ap, subst, ◌∙◌}
use mathlib.Core.Logic.{◌≢◌, ◌↔◌, inl, inr}
use mathlib.Core.Bool.{true}
use mathlib.Core.List.{List, ◌∷◌}
use native.Mathlib.Decide.{ℕ_discrete}
use native.Mathlib.Omega.{arith}
use borrow.Author.Tests.{eqb-true, eqb-false, ltb-true, ltb-false}
use lib.Dec.{eqb, ltb}
use Rattle.laws.specs.Tests.{◌and◌}
use Rattle.laws.proofs.Choice.{Is, holds, fails, which, chosen, passed_over}
use Rattle.track.specs.declared.Line.{Line}
use Rattle.track.specs.Codes.{a_to_b}
use Rattle.passage.specs.declared.Beyond.{Beyond}
use Rattle.passage.specs.declared.Beyond.TheVariants.{Block, Station}
use Rattle.passage.specs.Passage.{arrival, beyond, from_arrival}
use Rattle.layout.specs.declared.Layout.{Layout}
use Rattle.layout.specs.Layout.{line_in}
use Rattle.layout.specs.Sound.{sound}
use Rattle.layout_facts.specs.Plain.{Sound}
use Rattle.layout_facts.proofs.Sound.{sound_says}
use Rattle.interlocking.specs.declared.State.{State}
use Rattle.interlocking.specs.State.{in_range}
use Rattle.interlocking.specs.Step.{refusal, step}
use Rattle.step_facts.specs.Run.{Event, box, from_cold}
use Rattle.tables.specs.Blocks.{stage_of}
use Rattle.passage.proofs.Laws.{counted_twice}
use Rattle.step_facts.proofs.Openings.{Opens}
use Rattle.step_facts.proofs.Entries.{phase, direction, stage, block}
use Rattle.step_facts.proofs.Step.{step_refused}
use Rattle.step_facts.proofs.Within.{On, end}
use Rattle.panel.specs.Panel.{image}
use Rattle.panel.specs.Shown.{Panel, panel}
use Rattle.panel.proofs.Image.{shows_line, shows_block, shows_route}
use Rattle.safety.specs.History.{History, gave_section, gave_block, shown, moment, history}
use Rattle.safety.specs.Locked.{Locked}
use Rattle.safety.specs.Passing.{next, FreedNext, PassesBack}
use Rattle.safety.proofs.Given.{granted, gave_few}
use Rattle.safety.proofs.Blocks.{by_hand_now, stays_open, shown_stop, opens_with, waits_on, shut, entered}
use Rattle.safety.proofs.Through.{Case, BeyondNow, case_of, way_kept}
use Rattle.safety.proofs.Exact.{byte_idle}
use Rattle.safety.proofs.Kept.{run_has, accepted}
use Rattle.safety.proofs.Freed.{entrance_told}
use Rattle.safety.proofs.OneMore.{box_grants, one_more}
use Rattle.safety.proofs.Invariant.{Inv}

-- what lies beyond a block, counted from the arrival end: the next block is one less, and the station lies beyond the last
pub data Counted (b : Line) (w i : ℕ) : Beyond → Type 0 where
  next_block : {j : ℕ} → j < b.blocks → from_arrival b w i ≡ suc (from_arrival b w j) → Counted b w i (Block j)
  arrival_station : from_arrival b w i ≡ 0 → Counted b w i (Station (arrival w))

-- by the direction, and by whether the block is the last in it
counted : (b : Line) (i w : ℕ) → i < b.blocks → Counted b w i (beyond b i w)
unfolding beyond from_arrival arrival
counted b i w h = go (which (eqb w a_to_b)) (which (ltb (i + 1) b.blocks)) (which (eqb i 0))
  where
    before : i ≢ 0 → i ≡ suc (i - 1)
    before d = omega arith

    go : Is (eqb w a_to_b) → Is (ltb (i + 1) b.blocks) → Is (eqb i 0) → Counted b w i (beyond b i w)
    go (holds a) (holds x) c =
        let z = ltb-true (i + 1) b.blocks x in
        rw (chosen _ _ _ a, chosen _ _ _ x) (next_block z (rw (chosen _ _ _ a, chosen _ _ _ a) (omega arith)))
    go (holds a) (fails x) c =
        let z = ltb-false (i + 1) b.blocks x in
        rw (chosen _ _ _ a, passed_over _ _ _ x) (subst (λ e. Counted b w i (Station e)) (chosen _ _ _ a) (arrival_station (chosen _ _ _ a ∙ omega arith)))
    go (fails a) x (holds c) =
        let z = eqb-true i 0 c in
        rw (passed_over _ _ _ a, chosen _ _ _ c) (subst (λ e. Counted b w i (Station e)) (passed_over _ _ _ a) (arrival_station (passed_over _ _ _ a ∙ z)))
    go (fails a) x (fails c) =
        let z = eqb-false i 0 c in
        rw (passed_over _ _ _ a, passed_over _ _ _ c) (next_block {j = i - 1} (omega arith) (passed_over _ _ _ a ∙ before z ∙ ap suc (sym (passed_over _ _ _ a))))

module _ (L : Layout) (ok : sound L ≡ true) (es : List Event) (l i : ℕ) (e : Event) (b : l < L.lines) (c : i < (line_in L l).blocks) where
  -- the state before the event, and what the history has to do with it
  S : Sound L
  S = sound_says L ok

  abbrev s : State
  s = from_cold L es

  abbrev h : History
  h = history L es

  I : Inv L s h
  I = run_has L ok es

  -- what a block or a route shows before the event
  block_before : (j : ℕ) → j < (line_in L l).blocks → (shown L h).block l j ≡ stage s l j
  block_before j k = ap (λ (p : Panel). p.block l j) I.seen ∙ shows_block L s l j b k

  -- ---- an accepted event

  module _ (pass : (refusal (sound L and in_range s) L s e.kind e.first e.second).number ≡ 0) (four : stage s l i ≡ 4)
      (few : gave_block L l i (granted L s e) h ≤ 1) where
    -- the block opens unless nothing beyond it does
    opens_unless : (¬ On 7 e l → BeyondNow L S s h I e pass l b i c) → stage (end L s e) l i ≡ 0
    opens_unless beyond_opens = go (case_of L S s h I e pass l b i c)
      where
        go : Case L S s h I e pass l b i c → stage (end L s e) l i ≡ 0
        go (by_hand_now u v x) = x
        go (stays_open n v was x) = x
        go (shown_stop n v was t x) = x
        go (opens_with n wait B x) = x
        go (waits_on n wait B x) = absurd (B (beyond_opens n))
        go (shut n (inl v) x) = absurd (omega arith)
        go (shut n (inr (inl v)) x) = absurd (v.3 four)
        go (shut n (inr (inr v)) x) = absurd (omega (arith, v.1))
        go (entered n y (inl v) three far) = absurd (omega (arith, v.0))
        go (entered n y (inr v) three far) = absurd (omega (arith, three, v.2))

    -- a route is locked after the event just where the history tells so
    locks_then : (r : ℕ) → r < L.routes → (phase (end L s e) r ≢ 0 ↔ Locked L r (granted L s e ∷ h))
    locks_then r k = ((accepted L ok S s h I e pass).routes r k).locks

    -- what lies beyond it opens where what shows tells so
    beyond_shown : (w : ℕ) → direction s l ≡ w → ¬ On 7 e l → (x : Beyond) → Counted (line_in L l) w i x
        → FreedNext L l (panel L (image L s)) (panel L (image L (end L s e))) x → BeyondNow L S s h I e pass l b i c
    unfolding FreedNext Opens stage_of
    beyond_shown w way n x (next_block {j} k q) (held, opened) =
        let kept = way_kept L S s h I e pass l b i c (omega arith) n in
        let again = counted_twice (line_in L l) w j k in
        rw (kept.1, way, q, again) (
          λ z. held (shows_block L s l j b k ∙ z),
          sym (shows_block L (end L s e) l j b k) ∙ opened,
        )
    beyond_shown w way n x (arrival_station q) (r, there, entrance, line, end_of_lem, was, gone) =
        let kept = way_kept L S s h I e pass l b i c (omega arith) n in
        rw (kept.1, way, q)
        ((entrance_told L S s h I e pass locks_then l b n w).0 (
          r,
          record {
            there = there;
            is_entrance = entrance;
            of_line = line;
            of_end = end_of_lem;
            locked = (I.routes r there).locks.0 (λ z. was (shows_route L s r there ∙ (byte_idle (phase s r)).1 z));
            released = λ k. (locks_then r there).1 k ((byte_idle (phase (end L s e) r)).0 (sym (shows_route L (end L s e) r there) ∙ gone));
          },
        ))

  -- ---- either way

  -- the event is refused: what shows stays, so nothing is freed
  still_shown : (refusal (sound L and in_range s) L s e.kind e.first e.second).number ≢ 0 → (x : Beyond)
      → FreedNext L l (shown L h) (shown L (next L es e ∷ h)) x → ⊥
  unfolding moment shown box step FreedNext
  still_shown d (Block j) (held, opened) = held (ap (λ (p : Panel). p.block l j) same ∙ opened)
    where
      same : shown L h ≡ panel L (image L (box L s e).next)
      same = I.seen ∙ rw (step_refused _ L s e.kind e.first e.second d) refl
  still_shown d (Station k) (r, there, entrance, line, end_of_lem, was, gone) = was (ap (λ (p : Panel). p.route r) same ∙ gone)
    where
      same : shown L h ≡ panel L (image L (box L s e).next)
      same = I.seen ∙ rw (step_refused _ L s e.kind e.first e.second d) refl

  -- so it is open after the event
  opens_back : (w : ℕ) → (shown L h).block l i ≡ 4 → (shown L h).line l ≡ w → gave_block L l i (next L es e) h ≢ 2 → gave_block L l i (next L es e) h ≢ 3
      → FreedNext L l (shown L h) (shown L (next L es e ∷ h)) (beyond (line_in L l) i w) → (shown L (next L es e ∷ h)).block l i ≡ 0
  unfolding moment gave_section shown
  opens_back w waits way not_taken not_None freed = go (ℕ_discrete (refusal (sound L and in_range s) L s e.kind e.first e.second).number 0)
    where
      go : Dec ((refusal (sound L and in_range s) L s e.kind e.first e.second).number ≡ 0) → (shown L (next L es e ∷ h)).block l i ≡ 0
      go (no d) = absurd (still_shown d _ freed)
      go (yes p) =
          let few : gave_block L l i (granted L s e) h ≤ 1 = let most = gave_few L (block L l i) (granted L s e) h in omega arith in
          let four : stage s l i ≡ 4 = sym (block_before i c) ∙ waits in
          let secured : direction s l ≡ w = sym (ap (λ (q : Panel). q.line l) I.seen ∙ shows_line L s l b) ∙ way in
          rw (box_grants L s e p)
          (shows_block L (end L s e) l i b c
          ∙ opens_unless p four few (λ n. beyond_shown p four few w secured n _ (counted (line_in L l) i w c) (rw (I.seen, box_grants L s e p) at freed)))

pub passes_back : (L : Layout) → sound L ≡ true → PassesBack L
passes_back L ok es l i w e b c waits way not_taken not_None freed =
    rw (one_more L es e) (opens_back L ok es l i e b c w waits way not_taken not_None (rw (one_more L es e) at freed))
