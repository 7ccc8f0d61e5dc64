-- Lamps (L3): what a lamp reports in the state is what the history tells, and so whether the far signal of a block shows stop.
use Prim.Native.Nat.{ℕ, ◌<◌, ◌≤◌}
use mathlib.Core.Path.{◌≡◌, sym, ◌∙◌}
use mathlib.Core.Logic.{◌≢◌, ◌↔◌}
use mathlib.Core.Bool.{true}
use mathlib.Core.List.{List, ◌∷◌}
use native.Mathlib.Decide.{ℕ_discrete}
use native.Mathlib.Omega.{arith}
use borrow.Author.Tests.{eqb-true, eq-eqb, ne_eqb}
use Rattle.laws.specs.Tests.{◌and◌}
use Rattle.laws.specs.Tables.{put}
use Rattle.laws.proofs.Choice.{chosen, passed_over}
use Rattle.laws.proofs.Tests.{and_left, and_right, and_both, fails_from}
use Rattle.track.specs.Codes.{report_lamp, lamp_stop}
use Rattle.track.specs.Sizes.{most_lamps}
use Rattle.track.specs.Signal.{main, into}
use Rattle.track.specs.SignalNumbers.{number_of}
use Rattle.track.proofs.SignalNumbers.{one_number}
use Rattle.tables.specs.Readings.{recorded}
use Rattle.passage.specs.declared.Beyond.{Beyond}
use Rattle.passage.specs.Passage.{beyond, signal_at}
use Rattle.passage.specs.Passage as passage
use Rattle.lamps.specs.Lamps.{lamp_of, far_lamp, far_stop_lit}
use Rattle.layout.specs.declared.Layout.{Layout}
use Rattle.layout.specs.Layout.{line_in, signals_in}
use Rattle.layout.specs.Sound.{sound}
use Rattle.layout_facts.specs.Plain.{entrance_signal, Sound}
use Rattle.interlocking.specs.declared.State.{State}
use Rattle.interlocking.specs.State.{in_range}
use Rattle.interlocking.specs.Step.{refusal}
use Rattle.step_facts.specs.Run.{Event}
use Rattle.step_facts.proofs.Entries.{direction, put_here, put_elsewhere}
use Rattle.step_facts.proofs.Granted.{lamp_granted}
use Rattle.step_facts.proofs.Lamps.{LampCase, reported, left, lamps_of}
use Rattle.step_facts.proofs.Within.{On, end}
use Rattle.safety.specs.History.{Moment, History, lamp_told}
use Rattle.safety.specs.Cleared.{far_signal, StopLit}
use Rattle.safety.proofs.Given.{granted}
use Rattle.safety.proofs.Beyond.{BeyondCase, a_block, a_station, beyond_case}
use Rattle.safety.proofs.Signals.{one_each_way, far_signal_law, all_signals}
use Rattle.safety.proofs.Invariant.{Inv}

-- ---- the history

module _ (m : Moment) (h : History) (x : ℕ) where
  -- a report of the lamp: what is recorded of its code
  lamp_told_law : On report_lamp m.event x → lamp_told x (m ∷ h) ≡ recorded m.event.second
  unfolding lamp_told recorded
  lamp_told_law u = chosen _ _ _ (and_both _ _ (eq-eqb _ report_lamp u.0) (eq-eqb _ x u.1))

  -- any other event leaves it
  pub lamp_kept : ¬ On report_lamp m.event x → lamp_told x (m ∷ h) ≡ lamp_told x h
  unfolding lamp_told
  lamp_kept n = passed_over _ _ _ (fails_from _ (λ t. n (eqb-true _ report_lamp (and_left _ _ t), eqb-true _ x (and_right _ _ t))))

-- ---- the state

module _ (L : Layout) (S : Sound L) (s : State) (h : History) (I : Inv L s h) where
  -- after an accepted event it reports what the history tells
  pub lamp_accepted : (e : Event) (x : ℕ) → x < signals_in L → lamp_of (end L s e).lamp x ≡ lamp_told x (granted L s e ∷ h)
  unfolding lamp_of
  lamp_accepted e x b = go (lamps_of L s e)
    where
      below : x < most_lamps
      below = omega (arith, all_signals L S)

      go : {xs : List ℕ} → LampCase e s.lamp xs → lamp_of xs x ≡ lamp_told x (granted L s e ∷ h)
      go (reported q) = at (ℕ_discrete x e.first)
        where
          at : Dec (x ≡ e.first) → lamp_of (put most_lamps s.lamp e.first (recorded e.second)) x ≡ lamp_told x (granted L s e ∷ h)
          at (yes f) = put_here most_lamps 3 s.lamp _ _ x below f ∙ sym (lamp_told_law (granted L s e) h x (q, sym f))
          at (no d) = put_elsewhere most_lamps 3 s.lamp _ _ x below d ∙ I.lamps x b ∙ sym (lamp_kept (granted L s e) h x (λ u. d (sym u.1)))
      go (left d) = I.lamps x b ∙ sym (lamp_kept (granted L s e) h x (λ u. d u.0))

  -- a refused event is no report of a signal that there is, which would be accepted
  pub lamp_refused : sound L ≡ true → (m : Moment) → (refusal (sound L and in_range s) L s m.event.kind m.event.first m.event.second).number ≢ 0
      → (x : ℕ) → x < signals_in L → lamp_of s.lamp x ≡ lamp_told x (m ∷ h)
  lamp_refused ok m d x b = I.lamps x b ∙ sym (lamp_kept m h x (λ u. d (rw (u.0, u.1) (lamp_granted L s ok I.ranged x m.event.second b))))

  -- ---- the far signal of a block

  module _ (l i : ℕ) (b : l < L.lines) (c : i < (line_in L l).blocks) where
    -- it has a number
    far_numbered : (w : ℕ) → w ≢ 0 → w ≤ 2 → number_of L.signals L.line (far_signal L l i w) < signals_in L
    unfolding signals_in passage.far_signal signal_at entrance_signal line_in
    far_numbered w z few = go (beyond (line_in L l) i w) (beyond_case L l i w c)
      where
        go : (x : Beyond) → BeyondCase L l i w x → number_of L.signals L.line (signal_at (line_in L l) l w x) < signals_in L
        go x (a_block j k d up down) =
            (one_number L.signals L.lines L.line (into l j w) (b, k, one_each_way w z few, far_signal_law _ w j up down)).below
        go x (a_station e k) = (one_number L.signals L.lines L.line (main _) ((S.ranges.lines l b).entrances e k)).below

    -- so it shows stop, by its lamp, just where the history tells so
    pub lit_told : direction s l ≢ 0 → direction s l ≤ 2
        → (far_stop_lit L.signals L.line s.lamp l i (direction s l) ≡ true ↔ StopLit L l i (direction s l) h)
    unfolding far_stop_lit far_lamp line_in
    lit_told z few =
        let same = I.lamps _ (far_numbered (direction s l) z few) in
        (λ t. sym same ∙ eqb-true _ lamp_stop (sym (passed_over _ _ _ (ne_eqb _ 0 z)) ∙ t), λ q. passed_over _ _ _ (ne_eqb _ 0 z) ∙ eq-eqb _ lamp_stop (same ∙ q))
