-- Seconds (section 6): the event that gives one, and how many have passed since a route was cancelled.
use Prim.Native.Nat.{ℕ, ◌+◌}
use mathlib.Core.Path.{◌≡◌, refl, ◌∙◌}
use mathlib.Core.Logic.{◌≢◌, ◌↔◌, inl, inr}
use mathlib.Core.List.{◌∷◌}
use native.Mathlib.Omega.{arith}
use borrow.Author.Tests.{eqb-true, eq-eqb}
use Rattle.laws.specs.Tests.{◌and◌}
use Rattle.laws.proofs.Tests.{and_left, and_right, and_both, fails_from}
use Rattle.layout.specs.declared.Layout.{Layout}
use Rattle.layout.specs.Sound.{sound}
use Rattle.interlocking.specs.declared.State.{State}
use Rattle.interlocking.specs.State.{in_range}
use Rattle.interlocking.specs.Rows.{Row, nothing, gives_reading, a_second, section_row, point_row, throw_row, set_row, cancel_row, secure_row, manual_row, bar_row, second_row, head_row, count_row, silent_row, reset_row, lamp_row, no_row}
use Rattle.interlocking.specs.Step.{refusal, gives}
use Rattle.interlocking.proofs.Rows.{OfKind, section_row_kind, point_row_kind, throw_row_kind, set_row_kind, cancel_row_kind, secure_row_kind, manual_row_kind, bar_row_kind, unbar_row, second_row_kind, count_row_kind, silent_row_kind, reset_row_kind, lamp_row_kind, no_row_kind, row_kind_of}
use Rattle.step_facts.specs.Run.{Event}
use Rattle.safety.specs.History.{Moment, History, Second}
use Rattle.safety.specs.Locked.{Cancels, seconds_since}
use Rattle.laws.proofs.Choice.{chosen, passed_over}
use Rattle.step_facts.proofs.Passed.{second_numbers}
use Rattle.safety.proofs.Given.{granted}
use Rattle.safety.proofs.LetGo.{given_by}

-- ---- an accepted event

module _ (L : Layout) (s : State) (e : Event) (pass : (refusal (sound L and in_range s) L s e.kind e.first e.second).number ≡ 0) where
  -- it gives a second just where it is of that kind
  tick_kind : (given_by L s e).tick ≡ 1 ↔ e.kind ≡ 10
  unfolding gives section_row point_row throw_row set_row cancel_row secure_row manual_row bar_row second_row head_row count_row silent_row reset_row lamp_row no_row nothing gives_reading a_second
  tick_kind = go (row_kind_of L s e.kind e.first e.second)
    where
      none : e.kind ≢ 10 → (◌≡◌ {A = ℕ} 0 1 ↔ e.kind ≡ 10)
      none d = (λ z. absurd (omega arith), λ k. absurd (d k))

      go : {row : Row} → OfKind L s e.first e.second e.kind row → (row.gives.tick ≡ 1 ↔ e.kind ≡ 10)
      go (section_row_kind q) = none (omega arith)
      go (point_row_kind q) = none (omega arith)
      go (throw_row_kind q) = none (omega arith)
      go (set_row_kind q) = none (omega arith)
      go (cancel_row_kind q) = none (omega arith)
      go (secure_row_kind q) = none (omega arith)
      go (manual_row_kind q) = none (omega arith)
      go (bar_row_kind q) = none (omega arith)
      go (unbar_row q) = none (omega arith)
      go (second_row_kind q) = (λ z. q, λ k. refl)
      go (count_row_kind (inl q)) = none (omega arith)
      go (count_row_kind (inr q)) = none (omega arith)
      go (silent_row_kind q) = none (omega arith)
      go (reset_row_kind q) = none (omega arith)
      go (lamp_row_kind q) = none (omega arith)
      go (no_row_kind u) = none u.others.no_second

  -- and so just where a second has passed
  pub tick_told : (given_by L s e).tick ≡ 1 ↔ Second (granted L s e)
  tick_told = (λ t. let k = tick_kind.0 t in let u = second_numbers L s e pass k in (k, u.0, u.1), λ u. tick_kind.1 u.0)

-- ---- the seconds since the order to cancel, of the history alone

module _ (r : ℕ) (m : Moment) (h : History) where
  -- from 0 with that order
  pub since_cancel : Cancels r m → seconds_since r (m ∷ h) ≡ 0
  unfolding seconds_since
  since_cancel u = chosen _ _ _ (and_both _ _ (eq-eqb _ 0 u.0) (and_both _ _ (eq-eqb _ 5 u.1) (eq-eqb _ r u.2)))

  -- one more with each second
  pub since_second : Second m → seconds_since r (m ∷ h) ≡ seconds_since r h + 1
  unfolding seconds_since
  since_second u =
      passed_over _ _ _ (fails_from _ (λ t. let k = u.0 in let q = eqb-true m.event.kind 5 (and_left _ _ (and_right _ _ t)) in omega arith))
      ∙ chosen _ _ _ (and_both _ _ (eq-eqb _ 10 u.0) (and_both _ _ (eq-eqb _ 0 u.1) (eq-eqb _ 0 u.2)))

  -- and the same after any other event
  pub since_else : ¬ Cancels r m → ¬ Second m → seconds_since r (m ∷ h) ≡ seconds_since r h
  unfolding seconds_since
  since_else c d =
      passed_over _ _ _ (fails_from _ (λ t. let u = and_right _ _ t in c (eqb-true _ 0 (and_left _ _ t), eqb-true _ 5 (and_left _ _ u), eqb-true _ r (and_right _ _ u))))
      ∙ passed_over _ _ _ (fails_from _ (λ t. let u = and_right _ _ t in d (eqb-true _ 10 (and_left _ _ t), eqb-true _ 0 (and_left _ _ u), eqb-true _ 0 (and_right _ _ u))))
