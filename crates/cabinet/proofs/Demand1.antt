-- Demand 1 holds of every call on every two records: what a refusal leaves is what was there.
use Prim.Native.Nat.{ℕ}
use mathlib.Core.Path.{◌≡◌, refl, sym, ap}
use mathlib.Core.Bool.{Bool, true, false}
use mathlib.Core.Logic.{◌⊎◌, inl, inr}
use mathlib.Core.List.{List}
use lib.ListN.{length}
use Rattle.laws.specs.Choice.{when◌then◌else◌}
use Rattle.laws.specs.Tests.{◌and◌}
use Rattle.laws.proofs.Choice.{if_ne}
use Rattle.laws.proofs.Tests.{and_left, and_right}
use Rattle.layout.specs.declared.Layout.{Layout}
use Rattle.layout.specs.Sound.{sound}
use Rattle.layout_facts.proofs.Loaded.{load_numbers}
use Rattle.fitted.proofs.Answers.{fit_numbers}
use Rattle.interlocking.specs.declared.State.{State}
use Rattle.interlocking.specs.declared.Answer.{Answer}
use Rattle.interlocking.specs.State.{in_range}
use Rattle.interlocking.specs.Step.{step}
use Rattle.panel.specs.declared.Drawn.{Drawn}
use Rattle.panel.specs.Panel.{refused, answer_where, drawn_where, answer, drawn}
use Rattle.step_facts.specs.Numbers.{OfEvents}
use Rattle.step_facts.proofs.Step.{refusal_keeps, unsound_18, sound_numbers}
use Rattle.cabinet.specs.Calls.{Records, records, Call, power_on, load_file, fit_sections, give_event, draw_panel, after_file, after_load, after_fit, after_call, of_load, of_fit, of_event, of_panel, tells, lent}
use Rattle.cabinet.specs.Demand1.{Numbered, Demand1}

-- one of three numbers, by two tests
one_of_three : (t u : Bool) (n : ℕ) (r : Drawn) → r ≡ (when t then refused 18 else when u then refused 27 else record { number = 0; length = n })
    → (r.number ≡ 0) ⊎ ((r.number ≡ 18) ⊎ (r.number ≡ 27))
unfolding refused when◌then◌else◌
one_of_three true u n r e = inr (inl (ap (λ (d : Drawn). d.number) e))
one_of_three false true n r e = inr (inr (ap (λ (d : Drawn). d.number) e))
one_of_three false false n r e = inl (ap (λ (d : Drawn). d.number) e)

module _ (L : Layout) (s : State) where
  -- an event's number is one of 0 to 17, 30, 34 and 35 on sound records, and 18 on others
  step_numbers : (k a b : ℕ) → ((step L s k a b).number ≡ 18) ⊎ OfEvents (step L s k a b).number
  step_numbers k a b = go (sound L and in_range s) refl
    where
      go : (t : Bool) → sound L and in_range s ≡ t → ((step L s k a b).number ≡ 18) ⊎ OfEvents (step L s k a b).number
      go true e = inr (sound_numbers L s k a b (and_left _ _ e) (and_right _ _ e))
      go false e = inl (ap (λ (r : Answer). r.number) (unsound_18 L s k a b e))

  -- the three ways in which a panel image is answered
  panel_numbers : (room : ℕ) → ((answer L s room).number ≡ 0) ⊎ (((answer L s room).number ≡ 18) ⊎ ((answer L s room).number ≡ 27))
  unfolding answer answer_where
  panel_numbers room = one_of_three _ _ _ (answer L s room) refl

  -- a refusal of the panel leaves the buffer
  panel_keeps : (buffer : List ℕ) → ((answer L s (length buffer)).number ≡ 0 → ⊥) → drawn L s buffer ≡ buffer
  unfolding answer drawn drawn_where
  panel_keeps buffer h = sym (if_ne _ _ _ _ _ h refl)

-- each call, by what it is
pub demand_1 : (before : Records) (c : Call) → Demand1 before c
unfolding Numbered tells of_load of_fit of_event of_panel after_call after_load after_fit after_file lent
demand_1 before power_on = record { answered = refl; refused = λ h. absurd (h refl) }
demand_1 before (load_file bytes) = record { answered = (load_numbers bytes).numbers; refused = λ h. record { records = sym (if_ne _ _ _ _ _ h refl); buffer = refl } }
demand_1 before (fit_sections bytes) = record { answered = fit_numbers before.layout bytes; refused = λ h. record { records = sym (if_ne _ _ _ _ _ h refl); buffer = refl } }
demand_1 before (give_event k a b) = record {
  answered = step_numbers before.layout before.state k a b;
  refused = λ h. record { records = ap (records before.layout) (refusal_keeps before.layout before.state k a b h); buffer = refl };
}
demand_1 before (draw_panel buffer) = record {
  answered = panel_numbers before.layout before.state (length buffer);
  refused = λ h. record { records = refl; buffer = panel_keeps before.layout before.state buffer h };
}
