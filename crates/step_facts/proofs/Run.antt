-- What holds of a run: its states stay in range, so on a sound layout 18 never comes and soundness need not be asked again.
use Prim.Native.Nat.{ℕ}
use mathlib.Core.Path.{◌≡◌, refl, ap}
use mathlib.Core.Bool.{true}
use mathlib.Core.List.{List, [], ◌∷◌}
use Rattle.laws.specs.Tests.{◌and◌}
use Rattle.layout.specs.declared.Layout.{Layout}
use Rattle.layout.specs.Sound.{sound}
use Rattle.layout.specs.Load.{load}
use Rattle.layout_facts.proofs.Loaded.{loaded_sound, refused_unsound}
use Rattle.interlocking.specs.declared.State.{State}
use Rattle.interlocking.specs.declared.Answer.{Answer}
use Rattle.interlocking.specs.State.{cold, in_range}
use Rattle.interlocking.specs.Step.{step}
use Rattle.step_facts.specs.Run.{Event, box, box_in_run, state_after, answers, from_cold}
use Rattle.step_facts.proofs.Range.{cold_in_range}
use Rattle.step_facts.proofs.Refusals.{not_18}
use Rattle.step_facts.proofs.Step.{step_in_range, unsound_18, sound_numbers, run_step_same}

-- ---- states in range

-- after each event of a run
run_in_range : (L : Layout) (s : State) (es : List Event) → in_range s ≡ true → in_range (state_after (box L) s es) ≡ true
unfolding state_after box
run_in_range L s [] h = h
run_in_range L s (e ∷ es) h = run_in_range L (box L s e).next es (step_in_range L s _ _ _ h)

-- from the cold start, after every list of events, on any layout
pub cold_run_in_range : (L : Layout) (es : List Event) → in_range (from_cold L es) ≡ true
unfolding from_cold
cold_run_in_range L es = run_in_range L cold es cold_in_range

-- ---- no 18

-- so on a sound layout, also one with fitted sections, no event after any run from the cold start gets 18
pub no_18 : (L : Layout) (es : List Event) (k a b : ℕ) → sound L ≡ true → (step L (from_cold L es) k a b).number ≡ 18 → ⊥
no_18 L es k a b h = not_18 (sound_numbers L (from_cold L es) k a b h (cold_run_in_range L es))

-- nor on a layout that was loaded
pub loaded_no_18 : (file : List ℕ) (es : List Event) (k a b : ℕ) → (load file).number ≡ 0
    → (step (load file).layout (from_cold (load file).layout es) k a b).number ≡ 18 → ⊥
loaded_no_18 file es k a b h = no_18 (load file).layout es k a b (loaded_sound file h)

-- a refused load gives a layout that is not sound, so every event on it gets 18
pub refused_load_18 : (file : List ℕ) (s : State) (k a b : ℕ) → ((load file).number ≡ 0 → ⊥)
    → step (load file).layout s k a b ≡ record { number = 18; detail = 0; next = s }
unfolding ◌and◌
refused_load_18 file s k a b h = unsound_18 (load file).layout s k a b (rw (refused_unsound file h))

-- ---- soundness asked once

module _ (L : Layout) (h : sound L ≡ true) where
  -- where the step of a run is the step, the answers are the same
  same_answers : (s : State) (es : List Event) → in_range s ≡ true → answers (box_in_run L) s es ≡ answers (box L) s es
  unfolding answers box box_in_run
  same_answers s [] g = refl
  same_answers s (e ∷ es) g =
      rw (run_step_same L s e.kind e.first e.second h g) (ap (λ (rs : List Answer). box L s e ∷ rs) (same_answers (box L s e).next es (step_in_range L s _ _ _ g)))

  -- from the cold start it is enough to ask soundness once: every answer, with the state that it leaves, is the same
  pub asked_once : (es : List Event) → answers (box_in_run L) cold es ≡ answers (box L) cold es
  asked_once es = same_answers cold es cold_in_range
