-- What holds of each event that comes where the invariant holds, holds of every event of every run.
use mathlib.Core.Path.{◌≡◌}
use mathlib.Core.Bool.{true}
use mathlib.Core.List.{List, [], ◌∷◌}
use Rattle.layout.specs.declared.Layout.{Layout}
use Rattle.layout.specs.Sound.{sound}
use Rattle.layout_facts.proofs.Sound.{sound_says}
use Rattle.interlocking.specs.declared.State.{State}
use Rattle.interlocking.specs.State.{cold}
use Rattle.step_facts.specs.Run.{Event, box}
use Rattle.safety.specs.History.{Moment, History, Throughout, moment, goes_on, history}
use Rattle.safety.proofs.Invariant.{Inv, cold_has}
use Rattle.safety.proofs.Kept.{kept}

module _ (L : Layout) (ok : sound L ≡ true) (P : Moment → History → Type 0)
    (holds : (s : State) (h : History) → Inv L s h → (e : Event) → P (moment L e (box L s e)) h) where
  -- as a run goes on
  throughout : (s : State) (h : History) → Inv L s h → Throughout P h → (es : List Event) → Throughout P (goes_on L (box L) s h es)
  unfolding goes_on Throughout
  throughout s h I t [] = t
  throughout s h I t (e ∷ es) = throughout (box L s e).next (moment L e (box L s e) ∷ h) (kept L ok (sound_says L ok) s h I e) (holds s h I e, t) es

  -- from the cold start
  pub in_every_event : (es : List Event) → Throughout P (history L es)
  unfolding history Throughout
  in_every_event es = throughout cold [] (cold_has L (sound_says L ok)) tt es
