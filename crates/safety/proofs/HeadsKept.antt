-- Every event leaves the heads of fitted sections as the log of them tells (L1): one that says something of a section's heads changes those alone; one that
-- is refused changes nothing, and where it says something it is a reset that counts for nothing.
use Prim.Native.Nat.{ℕ, ◌<◌, ◌≤◌}
use mathlib.Core.Path.{◌≡◌, sym, ap, ◌∙◌}
use mathlib.Core.Logic.{◌≢◌}
use mathlib.Core.Bool.{true}
use mathlib.Core.List.{◌∷◌}
use native.Mathlib.Omega.{arith}
use Rattle.laws.specs.Tests.{◌and◌}
use Rattle.laws.proofs.Choice.{Is, holds, fails, which}
use Rattle.laws.proofs.Tests.{not_both}
use Rattle.track.specs.Sizes.{most_sections}
use Rattle.axles.specs.Heads.{heads_after_log}
use Rattle.layout.specs.declared.Layout.{Layout}
use Rattle.layout.specs.Layout.{is_fitted}
use Rattle.layout.specs.Sound.{sound}
use Rattle.interlocking.specs.declared.State.{State}
use Rattle.interlocking.specs.State.{in_range, heads_at}
use Rattle.interlocking.specs.Own.{head_section}
use Rattle.interlocking.specs.Step.{refusal}
use Rattle.step_facts.specs.Run.{Event}
use Rattle.step_facts.proofs.Within.{end}
use Rattle.step_facts.proofs.Heads.{heads_here, heads_elsewhere, heads_many}
use Rattle.safety.specs.Said.{said_of}
use Rattle.safety.specs.History.{Moment, History, head_log}
use Rattle.safety.proofs.Heads.{SaidOf, said_is, is_said, said_kinds, said_one, said_passed, log_said, log_unsaid, reset_lost, HeadsHeld, speaks_told, heads_then}
use Rattle.safety.proofs.Given.{granted, refused_said}

-- an accepted event
pub heads_accepted : (L : Layout) → L.sections ≤ most_sections → (s : State) (h : History) → HeadsHeld L s.axles h → (e : Event)
    → (refusal (sound L and in_range s) L s e.kind e.first e.second).number ≡ 0 → HeadsHeld L (end L s e).axles (granted L s e ∷ h)
heads_accepted L few s h H e pass = record { room = heads_many L s e ∙ H.room; told = λ g b f. go g b f (which (said_of g e)) }
  where
    go : (g : ℕ) → g < L.sections → is_fitted L g ≡ true → Is (said_of g e) → heads_at (end L s e).axles g ≡ heads_after_log (head_log g (granted L s e ∷ h))
    go g b f (holds t) =
        let x : SaidOf g e = said_is t in
        let here : g ≡ head_section e.kind e.first = said_one x (said_passed L s e pass (said_kinds x)) in
        rw (log_said g (granted L s e) h x)
        (rw (sym here) at (heads_here L s e (said_kinds x) (rw (sym here) (omega (arith, H.room)))) ∙ heads_then H b f x)
    go g b f (fails t) =
        rw (log_unsaid g (granted L s e) h t)
        (heads_elsewhere L s e g (λ k q. not_both (is_said (rw q (said_passed L s e pass k))) t) ∙ H.told g b f)

-- a refused one
pub heads_refused : (L : Layout) → sound L ≡ true → (s : State) → in_range s ≡ true → (m : Moment) (h : History) → HeadsHeld L s.axles h
    → (refusal (sound L and in_range s) L s m.event.kind m.event.first m.event.second).number ≢ 0 → HeadsHeld L s.axles (m ∷ h)
heads_refused L ok s ranged m h H d = record { room = H.room; told = λ g b f. go g b f (which (said_of g m.event)) }
  where
    go : (g : ℕ) → g < L.sections → is_fitted L g ≡ true → Is (said_of g m.event) → heads_at s.axles g ≡ heads_after_log (head_log g (m ∷ h))
    go g b f (holds t) =
        let x : SaidOf g m.event = said_is t in
        let (k, silent) = refused_said L ok s ranged m.event d g b f x in
        H.told g b f ∙ sym (ap heads_after_log (log_said g m h x) ∙ reset_lost m.event (head_log g h) k (sym (speaks_told H b f) ∙ silent))
    go g b f (fails t) = H.told g b f ∙ ap heads_after_log (sym (log_unsaid g m h t))
