-- What sections read in the state is what the history tells, within an accepted event and after it.
use Prim.Native.Nat.{ℕ, ◌<◌}
use mathlib.Core.Path.{◌≡◌, ap, ◌∙◌}
use mathlib.Core.List.{◌∷◌}
use native.Mathlib.Omega.{arith}
use lib.Dec.{eqb}
use Rattle.laws.specs.Choice.{when◌then◌else◌}
use Rattle.laws.specs.Tests.{◌and◌}
use Rattle.tables.specs.Readings as readings
use Rattle.layout.specs.declared.Layout.{Layout}
use Rattle.layout.specs.Sound.{sound}
use Rattle.layout_facts.specs.Plain.{Sound}
use Rattle.interlocking.specs.declared.State.{State}
use Rattle.interlocking.specs.State.{in_range, with_routes, with_lines}
use Rattle.interlocking.specs.Settle.{signals, far_sections, routes_by, routes, arrivals, line_release, settle}
use Rattle.interlocking.specs.Step.{refusal, after}
use Rattle.step_facts.specs.Run.{Event}
use Rattle.safety.specs.History.{History, gave_section, reads, section_reads}
use Rattle.step_facts.proofs.Within.{done, end}
use Rattle.safety.proofs.Given.{granted, stored_follows}
use Rattle.safety.proofs.Invariant.{Inv}

module _ (L : Layout) (S : Sound L) (s : State) (h : History) (I : Inv L s h) (e : Event)
    (pass : (refusal (sound L and in_range s) L s e.kind e.first e.second).number ≡ 0) (g : ℕ) (b : g < L.sections) where
  -- after what the event does itself
  pub reads_done : readings.reading (done L s e).section g ≡ section_reads L g (granted L s e ∷ h)
  unfolding reads
  reads_done =
      stored_follows L s e h I.heads pass g (omega (arith, S.ranges.section_count))
      ∙ ap (λ n. when eqb (gave_section L g (granted L s e) h) 0 then n else gave_section L g (granted L s e) h) (I.reads g b)

  -- and at its end: nothing that follows touches sections
  pub reads_then : readings.reading (end L s e).section g ≡ section_reads L g (granted L s e ∷ h)
  unfolding after settle line_release with_lines arrivals routes routes_by with_routes far_sections signals
  reads_then = reads_done
