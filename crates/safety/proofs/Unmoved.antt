-- What moves neither the steps of a route nor the stage of a block: an event that gives nothing, in which no signal drops.
use Prim.Native.Nat.{ℕ, ◌≤◌}
use mathlib.Core.Path.{◌≡◌, refl, sym, ap, ◌∙◌}
use mathlib.Core.Logic.{◌≢◌}
use mathlib.Core.Bool.{Bool, true, false, not}
use mathlib.Core.List.{List}
use native.Mathlib.Decide.{ℕ_discrete}
use native.Mathlib.Omega.{arith}
use borrow.Author.Tests.{ne_eqb}
use lib.Dec.{eqb}
use Rattle.laws.specs.Choice.{when◌then◌else◌}
use Rattle.laws.specs.Tests.{◌and◌, ◌or◌}
use Rattle.laws.proofs.Choice.{if_both, passed_over}
use Rattle.laws.proofs.Tests.{not_both, second_fails}
use Rattle.track.specs.declared.Line.{Line}
use Rattle.track.specs.Signal.{Signal}
use Rattle.tables.specs.Readings.{reading}
use Rattle.passage.specs.Passage.{far_stage}
use Rattle.passage.specs.Passage as passage
use Rattle.release.specs.declared.WatchedPair.{WatchedPair}
use Rattle.release.specs.Release.{steps_after}
use Rattle.line_block.specs.FarSections.{drops, far_moved}

-- where neither of the watched pair is given anything the steps stay, if they may stand where they are
pub steps_stay : (w : WatchedPair) (n : ℕ) → n ≤ 3 → w.first.given ≡ 0 → w.second.given ≡ 0
    → (1 ≤ n → n ≢ 3 → (w.first.reads ≡ 2) × (w.second.reads ≢ 3)) → steps_after w n ≡ n
unfolding steps_after when◌then◌else◌ ◌and◌ ◌or◌
steps_stay w n few a b h = go (ℕ_discrete n 3) (ℕ_discrete n 2) (ℕ_discrete n 1)
  where
    go : Dec (n ≡ 3) → Dec (n ≡ 2) → Dec (n ≡ 1) → steps_after w n ≡ n
    go (yes q) y z = rw q refl
    go (no x) (yes q) z = let r = h (omega arith) x in rw (q, r.0, ne_eqb _ 3 r.1, a) refl
    go (no x) (no y) (yes q) = let r = h (omega arith) x in rw (q, r.0, ne_eqb _ 3 r.1, b) refl
    go (no x) (no y) (no z) =
        let q : n ≡ 0 = omega arith in
        rw (q, a) (if_both (λ (m : ℕ). m ≡ 0) (eqb w.first.reads 3 or eqb w.second.reads 3) (λ t. refl) (λ f. refl))

-- a stage that is neither 1 nor 2 is not moved by a far section
far_idle : (far : ℕ) (dropped : Bool) (v : ℕ) → v ≢ 2 → v ≢ 3 → v ≡ far_stage far dropped v
unfolding far_stage
far_idle far dropped v a b = sym (passed_over _ _ _ (ne_eqb v 2 a) ∙ passed_over _ _ _ (ne_eqb v 3 b))

-- nor is one where the signal does not drop, if the section does not read none in stage 2
far_still : (far v : ℕ) → (v ≡ 3 → far ≢ 3) → v ≡ far_stage far false v
unfolding far_stage when◌then◌else◌ ◌and◌
far_still far v h = go (ℕ_discrete v 2) (ℕ_discrete v 3)
  where
    go : Dec (v ≡ 2) → Dec (v ≡ 3) → v ≡ far_stage far false v
    go (yes q) y = rw q (if_both (λ (m : ℕ). 2 ≡ m) (eqb far 2 and false) (λ t. not_both t (second_fails (eqb far 2) false refl)) (λ f. refl))
    go (no x) (yes q) = rw (q, ne_eqb far 3 (h q)) refl
    go (no x) (no y) = far_idle far false v x y

-- a test and its opposite do not both hold
pub never_both : (a : Bool) → a and not a ≡ false
unfolding ◌and◌
never_both true = refl
never_both false = refl

-- block i of a line by its far section and its far signal, where it has direction w and its stage is v
module _ (b : Line) (sections : List ℕ) (before after : Signal → Bool) (l i w v : ℕ) where
  -- it is neither in stage 1 nor in stage 2
  pub idle_unmoved : v ≢ 2 → v ≢ 3 → v ≡ far_moved b sections before after l i w v
  unfolding far_moved
  idle_unmoved x y = if_both (λ (n : ℕ). v ≡ n) (eqb w 0) (λ z. refl) (λ f. far_idle _ _ v x y)

  -- its far signal shows what it showed, and in stage 2 its far section does not read none
  pub still_unmoved : after (passage.far_signal b l i w) ≡ before (passage.far_signal b l i w) → (v ≡ 3 → reading sections (passage.far_section b i w) ≢ 3)
      → v ≡ far_moved b sections before after l i w v
  unfolding far_moved drops
  still_unmoved same h =
      if_both (λ (n : ℕ). v ≡ n) (eqb w 0) (λ z. refl)
      (λ f. far_still _ v h ∙ ap (λ (d : Bool). far_stage (reading sections (passage.far_section b i w)) d v)
      (sym (ap (λ (x : Bool). before (passage.far_signal b l i w) and not x) same ∙ never_both _)))

  -- of the signals before only the far signal is asked
  pub before_unasked : (earlier : Signal → Bool) → before (passage.far_signal b l i w) ≡ earlier (passage.far_signal b l i w)
      → far_moved b sections before after l i w v ≡ far_moved b sections earlier after l i w v
  unfolding far_moved drops
  before_unasked earlier same =
      ap (λ (x : Bool). when eqb w 0 then v else far_stage (reading sections (passage.far_section b i w)) (x and not (after (passage.far_signal b l i w))) v) same
