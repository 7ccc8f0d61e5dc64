-- The test of a layout means that it is sound: in range, with conflicts both ways, and as the seven rules say.
use Prim.Native.Nat.{ℕ, suc}
use mathlib.Core.Path.{◌≡◌, refl}
use mathlib.Core.Bool.{Bool, true, false, false≢true}
use mathlib.Core.List.{List, [], ◌∷◌}
use mathlib.Core.Logic.Iff
use mathlib.Core.Logic.{◌↔◌}
use native.Mathlib.Omega.{arith}
use Rattle.laws.specs.Choice.{when◌then◌else◌}
use Rattle.laws.specs.Tests.{every}
use Rattle.layout.specs.declared.Layout.{Layout}
use Rattle.layout.specs.Rules.{first_failed, broken, rule1, rule2, rule3, rule4, rule5, rule6, rule7}
use Rattle.layout.specs.Sound.{sound}
use Rattle.layout_facts.specs.Plain.{Sound}
use Rattle.layout_facts.proofs.Means.{eqb_means, lastly, ◌also◌, ◌&◌, every_means}
use Rattle.layout_facts.proofs.Ranges.{fits_means}
use Rattle.layout_facts.proofs.Conflicts.{mirrored_means}
use Rattle.layout_facts.proofs.Rules.{rule1_means, rule2_means, rule3_means, rule4_means, rule5_means, rule7_means}
use Rattle.layout_facts.proofs.Rule6.{rule6_means}

-- no test is the first that fails just where all hold
none_failed : (k : ℕ) (bs : List Bool) → first_failed (suc k) bs ≡ 0 ↔ every bs ≡ true
unfolding first_failed every when◌then◌else◌
none_failed k [] = (λ e. refl, λ e. refl)
none_failed k (true ∷ []) = (λ e. refl, λ e. refl)
none_failed k (false ∷ []) = (λ e. absurd (omega arith), λ e. absurd (false≢true e))
none_failed k (true ∷ c ∷ bs) = none_failed (suc k) (c ∷ bs)
none_failed k (false ∷ c ∷ bs) = (λ e. absurd (omega arith), λ e. absurd (false≢true e))

-- no rule is broken
pub broken_means : (L : Layout) → broken L ≡ 0
    ↔ (rule1 L ≡ true) × ((rule2 L ≡ true) × ((rule3 L ≡ true) × ((rule4 L ≡ true) × ((rule5 L ≡ true) × ((rule6 L ≡ true) × (rule7 L ≡ true))))))
unfolding broken
broken_means L = Iff.trans (none_failed 0 _) (every_means (Iff.rfl also Iff.rfl also Iff.rfl also Iff.rfl also Iff.rfl also Iff.rfl also lastly Iff.rfl))

-- in range, conflicts both ways, and no rule broken
pub sound_means : (L : Layout) → sound L ≡ true ↔ Sound L
unfolding sound
sound_means L =
    Iff.trans (every_means (fits_means L also mirrored_means L also lastly (Iff.trans (eqb_means _ _) (broken_means L)))) (
      λ (R, (C, (a, (b, (c, (d, (e, (f, g)))))))). record {
        ranges = R;
        conflicts = C;
        rule1 = (rule1_means L R).0 a;
        rule2 = (rule2_means L).0 b;
        rule3 = (rule3_means L).0 c;
        rule4 = (rule4_means L R).0 d;
        rule5 = (rule5_means L R).0 e;
        rule6 = (rule6_means L R C).0 f;
        rule7 = (rule7_means L).0 g;
      },
      λ s. let R = s.ranges in
          R & s.conflicts & (rule1_means L R).1 s.rule1 & (rule2_means L).1 s.rule2 & (rule3_means L).1 s.rule3 & (rule4_means L R).1 s.rule4
          & (rule5_means L R).1 s.rule5 & (rule6_means L R s.conflicts).1 s.rule6 & (rule7_means L).1 s.rule7,
    )

-- what the test passes is sound
pub sound_says : (L : Layout) → sound L ≡ true → Sound L
sound_says L = (sound_means L).0
