-- What the tests of a list mean, entry by entry; those of two sets of sections, and of a line's two ends.
use Prim.Native.Nat.{ℕ, ◌<◌, ◌≤◌}
use mathlib.Core.Path.{◌≡◌, refl, sym}
use mathlib.Core.Bool.{Bool, true, not}
use mathlib.Core.List.{List}
use mathlib.Core.Logic.Iff
use mathlib.Core.Logic.{◌↔◌, ◌⊎◌, inl, inr, ⊎_elim}
use native.Mathlib.Omega.{arith}
use lib.Dec.{eqb}
use lib.ListN.{get_or}
use Rattle.laws.specs.Tests.{◌or◌}
use Rattle.track.specs.Sizes.{most_sections}
use Rattle.track.specs.Lists.{among, all_differ, between, referring, positions}
use Rattle.rules.specs.Rules.{share}
use Rattle.layout_facts.proofs.Means.{eqb_means, ltb_means, leb_means, not_means, and_means, or_means, all_means, any_means}
use Rattle.layout_facts.proofs.Order.{same_number, to_one, one_of}

-- g is one of the first n
pub among_means : (n : ℕ) (xs : List ℕ) (g : ℕ) → among n xs g ≡ true ↔ (i : ℕ) × (i < n) × (get_or xs i 0 ≡ g)
unfolding among
among_means n xs g = any_means (λ i l. eqb_means _ _)

-- of the first n, two that are equal stand at one place
pub differ_means : (n : ℕ) (xs : List ℕ) → all_differ n xs ≡ true ↔ ((i j : ℕ) → i < n → j < n → get_or xs i 0 ≡ get_or xs j 0 → i ≡ j)
unfolding all_differ
differ_means n xs =
    Iff.trans (all_means (λ i l. not_means (among_means i xs (get_or xs i 0)))) (
      λ d. same_number (λ i j e. sym e) (λ i hi j l e. d i hi (j, l, sym e)),
      λ s i hi f. let q = s f.0 i (omega arith) hi f.2 in omega arith,
    )

-- x lies in low .. high
pub between_means : (low high x : ℕ) → between low high x ≡ true ↔ (low ≤ x) × (x ≤ high)
unfolding between
between_means low high x = and_means (leb_means _ _) (leb_means _ _)

-- each of the first n refers to an object that there is
pub referring_means : (n objects : ℕ) (xs : List ℕ) → referring n objects xs ≡ true ↔ ((i : ℕ) → i < n → get_or xs i 0 < objects)
unfolding referring
referring_means n objects xs = all_means (λ i l. ltb_means _ _)

-- each of the first n is 1 left or 2 right
pub positions_means : (n : ℕ) (xs : List ℕ) → positions n xs ≡ true ↔ ((i : ℕ) → i < n → get_or xs i 0 ≡ 1 ⊎ get_or xs i 0 ≡ 2)
unfolding positions
positions_means n xs =
    all_means (λ i l. Iff.trans (between_means _ _ _) (λ s. one_of _ 1 2 (omega arith), ⊎_elim (λ e. omega arith) (λ e. omega arith)))

-- some number passes both of two tests, of which the first holds only of numbers that `share` looks through
pub share_means : {p q : ℕ → Bool} {P Q : ℕ → Type 0} → ((g : ℕ) → p g ≡ true ↔ P g) → ((g : ℕ) → q g ≡ true ↔ Q g) → ((g : ℕ) → P g → g < most_sections)
    → share p q ≡ true ↔ (g : ℕ) × P g × Q g
unfolding share
share_means a b few =
    Iff.trans (any_means (λ g l. and_means (a g) (b g))) (λ s. (s.0, s.2.0, s.2.1), λ s. (s.0, few _ s.1, (s.1, s.2)))

-- one of the two ends
pub ends_means : (x : ℕ → ℕ) (g : ℕ) → eqb (x 0) g or eqb (x 1) g ≡ true ↔ (e : ℕ) × (e ≤ 1) × (x e ≡ g)
ends_means x g =
    Iff.trans (or_means (eqb_means _ _) (eqb_means _ _)) (
      ⊎_elim (λ e. (0, omega arith, e)) (λ e. (1, omega arith, e)),
      λ s. to_one (λ e. x e ≡ g → (x 0 ≡ g) ⊎ (x 1 ≡ g)) inl inr s.0 s.1 s.2,
    )

-- the two ends differ
pub apart_means : (x : ℕ → ℕ) → not (eqb (x 0) (x 1)) ≡ true ↔ ((e f : ℕ) → e ≤ 1 → f ≤ 1 → x e ≡ x f → e ≡ f)
apart_means x =
    Iff.trans (not_means (eqb_means _ _)) (
      λ d e f he hf. to_one (λ e. x e ≡ x f → e ≡ f) (to_one (λ f. x 0 ≡ x f → 0 ≡ f) (λ q. refl) (λ q. absurd (d q)) f hf)
          (to_one (λ f. x 1 ≡ x f → 1 ≡ f) (λ q. absurd (d (sym q))) (λ q. refl) f hf) e he,
      λ s q. let z = s 0 1 (omega arith) (omega arith) q in omega arith,
    )
