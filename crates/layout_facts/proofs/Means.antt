-- What a test means: the statement that holds just where the test does.
use Prim.Native.Nat.{ℕ, ◌<◌, ◌≤◌}
use mathlib.Core.Path.{◌≡◌}
use mathlib.Core.Bool.{Bool, true, not}
use mathlib.Core.List.{List, [], ◌∷◌}
use mathlib.Core.Logic.{◌↔◌, ◌⊎◌, ⊎_elim, ⊎_map}
use borrow.Author.Tests.{eqb-true, eq-eqb, ltb-true, lt-ltb, leb-true, le-leb, not-true}
use lib.Dec.{eqb, ltb, leb}
use Rattle.laws.specs.Tests.{◌and◌, ◌or◌, implies, every, all_below, any_below}
use Rattle.laws.proofs.Tests.{and_left, and_right, and_both, or_cases, or_left, or_right, implied, implies_from, not_both, fails_from, fails_not, all_at, all_from, any_at, any_some}

-- ---- tests of two numbers

-- they are equal
pub eqb_means : (m n : ℕ) → eqb m n ≡ true ↔ m ≡ n
eqb_means m n = (eqb-true m n, eq-eqb m n)

-- the first is below the second
pub ltb_means : (m n : ℕ) → ltb m n ≡ true ↔ m < n
ltb_means m n = (ltb-true m n, lt-ltb m n)

-- the first is at most the second
pub leb_means : (m n : ℕ) → leb m n ≡ true ↔ m ≤ n
leb_means m n = (leb-true m n, le-leb m n)

-- ---- tests of tests

module _ {a : Bool} {P : Type 0} (p : a ≡ true ↔ P) where
  -- the test fails just where the statement does
  pub not_means : not a ≡ true ↔ ¬ P
  not_means = (λ t s. not_both (p.1 s) (not-true _ t), λ f. fails_not _ (fails_from _ (λ t. f (p.0 t))))

  module _ {b : Bool} {Q : Type 0} (q : b ≡ true ↔ Q) where
    -- both
    pub and_means : a and b ≡ true ↔ P × Q
    and_means = (λ t. (p.0 (and_left _ _ t), q.0 (and_right _ _ t)), λ s. and_both _ _ (p.1 s.0) (q.1 s.1))

    -- one of the two, or both
    pub or_means : a or b ≡ true ↔ P ⊎ Q
    or_means = (λ t. ⊎_map p.0 q.0 (or_cases _ _ t), ⊎_elim (λ s. or_left _ _ (p.1 s)) (λ s. or_right _ _ (q.1 s)))

    -- the second where the first
    pub implies_means : implies a b ≡ true ↔ (P → Q)
    implies_means = (λ t s. q.0 (implied _ _ t (p.1 s)), λ f. implies_from _ _ (λ t. q.1 (f (p.0 t))))

infixr 20 ◌also◌
-- tests one after the other, and what they mean together
pub data Tests : List Bool → Type 0 → Type 1 where
  lastly : {a : Bool} {P : Type 0} → (a ≡ true ↔ P) → Tests (a ∷ []) P
  ◌also◌ : {a b : Bool} {bs : List Bool} {P Q : Type 0} → (a ≡ true ↔ P) → Tests (b ∷ bs) Q → Tests (a ∷ b ∷ bs) (P × Q)

-- all of them
pub every_means : {bs : List Bool} {P : Type 0} → Tests bs P → every bs ≡ true ↔ P
unfolding every ◌and◌
every_means (lastly p) = p
every_means (p also q) = and_means p (every_means q)

infixr 20 ◌&◌
-- two statements that hold, one after the other
pub ◌&◌ : {P Q : Type 0} → P → Q → P × Q
p & q = (p, q)

-- ---- tests over 0 .. n - 1

module _ {n : ℕ} {p : ℕ → Bool} {P : ℕ → Type 0} (m : (k : ℕ) → k < n → p k ≡ true ↔ P k) where
  -- at each
  pub all_means : all_below n p ≡ true ↔ ((k : ℕ) → k < n → P k)
  all_means = (λ t k l. (m k l).0 (all_at _ _ t k l), λ s. all_from _ _ (λ k l. (m k l).1 (s k l)))

  -- at some
  pub any_means : any_below n p ≡ true ↔ (k : ℕ) × (k < n) × P k
  any_means = (λ t. let f = any_some _ _ t in (f.0, f.1, (m _ f.1).0 f.2), λ s. any_at _ _ s.0 s.1 ((m _ s.1).1 s.2))
