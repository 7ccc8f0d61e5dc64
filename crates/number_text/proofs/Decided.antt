-- A choice is the side that its test chooses, and a test of two holds or fails with them: so the search finds both from the facts of a branch.
use Prim.Native.Nat.{ℕ, ◌<◌, ◌≤◌}
use mathlib.Core.Path.{◌≡◌, refl}
use mathlib.Core.Bool.{Bool, true, false}
use lib.Dec.{eqb, ltb}
use borrow.Author.Tests.{lt-ltb, le-ltb, eq-eqb, ne_eqb}
use Rattle.laws.specs.Choice.{when◌then◌else◌}
use Rattle.laws.specs.Tests.{◌and◌, ◌or◌}
use Rattle.laws.proofs.Choice.{chosen, passed_over}

module _ {A : Type 0} (x y : A) where
  -- a choice by an equation, and by an order
  pub same_first : (m n : ℕ) → m ≡ n → (when eqb m n then x else y) ≡ x
  same_first m n e = chosen _ x y (eq-eqb m n e)

  pub other_second : (m n : ℕ) → (m ≡ n → ⊥) → (when eqb m n then x else y) ≡ y
  other_second m n e = passed_over _ x y (ne_eqb m n e)

  pub less_first : (m n : ℕ) → m < n → (when ltb m n then x else y) ≡ x
  less_first m n e = chosen _ x y (lt-ltb m n e)

  pub no_less_second : (m n : ℕ) → n ≤ m → (when ltb m n then x else y) ≡ y
  no_less_second m n e = passed_over _ x y (le-ltb m n e)

-- both hold, or one fails
pub both_hold : (a b : Bool) → a ≡ true → b ≡ true → a and b ≡ true
unfolding ◌and◌
both_hold a b e f = rw (e, f) refl

pub first_fails : (a b : Bool) → a ≡ false → a and b ≡ false
unfolding ◌and◌
first_fails a b e = rw e refl

pub second_fails : (a b : Bool) → a ≡ true → b ≡ false → a and b ≡ false
unfolding ◌and◌
second_fails a b e f = rw (e, f) refl

-- one of two holds, or both fail
pub first_holds : (a b : Bool) → a ≡ true → a or b ≡ true
unfolding ◌or◌
first_holds a b e = rw e refl

pub second_decides : (a b : Bool) → a ≡ false → a or b ≡ b
unfolding ◌or◌
second_decides a b e = rw e refl

pub ruleset decided = (same_first, other_second, less_first, no_less_second, chosen, passed_over, both_hold, first_fails, second_fails, first_holds, second_decides, eq-eqb, ne_eqb, lt-ltb, le-ltb)
