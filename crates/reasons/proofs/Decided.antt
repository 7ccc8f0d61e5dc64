-- A choice is the side that its test chooses, two tests are the second where the first holds, and a table is read inside it or past its end.
use Prim.Native.Nat.{ℕ, ◌<◌, ◌≤◌}
use mathlib.Core.Path.{◌≡◌, refl, sym}
use mathlib.Core.Bool.{Bool, true}
use mathlib.Core.List.{List}
use lib.Dec.{eqb, ltb}
use borrow.Author.Tests.{lt-ltb, le-ltb, eq-eqb, ne_eqb}
use Rattle.laws.specs.Choice.{when◌then◌else◌}
use Rattle.laws.specs.Tables.{read}
use Rattle.laws.specs.Tests.{◌and◌}
use Rattle.laws.proofs.Arrays.{read_at, entry_past}
use Rattle.laws.proofs.Choice.{chosen, passed_over}
use Rattle.laws.proofs.Tests.{first_fails}

module _ {A : Type 0} (x y : A) where
  -- a choice by an equation, and by an order
  pub same_first : (m n : ℕ) → m ≡ n → (when eqb m n then x else y) ≡ x
  same_first m n e = chosen _ x y (eq-eqb m n e)

  pub other_second : (m n : ℕ) → (m ≡ n → ⊥) → (when eqb m n then x else y) ≡ y
  other_second m n e = passed_over _ x y (ne_eqb m n e)

  pub less_first : (m n : ℕ) → m < n → (when ltb m n then x else y) ≡ x
  less_first m n e = chosen _ x y (lt-ltb m n e)

  pub no_less_second : (m n : ℕ) → n ≤ m → (when ltb m n then x else y) ≡ y
  no_less_second m n e = passed_over _ x y (le-ltb m n e)

-- where the first holds the second decides
pub second_decides : (a b : Bool) → a ≡ true → a and b ≡ b
unfolding ◌and◌
second_decides a b e = rw e refl

-- past the end of a table
pub past_end : (n d : ℕ) (xs : List ℕ) (i : ℕ) → n ≤ i → read n d xs i ≡ d
past_end n d xs i h = sym (entry_past n d xs i i d refl h refl)

pub ruleset decided = (same_first, other_second, less_first, no_less_second, chosen, passed_over, second_decides, first_fails, read_at, past_end, eq-eqb, ne_eqb, lt-ltb, le-ltb)
