-- The lowest number in a set is its count of trailing zeros; and what is in a set of the numbers of which a test holds.
use Prim.Native.Nat.{ℕ, zero, suc, ◌+◌, ◌/◌, ◌%◌, ◌^◌, ◌≤◌, ◌<◌}
use mathlib.Core.Bool.{Bool, true, false, not, and-true, and-false}
use mathlib.Core.Path.{◌≡◌, sym, ap, ◌∙◌}
use native.Mathlib.Nat.{add-zero, div-one, zero-add}
use native.Mathlib.Omega.{arith}
use lib.Count.{count_trailing_zeros, trailing_le, under}
use lib.Dec.{eqb}
use lib.Pow.{shr-shr}
use Rattle.laws.specs.Tests.{◌and◌, ◌or◌, any_below, lowest_from, lowest}
use Rattle.laws.specs.Choice.{when◌then◌else◌}
use Rattle.laws.specs.Tables.{iter}
use Rattle.laws.proofs.Choice.{if_false, if_true}
use Rattle.laws.proofs.Searches.{from_here, from_next, from_none}
use Rattle.laws.proofs.Tests.{or_false}
use Rattle.sets.specs.Sets.{holds, joined}
use Rattle.sets.specs.Lowest.{lowest_in, joined_if, set_where}
use Rattle.sets.proofs.Bits.{below_two}
use Rattle.sets.proofs.Sets.{holds_none, holds_bit, holds_joined}

-- ---- the lowest number in a set

-- bit j + 1 of a number is bit j of its half
half_bit : (x j : ℕ) → eqb (x / 2 ^ suc j % 2) 1 ≡ eqb (x / 2 / 2 ^ j % 2) 1
half_bit x j = ap (λ n. eqb (n % 2) 1) (ap (λ k. x / 2 ^ k) (omega arith) ∙ sym (shr-shr x 1 j))

-- where a test says of i + j what bit j of x says, for w bits, i and the count of trailing zeros together are the lowest of the w numbers from i on at which
-- it holds
trailing_from : (w x i : ℕ) (p : ℕ → Bool) → ((j : ℕ) → j < w → p (i + j) ≡ eqb (x / 2 ^ j % 2) 1) → i + count_trailing_zeros w x ≡ lowest_from w i p
unfolding count_trailing_zeros
trailing_from zero x i p h = add-zero i ∙ sym (from_none i p)
trailing_from (suc w) x i p h =
    below_two (λ b. p i ≡ eqb b 1 → i + under b (count_trailing_zeros w (x / 2)) ≡ lowest_from (suc w) i p)
    (λ e. omega arith ∙ trailing_from w (x / 2) (suc i) p (λ j l. ap p (omega arith) ∙ h (suc j) (omega arith) ∙ half_bit x j) ∙ sym (from_next w i p e))
    (λ e. add-zero i ∙ sym (from_here w i p e))
    (x % 2) (omega arith) (ap p (sym (add-zero i)) ∙ h 0 (omega arith) ∙ ap (λ n. eqb (n % 2) 1) (div-one x))

-- the law: for every word, its count of trailing zeros is the lowest number in the set that it stands for, 64 where there is none
pub trailing_lowest : (set : ℕ) → count_trailing_zeros 64 set ≡ lowest_in set
unfolding lowest_in lowest
trailing_lowest set = sym (zero-add (count_trailing_zeros 64 set)) ∙ trailing_from 64 set 0 (holds set) (λ j l. ap (holds set) (zero-add j) ∙ holds_bit set j l)

-- it is at most 64
pub lowest_most : (set : ℕ) → lowest_in set ≤ 64
lowest_most set = rw (← trailing_lowest set) (trailing_le 64 set)

-- ---- the set of the numbers of which a test holds

-- of the numbers below 64, g is in a set with a number more, where a test holds, if it was in it before, or is that number and the test holds
pub holds_joined_if : (test : Bool) (set x g : ℕ) → g < 64 → holds (joined_if test set x) g ≡ holds set g or (eqb x g and test)
unfolding joined_if when◌then◌else◌ ◌and◌
holds_joined_if true set x g l = holds_joined set x g l ∙ ap (λ t. holds set g or t) (sym (and-true (eqb x g)))
holds_joined_if false set x g l = or_false (holds set g) ∙ ap (λ t. holds set g or t) (sym (and-false (eqb x g)))

-- of the numbers below 64, those in the set are those that are given where the test holds
pub holds_where : (n : ℕ) (test : ℕ → Bool) (f : ℕ → ℕ) (g : ℕ) → g < 64 → holds (set_where n test f) g ≡ any_below n (λ i. eqb (f i) g and test i)
unfolding set_where iter any_below ◌or◌
holds_where zero test f g l = holds_none g
holds_where (suc n) test f g l =
    holds_joined_if (test n) (set_where n test f) (f n) g l ∙ ap (λ t. t or (eqb (f n) g and test n)) (holds_where n test f g l)

-- a set to which the code adds x unless v holds, v saying what t says
module _ (v t : Bool) (e : v ≡ t) (set x r : ℕ) where
  -- it holds: the set stays
  pub unless_held : v ≡ true → r ≡ set → r ≡ joined_if (not t) set x
  unfolding joined_if
  unless_held h q = if_false (not t) (joined set x) set r (ap not (sym e ∙ h)) q

  -- it does not: x is in it
  pub unless_failed : v ≡ false → r ≡ joined set x → r ≡ joined_if (not t) set x
  unfolding joined_if
  unless_failed h q = if_true (not t) (joined set x) set r (ap not (sym e ∙ h)) q
