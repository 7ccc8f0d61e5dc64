-- The digits of a number, written from a place on.
use Prim.Native.Nat.{ℕ, zero, suc, ◌+◌, ◌-◌, ◌/◌, ◌%◌, ◌<◌, ◌≤◌}
use mathlib.Core.Path.{◌≡◌, refl, subst}
use mathlib.Core.List.{List, [], ◌∷◌, ◌++◌}
use native.Mathlib.Numerals.{sub-one}
use native.Mathlib.Omega.{arith}
use borrow.Author.Rules.{rules}
use lib.ListN.{length, set}
use Rattle.laws.proofs.Choice.{if_lt, if_ge}
use Rattle.numerals.specs.Digits.{decimal_digits, fitting}
use Rattle.numerals.specs.Writes.{Put}
use Rattle.numerals.proofs.Writes.{put_none, put_one, put_then, put_within}

-- one digit
pub digits_one : (places n : ℕ) → (places ≡ 0 → ⊥) → n < 10 → (48 + n) ∷ [] ≡ decimal_digits places n
unfolding decimal_digits
digits_one zero n h l = absurd (h refl)
digits_one (suc places) n h l = if_lt _ _ _ _ _ l refl

-- the digits of a tenth, and the last
pub digits_more : (places n : ℕ) → (places ≡ 0 → ⊥) → 10 ≤ n → decimal_digits (places - 1) (n / 10) ++ ((48 + n % 10) ∷ []) ≡ decimal_digits places n
unfolding decimal_digits
digits_more zero n h l = absurd (h refl)
digits_more (suc places) n h l = if_ge _ _ _ _ _ l (rw sub-one)

module _ (a : List ℕ) (at places n : ℕ) where
  -- no places
  pub put_no_digits : places ≡ 0 → Put a at (decimal_digits places n) places a at
  unfolding decimal_digits
  put_no_digits e = rw e (put_none 0)

  -- one digit
  pub put_digit : (places ≡ 0 → ⊥) → n < 10 → Put a at (decimal_digits places n) places (set a at (48 + n)) (at + 1)
  put_digit h l =
      subst (λ xs. Put a at xs places (set a at (48 + n)) (at + 1)) (digits_one places n h l) (put_within places (omega arith) (put_one (48 + n)))

  -- the digits before the last, and the last
  pub put_more_digits : (b : List ℕ) (m : ℕ) → (places ≡ 0 → ⊥) → 10 ≤ n → Put a at (decimal_digits (places - 1) (n / 10)) (places - 1) b m
      → Put a at (decimal_digits places n) places (set b m (48 + n % 10)) (m + 1)
  put_more_digits b m h l p =
      subst (λ xs. Put a at xs places (set b m (48 + n % 10)) (m + 1)) (digits_more places n h l)
      (put_within places (omega arith) (put_then p (put_one (48 + n % 10))))

module _ (a : List ℕ) (at places : ℕ) (text : List ℕ) where
  -- no room: nothing is written
  pub put_no_room : length a < at + places → Put a at (fitting (length a) at places text) places a at
  unfolding fitting
  put_no_room h = subst (λ xs. Put a at xs places a at) (if_lt (length a) (at + places) _ _ _ h refl) (put_none places)

  -- room: the text
  pub put_room : (b : List ℕ) (m : ℕ) → at + places ≤ length a → Put a at text places b m → Put a at (fitting (length a) at places text) places b m
  unfolding fitting
  put_room b m h p = subst (λ xs. Put a at xs places b m) (if_ge (length a) (at + places) _ _ _ h refl) p

  -- so where there is room, it is the text that was written
  pub put_fitting : (b : List ℕ) (m : ℕ) → at + places ≤ length a → Put a at (fitting (length a) at places text) places b m → Put a at text places b m
  unfolding fitting
  put_fitting b m h p = subst⁻ (if_ge (length a) (at + places) _ _ _ h refl) p
    where
      -- where a list was written, so was any list equal to it
      subst⁻ : {xs ys : List ℕ} → ys ≡ xs → Put a at xs places b m → Put a at ys places b m
      subst⁻ e q = rw e q

-- for the functions that write digits
pub ruleset numerals = (rules, put_no_digits, put_digit, put_more_digits, put_no_room, put_room)
