-- What is written of a number, each case from the facts that choose it.
use Prim.Native.Nat.{ℕ, zero, suc, ◌+◌, ◌-◌, ◌/◌, ◌%◌, ◌<◌, ◌≤◌}
use mathlib.Core.Path.{◌≡◌, refl, sym, subst, ◌∙◌}
use mathlib.Core.Bool.{Bool, true, false}
use mathlib.Core.List.{List, [], ◌∷◌}
use native.Mathlib.Numerals.{sub-one}
use native.Mathlib.Omega.{arith}
use borrow.Author.Rules.{rules}
use lib.ListN.{length, set, length-set}
use Rattle.laws.proofs.Choice.{if_true, if_false, if_eq, if_ne, if_lt, if_ge}
use Rattle.numbers.specs.Number.{largest}
use Rattle.numbers.specs.Form.{encode_in, encode}
use Rattle.numbers.proofs.Readings.{encode_last, encode_more}
use Rattle.numerals.specs.Digits.{decimal_digits, fitting}
use Rattle.numerals.specs.Writes.{Put}
use Rattle.numerals.proofs.Writes.{put_none, put_one, put_then, put_within}
use Rattle.numerals.proofs.Numerals.{put_fitting}
use Rattle.number_text.specs.declared.pack.Reader.{Reader}
use Rattle.number_text.specs.Text.{ends_word, given}
use Rattle.number_text.specs.Lines.{next_column, before, behind, number_text}

-- ---- the groups of a number

module _ (a : List ℕ) (at left n : ℕ) where
  -- no groups
  pub put_no_groups : left ≡ 0 → Put a at (encode_in left n) left a at
  unfolding encode_in
  put_no_groups e = rw e (put_none 0)

  -- one group
  pub put_group : (left ≡ 0 → ⊥) → n < 128 → Put a at (encode_in left n) left (set a at n) (at + 1)
  unfolding encode_in
  put_group h l = subst (λ xs. Put a at xs left (set a at n) (at + 1)) (one left h) (put_within left (omega arith) (put_one n))
    where
      -- with a group left, a number below 128 is its own form
      one : (k : ℕ) → (k ≡ 0 → ⊥) → n ∷ [] ≡ encode_in k n
      one zero h = absurd (h refl)
      one (suc k) h = encode_last k n l

  -- a group, and those after it
  pub put_more_groups : (b : List ℕ) (m : ℕ) → (left ≡ 0 → ⊥) → 128 ≤ n
      → Put (set a at (128 + n % 128)) (at + 1) (encode_in (left - 1) (n / 128)) (left - 1) b m → Put a at (encode_in left n) left b m
  unfolding encode_in
  put_more_groups b m h l p =
      subst (λ xs. Put a at xs left b m) (more left h) (put_within left (omega arith) (put_then (put_one (128 + n % 128)) p))
    where
      -- with a group left, the form is this group and the form of the rest in one less
      more : (k : ℕ) → (k ≡ 0 → ⊥) → (128 + n % 128) ∷ encode_in (k - 1) (n / 128) ≡ encode_in k n
      more zero h = absurd (h refl)
      more (suc k) h = rw sub-one (encode_more k n l)

  -- the buffer keeps its length
  pub long_groups : (b xs : List ℕ) (i m k x : ℕ) → Put (set a at x) k xs i b m → length b ≡ length a
  long_groups b xs i m k x p = p.long ∙ length-set a at x

-- for the groups of a number
pub ruleset groups = (rules, put_no_groups, put_group, put_more_groups, long_groups)

-- ---- the number that a byte ends

module _ (a : List ℕ) (at byte : ℕ) (s : Reader) where
  -- no number is being read
  pub given_none : (s.doing ≡ 1 → ⊥) → Put a at (given s byte) 3 a at
  unfolding given
  given_none h = subst (λ xs. Put a at xs 3 a at) (if_ne _ _ _ _ _ h refl) (put_none 3)

  -- the number is too large
  pub given_over : s.doing ≡ 1 → largest < s.value → Put a at (given s byte) 3 a at
  unfolding given
  given_over e h = subst (λ xs. Put a at xs 3 a at) (if_eq _ _ _ _ _ e (if_lt _ _ _ _ _ h refl)) (put_none 3)

  -- the word goes on
  pub given_not_yet : (r : Bool) → s.doing ≡ 1 → s.value ≤ largest → r ≡ ends_word byte → r ≡ false → Put a at (given s byte) 3 a at
  unfolding given
  given_not_yet r e h d q =
      subst (λ xs. Put a at xs 3 a at) (if_eq _ _ _ _ _ e (if_ge _ _ _ _ _ h (if_false _ _ _ _ (sym d ∙ q) refl))) (put_none 3)

  -- the word ends, and its number is written
  pub given_number : (r : Bool) (b : List ℕ) (m : ℕ) → s.doing ≡ 1 → s.value ≤ largest → r ≡ ends_word byte → r ≡ true
      → Put a at (encode_in 3 s.value) 3 b m → Put a at (given s byte) 3 b m
  unfolding given encode
  given_number r b m e h d q p =
      subst (λ xs. Put a at xs 3 b m) (if_eq _ _ _ _ _ e (if_ge _ _ _ _ _ h (if_true _ _ _ _ (sym d ∙ q) refl))) p

-- for the number that a byte ends
pub ruleset gifts = (rules, given_none, given_over, given_not_yet, given_number)

-- ---- a number in a line

module _ (a : List ℕ) (at column : ℕ) where
  -- the first number of a line has nothing before it
  pub before_none : column ≡ 0 → Put a at (before column) 1 a at
  unfolding before
  before_none e = subst (λ xs. Put a at xs 1 a at) (if_eq _ _ _ _ _ e refl) (put_none 1)

  -- each other has a space
  pub before_space : (column ≡ 0 → ⊥) → Put a at (before column) 1 (set a at 32) (at + 1)
  unfolding before
  before_space h = subst (λ xs. Put a at xs 1 (set a at 32) (at + 1)) (if_ne _ _ _ _ _ h refl) (put_one 32)

  -- a line that is not full goes on
  pub behind_none : (column ≡ 0 → ⊥) → Put a at (behind column) 1 a at
  unfolding behind
  behind_none h = subst (λ xs. Put a at xs 1 a at) (if_ne _ _ _ _ _ h refl) (put_none 1)

  -- a full one ends
  pub behind_end : column ≡ 0 → Put a at (behind column) 1 (set a at 10) (at + 1)
  unfolding behind
  behind_end e = subst (λ xs. Put a at xs 1 (set a at 10) (at + 1)) (if_eq _ _ _ _ _ e refl) (put_one 10)

-- for what stands before and behind a number
pub ruleset seams = (rules, before_none, before_space, behind_none, behind_end)

-- the space, the digits, the line's end
pub number_made : (per column n column' : ℕ) (a b c d : List ℕ) (at from end m : ℕ) → at + 7 ≤ length a → Put a at (before column) 1 b from
    → Put b from (fitting (length b) from 5 (decimal_digits 5 n)) 5 c end → column' ≡ next_column per column → Put c end (behind column') 1 d m
    → Put a at (number_text per column n) 7 d m
unfolding number_text
number_made per column n column' a b c d at from end m room p q e r =
    let here : from + 5 ≤ length b = omega (arith, p.near, p.long) in
    put_then (put_then p (put_fitting b from 5 (decimal_digits 5 n) c end here q)) (subst (λ k. Put c end (behind k) 1 d m) e r)
