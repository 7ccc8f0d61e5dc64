-- What the reading makes of the digits of a number, and of the byte that ends it.
use Prim.Native.Nat.{ℕ, zero, suc, ◌+◌, ◌-◌, ◌*◌, ◌/◌, ◌%◌, ◌^◌, ◌<◌, ◌≤◌}
use mathlib.Core.Path.{◌≡◌, refl, sym, ap, subst, ◌∙◌}
use mathlib.Core.Bool.{true, false}
use mathlib.Core.List.{List, [], ◌∷◌, ◌++◌}
use native.Mathlib.Nat.{pow-suc, zero-add}
use native.Mathlib.Omega.{arith}
use borrow.Author.Tests.{lt-ltb, le-leb, ne_eqb, ltb-true, ltb-false}
use lib.Dec.{eqb, ltb}
use Rattle.laws.specs.Tests.{◌or◌}
use Rattle.laws.proofs.Choice.{if_true, if_false, if_eq, if_ne, if_ge, if_both}
use Rattle.laws.proofs.Tests.{and_both}
use Rattle.numbers.specs.Number.{largest}
use Rattle.numbers.specs.Form.{encode}
use Rattle.numerals.specs.Digits.{decimal_digits}
use Rattle.number_text.specs.declared.pack.Reader.{Reader}
use Rattle.number_text.specs.Text.{ends_word, is_digit, next_value, in_word, after_end, after_word, next, given, reader_after, packed}
use Rattle.number_text.proofs.Packing.{reader_append, packed_append, reader_one, packed_one}

-- ---- one byte

module _ (r : Reader) (byte : ℕ) where
  -- a byte that no word holds, after a number that is not too large or after nothing
  pub next_end : ends_word byte ≡ true → r.doing < 2 → r.value ≤ largest → after_end r.line byte ≡ next r byte
  unfolding next after_word
  next_end e d v =
      if_ge 3 r.doing _ _ _ (omega arith) (if_ne r.doing 3 _ _ _ (λ z. let y : r.doing ≡ 3 = z in omega arith) (if_true _ _ _ _ e
      (if_ne _ _ _ _ _ (λ z. let y : r.doing ≡ 2 = z in omega arith) (if_ge _ _ _ _ _ v refl))))

  -- after a number it gives the number
  pub given_end : ends_word byte ≡ true → r.doing ≡ 1 → r.value ≤ largest → encode r.value ≡ given r byte
  unfolding given
  given_end e d v = if_eq _ _ _ _ _ d (if_ge _ _ _ _ _ v (if_true _ _ _ _ e refl))

  -- where no number is being read it gives nothing
  pub given_nothing : (r.doing ≡ 1 → ⊥) → [] ≡ given r byte
  unfolding given
  given_nothing h = if_ne _ _ _ _ _ h refl

  -- a byte of a word
  next_in : ends_word byte ≡ false → r.doing < 2 → in_word r byte ≡ next r byte
  unfolding next
  next_in e d =
      if_ge 3 r.doing _ _ _ (omega arith) (if_ne r.doing 3 _ _ _ (λ z. let y : r.doing ≡ 3 = z in omega arith) (if_false _ _ _ _ e refl))

  -- it gives nothing, since no number ends there
  given_in : ends_word byte ≡ false → r.doing < 2 → given r byte ≡ []
  unfolding given
  given_in e d =
      if_both (λ xs. xs ≡ []) (eqb r.doing 1)
      (λ f. if_both (λ xs. xs ≡ []) (ltb largest r.value) (λ g. refl) (λ g. sym (if_false _ _ _ _ e refl)))
      (λ f. refl)

-- ---- one digit

module _ (d : ℕ) (small : d < 10) where
  -- no word ends at a digit
  digit_inside : ends_word (48 + d) ≡ false
  unfolding ends_word ◌or◌
  digit_inside =
      rw (
        ne_eqb (48 + d) 32 (λ z. let y : 48 + d ≡ 32 = z in omega arith),
        ne_eqb (48 + d) 9 (λ z. let y : 48 + d ≡ 9 = z in omega arith),
        ne_eqb (48 + d) 13 (λ z. let y : 48 + d ≡ 13 = z in omega arith),
        ne_eqb (48 + d) 10 (λ z. let y : 48 + d ≡ 10 = z in omega arith),
        ne_eqb (48 + d) 44 (λ z. let y : 48 + d ≡ 44 = z in omega arith),
        ne_eqb (48 + d) 35 (λ z. let y : 48 + d ≡ 35 = z in omega arith),
      )

  -- it is one of `0` to `9`
  digit_is : is_digit (48 + d) ≡ true
  unfolding is_digit
  digit_is = and_both _ _ (le-leb 48 (48 + d) (omega arith)) (le-leb (48 + d) 57 (omega arith))

  -- it makes the number ten times as large, and adds itself
  module _ (r : Reader) (here : r.doing < 2) (most : r.value ≤ largest) where
    -- the number was not too large, so the digit is taken
    grown : next_value r.value (48 + d) ≡ r.value * 10 + d
    unfolding next_value
    grown = let e : 48 + d - 48 ≡ d = omega arith in sym (if_ge largest r.value _ _ _ most (ap (λ k. r.value * 10 + k) (sym e)))

    -- the word is a number still
    digit_doing : (next r (48 + d)).doing ≡ 1
    unfolding in_word
    digit_doing =
        ap (λ (q : Reader). q.doing) (sym (next_in r (48 + d) digit_inside here)
        ∙ sym (if_true _ _ _ _ (and_both _ _ (lt-ltb _ _ here) digit_is) refl))

    -- and that is its value
    digit_value : (next r (48 + d)).value ≡ r.value * 10 + d
    unfolding in_word
    digit_value =
        ap (λ (q : Reader). q.value) (sym (next_in r (48 + d) digit_inside here)
        ∙ sym (if_true _ _ _ _ (and_both _ _ (lt-ltb _ _ here) digit_is) refl)) ∙ grown

-- ---- all digits

-- nothing of a word is read
pub record Clean (r : Reader) : Type 0 where
  pub doing : r.doing ≡ 0
  pub value : r.value ≡ 0

-- a text, read from r on, leaves the number n to be ended, and gives nothing
pub record Leaves (r : Reader) (n : ℕ) (xs : List ℕ) : Type 0 where
  pub doing : (reader_after r xs).doing ≡ 1
  pub value : (reader_after r xs).value ≡ n
  pub none : packed r xs ≡ []

-- a digit after such a text
leaves_more : (r : Reader) (n d : ℕ) (xs : List ℕ) → d < 10 → n ≤ largest → Leaves r n xs → Leaves r (n * 10 + d) (xs ++ ((48 + d) ∷ []))
leaves_more r n d xs l m h =
    let q : Reader = reader_after r xs in
    let here : q.doing < 2 = omega (arith, h.doing) in
    let most : q.value ≤ largest = omega (arith, h.value) in
    let end : reader_after r (xs ++ ((48 + d) ∷ [])) ≡ next q (48 + d) = reader_append r xs _ ∙ reader_one q _ in record {
      doing = ap (λ (t : Reader). t.doing) end ∙ digit_doing d l q here most;
      value = ap (λ (t : Reader). t.value) end ∙ digit_value d l q here most ∙ ap (λ k. k * 10 + d) h.value;
      none = packed_append r xs _ ∙ ap (λ ys. ys ++ packed q ((48 + d) ∷ [])) h.none ∙ packed_one q _ ∙ given_in q (48 + d) (digit_inside d l) here;
    }

-- the first digit
leaves_one : (r : Reader) (d : ℕ) → d < 10 → Clean r → Leaves r d ((48 + d) ∷ [])
leaves_one r d l h =
    let here : r.doing < 2 = omega (arith, h.doing) in
    let most : r.value ≤ largest = omega (arith, h.value) in record {
      doing = ap (λ (t : Reader). t.doing) (reader_one r _) ∙ digit_doing d l r here most;
      value = ap (λ (t : Reader). t.value) (reader_one r _) ∙ digit_value d l r here most ∙ ap (λ k. k * 10 + d) h.value ∙ zero-add d;
      none = packed_one r _ ∙ given_in r (48 + d) (digit_inside d l) here;
    }

-- the digits of a number that has room in so many places are read as the number
pub leaves_digits : (k n : ℕ) (r : Reader) → n < 10 ^ suc k → n ≤ largest → Clean r → Leaves r n (decimal_digits (suc k) n)
unfolding decimal_digits
leaves_digits zero n r h m c =
    if_both (Leaves r n) (ltb n 10) (λ e. leaves_one r n (ltb-true n 10 e) c) (λ e. absurd (omega (arith, ltb-false n 10 e)))
leaves_digits (suc k) n r h m c =
    if_both (Leaves r n) (ltb n 10) (λ e. leaves_one r n (ltb-true n 10 e) c)
    (λ e. let whole : n / 10 * 10 + n % 10 ≡ n = omega arith in
    subst (λ v. Leaves r v (decimal_digits (suc k) (n / 10) ++ ((48 + n % 10) ∷ []))) whole
    (leaves_more r (n / 10) (n % 10) (decimal_digits (suc k) (n / 10)) (omega arith) (omega arith)
    (leaves_digits k (n / 10) r (omega (arith, pow-suc 10 (suc k))) (omega arith) c)))
