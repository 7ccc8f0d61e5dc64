-- The bits of a length below 2 ^ 53 m, and the half millimetres that they tell.
use Prim.Native.Nat.{ℕ, zero, suc, ◌+◌, ◌-◌, ◌*◌, ◌/◌, ◌%◌, ◌^◌, ◌≤◌, ◌<◌}
use mathlib.Core.Path.{◌≡◌, refl, sym, ap, subst, ◌∙◌}
use mathlib.Core.Bool.{false, cond}
use native.Mathlib.Nat.{lt_of_lt_of_le, mul_assoc, mul_comm, mul_right_comm, mul-lt-mul_of_pos_right, eq_of_mul-eq-mul_right, mod-eq_of_lt, div-eq_of_lt, div-lt_iff_lt-mul, mul-div-mul_right}
use native.Mathlib.Omega.{arith}
use borrow.Author.Tests.{ltb-true}
use lib.Dec.{T, leb, ltb, eqb, lit≤, not_T, eqb→eq}
use lib.Arith.{lt→nleb}
use lib.IntN.{ℤ}
use lib.Pow.{pow-add, pow_pos, pow_mono}
use lib.Ieee.{nan, inf, fin, binary64, up, down, size, odd, fits, of_fields, of_bits, to_bits}
use lib.Ieee.Digits.{size-le}
use lib.Ieee.Fits.{down_pos, kept-lt}
use lib.Ieee.Bits.{is_false, cond_no, of_bits-to_bits}
use lib.Ieee.Exact.{HasValue, odd_sign}
use Rattle.laws.proofs.Choice.{if_true, if_false, if_lt, which, holds, fails}
use Rattle.block_lengths.specs.Bits.{shift_of, halves_of}

-- ---- below 2 ^ 53 m the exponent's field is 1075 at most

-- of 1127 digits at most 53 are kept, so 1074 are dropped at most
dropped : (z : ℕ) → z ≤ 1127 → z - 53 ≤ 1074
dropped z h = omega arith

-- so many of the field's weight, and fewer than two
below_field : (k w : ℕ) → k ≤ 1074 → w < 9007199254740992 → 0 + k * 4503599627370496 + w < 1076 * 4503599627370496
below_field k w h l = omega arith

-- the units are below 2 ^ 1127
pub bits_below : (m : ℕ) (e : ℤ) → m * up e < 2 ^ 53 * down e → to_bits binary64 (fin false m e) < 1076 * 4503599627370496
unfolding to_bits
bits_below m e h =
    let n = m * up e * 2 ^ 1074 / down e in
    let small : n < 2 ^ 1127 =
    (div-lt_iff_lt-mul (down_pos e)).1 (subst (λ z. m * up e * 2 ^ 1074 < z) (mul_right_comm (2 ^ 53) (down e) (2 ^ 1074)) (mul-lt-mul_of_pos_right h (pow_pos 1074))) in
    below_field (size n - 53) (n / 2 ^ (size n - 53)) (dropped (size n) (size-le n 1127 small)) (kept-lt 53 n)

-- ---- what such bits are read as

-- the sign's bit is clear
no_sign : (b : ℕ) → b < 1076 * 4503599627370496 → b < 9223372036854775808
no_sign b h = omega arith

-- the pattern is its two fields
fields : (b : ℕ) → b < 1076 * 4503599627370496 → of_bits binary64 b ≡ of_fields binary64 false (b / 4503599627370496) (b % 4503599627370496)
unfolding of_bits
fields b h =
    let l = no_sign b h in
    ap (λ s. of_fields binary64 s (b % 9223372036854775808 / 4503599627370496) (b % 4503599627370496)) (is_false (leb 9223372036854775808 b) (lt→nleb 9223372036854775808 b l))
    ∙ ap (λ z. of_fields binary64 false (z / 4503599627370496) (b % 4503599627370496)) (mod-eq_of_lt l)

-- a field that is not 0 has a leading digit
leading : (t x : ℕ) → suc x ≤ 1075 → of_fields binary64 false (suc x) t ≡ odd 53 false (4503599627370496 + t) x 1074
unfolding of_fields
leading t x h =
    cond_no (eqb (suc x) 2047) (cond (eqb t 0) (inf false) nan) (odd 53 false (4503599627370496 + t) x 1074)
    (not_T (eqb (suc x) 2047) (λ u. too_large x h (eqb→eq (suc x) 2047 u)))
  where
    too_large : (x : ℕ) → suc x ≤ 1075 → suc x ≡ 2047 → ⊥
    too_large x h e = omega arith

-- a field of 0 has none
no_leading : (t : ℕ) → of_fields binary64 false 0 t ≡ odd 53 false t 0 1074
unfolding of_fields
no_leading t = refl

-- ---- a fraction of two thousandths

-- equal fractions have the same whole part
same_whole : (x b y d : ℕ) → 0 < b → 0 < d → x * d ≡ y * b → x / b ≡ y / d
same_whole x b y d B D e =
    sym (mul-div-mul_right x b D) ∙ ap (λ z. z / (b * d)) e ∙ ap (λ z. y * b / z) (mul_comm b d) ∙ mul-div-mul_right y d B

-- two thousand times equal fractions are equal fractions too
two_thousand : (x b y d : ℕ) → 0 < b → 0 < d → x * d ≡ y * b → 2000 * x / b ≡ 2000 * y / d
two_thousand x b y d B D e = same_whole (2000 * x) b (2000 * y) d B D (mul_assoc 2000 x d ∙ ap (λ z. 2000 * z) e ∙ sym (mul_assoc 2000 y b))

-- digits below 2 ^ 53, shifted by 64 or more, are less than half a millimetre: two thousand times they are below 2 ^ 64
no_halves : (q s : ℕ) → q < 9007199254740992 → 64 ≤ s → 2000 * q / 2 ^ s ≡ 0
no_halves q s h l = div-eq_of_lt (lt_of_lt_of_le (below q h) (pow_mono l))
  where
    below : (q : ℕ) → q < 9007199254740992 → 2000 * q < 2 ^ 64
    below q h = omega arith

-- a float of value a / d, by bits b whose exponent's field is x + 1
module _ (a d b x : ℕ) (D : 0 < d) (f : b / 4503599627370496 ≡ suc x) (h : suc x ≤ 1075) where
  -- the shift and the field are 1075
  shift_is : x + shift_of b ≡ 1074
  unfolding shift_of
  shift_is = omega (arith, f)

  -- the digits are so many metres over the shift
  shifted : a * 2 ^ 1074 ≡ (4503599627370496 + b % 4503599627370496) * 2 ^ x * d → a * 2 ^ shift_of b ≡ (4503599627370496 + b % 4503599627370496) * d
  shifted e =
      let q = 4503599627370496 + b % 4503599627370496 in
      let p : 2 ^ 1074 ≡ 2 ^ x * 2 ^ shift_of b = ap (λ z. 2 ^ z) (sym shift_is) ∙ pow-add 2 x (shift_of b) in
      let l : a * 2 ^ 1074 ≡ a * 2 ^ shift_of b * 2 ^ x = ap (λ z. a * z) p ∙ simp (mul_assoc, mul_comm) in
      eq_of_mul-eq-mul_right (2 ^ x) (pow_pos x) (a * 2 ^ shift_of b) (q * d) (sym l ∙ e ∙ mul_right_comm q (2 ^ x) d)

  -- so its half millimetres are those of its bits
  halves_leading : a * 2 ^ 1074 ≡ (4503599627370496 + b % 4503599627370496) * 2 ^ x * d → 2000 * a / d ≡ halves_of b
  unfolding halves_of
  halves_leading e =
      let q = 4503599627370496 + b % 4503599627370496 in
      let v : 2000 * a / d ≡ 2000 * q / 2 ^ shift_of b = two_thousand a d q (2 ^ shift_of b) D (pow_pos (shift_of b)) (shifted e) in
      elim (which (ltb 63 (shift_of b))) [
        | holds t ↦ if_true _ _ _ _ t (v ∙ no_halves q (shift_of b) (full b) (ltb-true 63 (shift_of b) t))
        | fails t ↦ if_false _ _ _ _ t v
      ]
    where
      -- with the leading one it has 53 digits at most
      full : (b : ℕ) → 4503599627370496 + b % 4503599627370496 < 9007199254740992
      full b = omega arith

-- a field of 0: less than any half millimetre
halves_none : (a d b : ℕ) → 0 < d → b / 4503599627370496 ≡ 0 → a * 2 ^ 1074 ≡ b % 4503599627370496 * 2 ^ 0 * d → 2000 * a / d ≡ halves_of b
unfolding shift_of halves_of
halves_none a d b D f e =
    if_lt 63 (1075 - b / 4503599627370496) _ _ _ (omega (arith, f))
    (two_thousand a d (b % 4503599627370496 * 2 ^ 0) (2 ^ 1074) D (pow_pos 1074) e ∙ no_halves (b % 4503599627370496 * 2 ^ 0) 1074 (omega arith) (lit≤ tt))

-- by the field of the bits, whose value is the length's
halves_by : (m : ℕ) (e : ℤ) (b x : ℕ) → b / 4503599627370496 ≡ x → x ≤ 1075 → fin false m e ≡ of_fields binary64 false x (b % 4503599627370496)
    → 2000 * (m * up e) / down e ≡ halves_of b
halves_by m e b zero f h v =
    halves_none (m * up e) (down e) b (down_pos e) f
    (subst (λ y. HasValue y false (b % 4503599627370496 * 2 ^ 0) (2 ^ 1074)) (sym (v ∙ no_leading (b % 4503599627370496))) (odd_sign 53 false (b % 4503599627370496) 0 1074)).1
halves_by m e b (suc x) f h v =
    let q = 4503599627370496 + b % 4503599627370496 in
    halves_leading (m * up e) (down e) b x (down_pos e) f h
    (subst (λ y. HasValue y false (q * 2 ^ x) (2 ^ 1074)) (sym (v ∙ leading (b % 4503599627370496) x h)) (odd_sign 53 false q x 1074)).1

-- the field of bits that are below
field_below : (b : ℕ) → b < 1076 * 4503599627370496 → b / 4503599627370496 ≤ 1075
field_below b h = omega arith

-- so the half millimetres of a length are those of its bits
pub halves_are : (m : ℕ) (e : ℤ) → T (fits binary64 (fin false m e)) → m * up e < 2 ^ 53 * down e → 2000 * (m * up e) / down e ≡ halves_of (to_bits binary64 (fin false m e))
halves_are m e F h =
    let b = to_bits binary64 (fin false m e) in
    let l = bits_below m e h in
    halves_by m e b (b / 4503599627370496) refl (field_below b l) (sym (of_bits-to_bits binary64 (fin false m e) F) ∙ fields b l)
