-- A length in whole millimetres: what the two tests tell of a float, and that the nearest millimetre is within half a one.
use Prim.Native.Nat.{ℕ, ◌+◌, ◌*◌, ◌/◌, ◌%◌, ◌^◌, ◌≤◌, ◌<◌}
use mathlib.Core.Path.{◌≡◌, refl, sym, ap, subst, ◌∙◌}
use mathlib.Core.Bool.{true, false, not, true≢false}
use native.Mathlib.Nat.{mul_assoc, mul_comm, mul-one, one-mul, mul-pos, add-div_right, div-div-eq-div-mul, div-eq_of_lt, lt-div-mul-add, div-mul-le_self, add-mul, mul-le-mul_left, mul-le-mul_right, lt_of_mul-lt-mul_right}
use native.Mathlib.Omega.{arith}
use borrow.Author.Tests.{ltb-true, ltb-false, le-leb, leb-true}
use lib.Dec.{T, ltb, lit<}
use lib.IntN.{ℤ}
use lib.Ieee.{Float, nan, inf, fin, binary64, up, down, lt, is_nan, fits, of_bits, to_bits}
use lib.Ieee.Fits.{down_pos}
use Rattle.laws.proofs.Choice.{if_true, if_false, if_lt}
use Rattle.laws.proofs.Tests.{and_both, and_left, and_right}
use Rattle.block_lengths.specs.Fractions.{near, within}
use Rattle.block_lengths.specs.Millimetres.{nearest_millimetre, millimetres}
use Rattle.block_lengths.specs.Bits.{halves_of}
use Rattle.block_lengths.proofs.Bits.{bits_below, halves_are}

-- the code's 0.0 and 9007199254740992.0, by their bits
abbrev nothing : Float
nothing = of_bits binary64 0

abbrev limit : Float
limit = of_bits binary64 4845873199050653696

-- what is below something is a number
pub is_number : (x y : Float) → lt x y ≡ true → T (not (is_nan x))
unfolding lt is_nan
is_number nan y e = absurd (true≢false (sym e))
is_number (inf s) y e = tt
is_number (fin s m n) y e = tt

-- whether a number that is not negative is below 2 ^ 53 m
below_limit : (m : ℕ) (e : ℤ) → lt (fin false m e) limit ≡ ltb (m * up e) (2 ^ 53 * down e)
unfolding lt of_bits
below_limit m e = rw (mul-one (m * up e), one-mul (2 ^ 53))

-- a half more and rounded down is the upper half of the halves
halves_up : (a d : ℕ) → 0 < d → nearest_millimetre a d ≡ (2000 * a / d + 1) / 2
unfolding nearest_millimetre
halves_up a d D = ap (λ z. (2000 * a + d) / z) (mul_comm 2 d) ∙ sym (div-div-eq-div-mul (2000 * a + d) d 2) ∙ ap (λ z. z / 2) (add-div_right (2000 * a) D)

-- the upper half of a number
upper_half : (h k : ℕ) → h ≡ k → h / 2 + h % 2 ≡ (k + 1) / 2
upper_half h k e = omega (arith, e)

-- above 0 and below 2 ^ 53 m the bits are those of such a length: the tests leave no other float
pub bits_short : (x : Float) → lt nothing x ≡ true → lt x limit ≡ true → to_bits binary64 x < 4845873199050653696
unfolding lt of_bits
bits_short nan p l = absurd (true≢false (sym l))
bits_short (inf true) p l = absurd (true≢false (sym p))
bits_short (inf false) p l = absurd (true≢false (sym l))
bits_short (fin true m e) p l = absurd (true≢false (sym p))
bits_short (fin false m e) p l = bits_below m e (ltb-true (m * up e) (2 ^ 53 * down e) (sym (below_limit m e) ∙ l))

-- and the upper half of the bits' half millimetres is its nearest millimetre
pub millimetres_are : (x : Float) (h : ℕ) → T (fits binary64 x) → lt nothing x ≡ true → lt x limit ≡ true → h ≡ halves_of (to_bits binary64 x) → h / 2 + h % 2 ≡ millimetres x
unfolding lt of_bits millimetres
millimetres_are nan h F p l e = absurd (true≢false (sym l))
millimetres_are (inf true) h F p l e = absurd (true≢false (sym p))
millimetres_are (inf false) h F p l e = absurd (true≢false (sym l))
millimetres_are (fin true m n) h F p l e = absurd (true≢false (sym p))
millimetres_are (fin false m n) h F p l e =
    let t : ltb (m * up n) (2 ^ 53 * down n) ≡ true = sym (below_limit m n) ∙ l in
    if_true _ _ _ _ t
    (upper_half h (2000 * (m * up n) / down n) (e ∙ sym (halves_are m n F (ltb-true (m * up n) (2 ^ 53 * down n) t))) ∙ sym (halves_up (m * up n) (down n) (down_pos n)))

-- nothing has no millimetre
zero_of : (a d : ℕ) → 0 < d → a ≡ 0 → 0 ≡ nearest_millimetre a d
unfolding nearest_millimetre
zero_of a d D z = sym (div-eq_of_lt (omega (arith, z)))

-- not above 0: none
pub none_of_nothing : (x : Float) → lt nothing x ≡ false → 0 ≡ millimetres x
unfolding lt of_bits millimetres
none_of_nothing nan p = refl
none_of_nothing (inf s) p = refl
none_of_nothing (fin true m e) p = refl
none_of_nothing (fin false m e) p =
    let z : m * up e ≡ 0 = omega (arith, ltb-false (0 * down e) (m * up e * 1) p) in
    if_lt (m * up e) _ _ _ _ (rw z (mul-pos (lit< tt) (down_pos e))) (zero_of (m * up e) (down e) (down_pos e) z)

-- 2 ^ 53 m or more, or not a number: none
pub none_of_long : (x : Float) → lt x limit ≡ false → 0 ≡ millimetres x
unfolding millimetres
none_of_long nan p = refl
none_of_long (inf s) p = refl
none_of_long (fin true m e) p = refl
none_of_long (fin false m e) p = if_false _ _ _ _ (sym (below_limit m e) ∙ p) refl

-- ---- how near it is

-- a whole part w of n over twice d: what n is at most and at least
parts : (w n d : ℕ) → 0 < d → n / (2 * d) ≡ w → (w * (2 * d) ≤ n) × (n < w * (2 * d) + 2 * d)
parts w n d D e = (subst (λ z. z * (2 * d) ≤ n) e (div-mul-le_self n (2 * d)), subst (λ z. n < z * (2 * d) + 2 * d) e (lt-div-mul-add (omega arith)))

-- the nearest millimetre of a / d is at most half a one from it
module _ (a d w : ℕ) (D : 0 < d) (e : nearest_millimetre a d ≡ w) where
  nearest_parts : (w * d * 2 ≤ 2000 * a + d) × (2000 * a ≤ w * d * 2 + d)
  unfolding nearest_millimetre
  nearest_parts =
      let p = parts w (2000 * a + d) d D e in
      let q : w * (2 * d) ≡ w * d * 2 = ap (λ z. w * z) (mul_comm 2 d) ∙ sym (mul_assoc w d 2) in
      (omega (arith, p.0, q), omega (arith, p.1, q))

  nearest_half : near 2000 a d w 1000 ≡ true
  unfolding near
  nearest_half =
      let p = nearest_parts in
      let q : 2000 * w * d ≡ 2000 * (w * d) = mul_assoc 2000 w d in
      and_both _ _ (le-leb (2000 * a * 1000) _ (omega (arith, p.1, q))) (le-leb (2000 * w * d) _ (omega (arith, p.0, q)))

-- what is below 2 ^ 53 m has its nearest millimetre
counted : (m : ℕ) (e : ℤ) → m * up e < 2 ^ 53 * down e → nearest_millimetre (m * up e) (down e) ≡ millimetres (fin false m e)
unfolding millimetres
counted m e h = if_lt (m * up e) (2 ^ 53 * down e) _ _ _ h refl

-- the millimetres of a length below 2 ^ 53 m are within half a millimetre of it
pub half_millimetre : (m : ℕ) (e : ℤ) → m * up e < 2 ^ 53 * down e → within 2000 (fin false m e) (millimetres (fin false m e)) 1000 ≡ true
unfolding within
half_millimetre m e h = nearest_half (m * up e) (down e) (millimetres (fin false m e)) (down_pos e) (counted m e h)

-- ---- a length next to a straight line in sixtieths of a metre

-- the whole millimetres w and the sixtieths n, each times d: in thirds of a millimetre they are less than two apart
thirds : (a d w n : ℕ) → w * 2 ≤ 2000 * a + d → 2000 * a ≤ w * 2 + d → 10000 * a * 60 ≤ 10000 * n + d * 60 → 10000 * n ≤ 10000 * a * 60 + d * 60 → 0 < d
    → (3 * w < 50 * n + 2 * d) × (50 * n < 3 * w + 2 * d)
thirds a d w n p q r s D = (omega arith, omega arith)

-- so w is nearest to the line, of which a millimetre has three thirds
one_third : (w n : ℕ) → 3 * w < 50 * n + 2 → 50 * n < 3 * w + 2 → w ≡ nearest_millimetre n 60
unfolding nearest_millimetre
one_third w n p q = omega arith

-- a fraction a / d at most a tenth of a millimetre from the line has the line's millimetres
module _ (a d n w : ℕ) (D : 0 < d) (e : nearest_millimetre a d ≡ w) (u : near 10000 a d n 60 ≡ true) where
  same_millimetre : w ≡ nearest_millimetre n 60
  unfolding near
  same_millimetre =
      let p = nearest_parts a d w D e in
      let above = leb-true (10000 * a * 60) (10000 * n * d + d * 60) (and_left _ _ u) in
      let below = leb-true (10000 * n * d) (10000 * a * 60 + d * 60) (and_right _ _ u) in
      let m : 10000 * n * d ≡ 10000 * (n * d) = mul_assoc 10000 n d in
      let t = thirds a d (w * d) (n * d) p.0 p.1 (omega (arith, above, m)) (omega (arith, below, m)) D in
      let x : 3 * w * d ≡ 3 * (w * d) = mul_assoc 3 w d in
      let y : 50 * n * d ≡ 50 * (n * d) = mul_assoc 50 n d in
      let v : (50 * n + 2) * d ≡ 50 * n * d + 2 * d = add-mul (50 * n) 2 d in
      let z : (3 * w + 2) * d ≡ 3 * w * d + 2 * d = add-mul (3 * w) 2 d in
      one_third w n (lt_of_mul-lt-mul_right d (omega (arith, t.0, x, y, v))) (lt_of_mul-lt-mul_right d (omega (arith, t.1, x, y, z)))

-- and is below 2 ^ 53 m
below_long : (a d n : ℕ) → n ≤ 3932160 → 0 < d → near 10000 a d n 60 ≡ true → a < 2 ^ 53 * d
unfolding near
below_long a d n b D u =
    let m : 10000 * n * d ≤ 10000 * 3932160 * d = mul-le-mul_right d (mul-le-mul_left 10000 b) in
    let above = leb-true (10000 * a * 60) (10000 * n * d + d * 60) (and_left _ _ u) in
    omega (arith, above)

-- a float at most a tenth of a millimetre from a line of at most 65,536 m: its millimetres are within half a one of it, and they are the line's
pub next_millimetre : (x : Float) (n : ℕ) → n ≤ 3932160 → within 10000 x n 60 ≡ true → (within 2000 x (millimetres x) 1000 ≡ true) × (millimetres x ≡ nearest_millimetre n 60)
unfolding within
next_millimetre nan n b u = absurd (true≢false (sym u))
next_millimetre (inf s) n b u = absurd (true≢false (sym u))
next_millimetre (fin true m e) n b u = absurd (true≢false (sym u))
next_millimetre (fin false m e) n b u =
    let h = below_long (m * up e) (down e) n b (down_pos e) u in
    (half_millimetre m e h, same_millimetre (m * up e) (down e) n (millimetres (fin false m e)) (down_pos e) (counted m e h) u)
