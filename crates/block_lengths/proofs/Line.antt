-- An interpolated length is next to the straight line, whatever the two lengths are below 65,536 m: two roundings, each of at most 2 ^ -36 m.
use Prim.Native.Nat.{ℕ, ◌+◌, ◌-◌, ◌*◌, ◌^◌, ◌≤◌, ◌<◌}
use mathlib.Core.Path.{◌≡◌, sym, ap, subst, ◌∙◌}
use mathlib.Core.Bool.{true, false}
use native.Mathlib.Nat.{le_refl, le_trans, le_of_eq, le_of_lt, lt_of_le_of_lt, mul_assoc, mul_comm, mul_left_comm, mul_right_comm, add-le-add, add-mul, mul-add, mul-le-mul_left, mul-le-mul_right, le_of_mul-le-mul_right}
use native.Mathlib.Omega.{arith}
use lib.Dec.{lit<, lit≤}
use lib.Pow.{pow_pos}
use lib.Ieee.{binary64, round, add}
use lib.Ieee.Scale.{grid, overflow, round_val}
use lib.Ieee.Exact.{HasValue}
use Rattle.block_lengths.specs.Lengths.{float, interpolated}
use Rattle.block_lengths.specs.Fractions.{within, exactly}
use Rattle.block_lengths.proofs.Laws.{small_product}
use Rattle.block_lengths.proofs.Rounding.{metre, step, moved, float_value, sixtieth, whole_and}
use Rattle.block_lengths.proofs.Fractions.{is_within, is_exactly}

-- what is moved by at most a step is no infinity
no_infinity : (a c g : ℕ) → 0 < c → a < 2 ^ 17 * c → g * c ≤ a * metre + c * step → g < overflow binary64
no_infinity a c g C h l =
    let b : a * metre ≤ 2 ^ 1091 * c = subst (λ z. a * metre ≤ z) (mul_right_comm (2 ^ 17) c metre) (mul-le-mul_right metre (le_of_lt h)) in
    let t : a * metre + c * step ≤ (2 ^ 1091 + step) * c =
    subst (λ z. a * metre + c * step ≤ z) (sym (add-mul (2 ^ 1091) step c)) (add-le-add b (le_of_eq (mul_comm c step))) in
    lt_of_le_of_lt (le_of_mul-le-mul_right (le_trans l t) C) (lit< tt)

-- the sum is below 2 ^ 17 metres: l is low * m, q the product times m, g the rounded quotient, d a step
sum_small : (l q g m d : ℕ) → 0 < m → d ≤ m → l ≤ 65535 * m → q ≤ 3866565 * m → g * 60 ≤ q + 60 * d → l + g < 131072 * m
sum_small l q g m d a b c e f = omega arith

-- two roundings, of a quotient and of a sum, each by at most d: the sum is at most 2 d from the straight line, which is n times m
two_roundings : (l q g h n d : ℕ) → n ≡ 60 * l + q → g * 60 ≤ q + 60 * d → q ≤ g * 60 + 60 * d → h ≤ l + g + d → l + g ≤ h + d
    → (h * 60 ≤ n + 60 * (2 * d)) × (n ≤ h * 60 + 60 * (2 * d))
two_roundings l q g h n d b c e f i = (omega arith, omega arith)

-- so a fraction of the metre that has two such steps holds it
held_by : (k a b m d : ℕ) → k * (2 * d) ≤ m → a ≤ b + 60 * (2 * d) → k * a ≤ k * b + m * 60
held_by k a b m d s h =
    let e : k * (b + 60 * (2 * d)) ≡ k * b + k * (2 * d) * 60 = mul-add k b (60 * (2 * d)) ∙ ap (λ z. k * b + z) (simp (mul_assoc, mul_comm, mul_left_comm)) in
    le_trans (mul-le-mul_left k h) (le_trans (le_of_eq e) (add-le-add (le_refl (k * b)) (mul-le-mul_right 60 s)))

-- the straight line from low up to low + r
line : (low r s : ℕ) → s < 60 → low * (60 - s) + (low + r) * s ≡ 60 * low + r * s
line low r s h =
    let a : (low + r) * s ≡ low * s + r * s = add-mul low r s in
    let b : low * (60 - s + s) ≡ low * (60 - s) + low * s = mul-add low (60 - s) s in
    let c : 60 - s + s ≡ 60 = omega arith in
    let d : low * (60 - s + s) ≡ low * 60 = ap (λ z. low * z) c in
    omega arith

-- a bound with a step more, over metres
less_metres : (h a : ℕ) → h * metre ≤ a * metre + metre * step → h ≤ a + step
less_metres h a l =
    le_of_mul-le-mul_right (le_trans l (le_of_eq (ap (λ z. a * metre + z) (mul_comm metre step) ∙ sym (add-mul a step metre)))) (pow_pos 1074)

-- ---- a length that a table has

-- it is exact
pub float_exact : (n : ℕ) → n < 65536 → exactly (float n) n ≡ true
float_exact n h = is_exactly (float n) n (float_value n (le_trans (le_of_lt h) (lit≤ tt)))

-- and on the straight line, whose other end does not count there
pub float_on_line : (k n high : ℕ) → n < 65536 → within k (float n) (n * (60 - 0) + high * 0) 60 ≡ true
float_on_line k n high h =
    let e : (n * (60 - 0) + high * 0) * 1 ≡ n * 60 = omega arith in
    is_within k (float n) n 1 (n * (60 - 0) + high * 0) 60 (lit< tt) (float_value n (le_trans (le_of_lt h) (lit≤ tt)))
    (rw e (omega arith)) (rw e (omega arith))

-- ---- a length between two of them

-- it is within 1 / k of the straight line for any k up to 2 ^ 35
pub next_to_line : (k low high seconds : ℕ) → k ≤ 2 ^ 35 → low ≤ high → high < 65536 → seconds < 60
    → within k (interpolated low high seconds) (low * (60 - seconds) + high * seconds) 60 ≡ true
unfolding interpolated
next_to_line k low high seconds K l h b =
    let r = high - low in
    let p = r * seconds in
    let n = low * (60 - seconds) + high * seconds in
    let up_again : low + r ≡ high = omega arith in
    let p_small : p ≤ 3866565 = small_product r seconds (omega arith) b in
    let low_small : low ≤ 65535 = omega arith in
    let p_below : p < 2 ^ 17 * 60 = omega arith in
    let g = grid binary64 p 60 in
    let quotient = moved p 60 (omega arith) p_below in
    let g_value : HasValue (round binary64 false p 60) false g metre = round_val binary64 p 60 (no_infinity p 60 g (omega arith) p_below quotient.0) in
    let a = low * metre + g in
    let a_below : a < 2 ^ 17 * metre =
    sum_small (low * metre) (p * metre) g metre step (pow_pos 1074) (lit≤ tt) (mul-le-mul_right metre low_small) (mul-le-mul_right metre p_small) quotient.0 in
    let s = grid binary64 a metre in
    let sum = moved a metre (pow_pos 1074) a_below in
    let s_value : HasValue (round binary64 false a metre) false s metre = round_val binary64 a metre (no_infinity a metre s (pow_pos 1074) a_below sum.0) in
    let straight : n * metre ≡ 60 * (low * metre) + p * metre =
    ap (λ z. (low * (60 - seconds) + z * seconds) * metre) (sym up_again)
    ∙ ap (λ z. z * metre) (line low r seconds b)
    ∙ add-mul (60 * low) p metre
    ∙ ap (λ z. z + p * metre) (mul_assoc 60 low metre) in
    let close = two_roundings (low * metre) (p * metre) g s (n * metre) step straight quotient.0 quotient.1 (less_metres s a sum.0) (less_metres a s sum.1) in
    let steps : k * (2 * step) ≤ metre = le_trans (mul-le-mul_right (2 * step) K) (lit≤ tt) in
    subst (λ x. within k x n 60 ≡ true)
    (sym (ap (add binary64 (float low)) (sixtieth (float p) p (float_value p (le_trans p_small (lit≤ tt))))
    ∙ whole_and (float low) (round binary64 false p 60) low g metre (pow_pos 1074) (float_value low (le_trans low_small (lit≤ tt))) g_value))
    (is_within k (round binary64 false a metre) s metre n 60 (pow_pos 1074) s_value
    (held_by k (s * 60) (n * metre) metre step steps close.0) (held_by k (n * metre) (s * 60) metre step steps close.1))
