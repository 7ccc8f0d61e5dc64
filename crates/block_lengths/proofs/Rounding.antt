-- How far one rounding moves a length, and what a rounded quotient and a rounded sum are.
use Prim.Native.Nat.{ℕ, suc, ◌+◌, ◌-◌, ◌*◌, ◌/◌, ◌%◌, ◌^◌, ◌≤◌, ◌<◌, compare}
use mathlib.Core.Path.{◌≡◌, sym, ap, subst, ◌∙◌}
use mathlib.Core.Bool.{true, false, true≢false}
use native.Mathlib.Nat.{mul_assoc, mul_comm, mul_left_comm, mul_right_comm, mul-one, add-mul, suc-mul, mul-pos, mul-le-mul_left, mul-le-mul_right, mul-lt-mul_of_pos_right, div-mul-le_self, div-lt_iff_lt-mul, lt-suc_self}
use native.Mathlib.Omega.{arith}
use lib.Pow.{pow_pos, pow_mono}
use lib.Ieee.{Float, nan, inf, fin, binary64, up, down, size, round, add, div, of_int}
use lib.Ieee.Digits.{size-le}
use lib.Ieee.Fits.{down_pos, nearest-le}
use lib.Ieee.Nearest.{nearest-ge}
use lib.Ieee.Order.{drop, kept}
use lib.Ieee.Scale.{grid, round_same}
use lib.Ieee.Exact.{HasValue}
use lib.Ieee.Back.{round_whole}
use Rattle.block_lengths.specs.Lengths.{float}

-- the smallest values of the format that make a metre
abbrev pub metre : ℕ
metre = 2 ^ 1074

-- as many as one rounding moves a length below 2 ^ 17 metres at most
abbrev pub step : ℕ
step = 2 ^ 1038

-- a multiple of u next to n is at most u away, and so at most w
next_to : (g ku qu squ u n w : ℕ) → g ≡ ku → ku ≤ squ → qu ≤ ku → qu ≤ n → n < squ → squ ≡ qu + u → u ≤ w → (g ≤ n + w) × (n ≤ g + w)
next_to g ku qu squ u n w a b c d e f h = (omega arith, omega arith)

-- the digits that are dropped
few : (z : ℕ) → z ≤ 1091 → z - 53 ≤ 1038
few z h = omega arith

-- a / c below 2 ^ 17 is moved by at most a step
pub moved : (a c : ℕ) → 0 < c → a < 2 ^ 17 * c → (grid binary64 a c * c ≤ a * metre + c * step) × (a * metre ≤ grid binary64 a c * c + c * step)
moved a c C h =
    let n = a * metre in
    let k = drop 53 n c in
    let u = c * 2 ^ k in
    let q = n / u in
    let small : n < 2 ^ 1091 * c = subst (λ (z : ℕ). n < z) (mul_right_comm (2 ^ 17) c metre) (mul-lt-mul_of_pos_right h (pow_pos 1074)) in
    next_to (grid binary64 a c * c) (kept 53 n c * u) (q * u) (suc q * u) u n (c * step)
    (mul_assoc (kept 53 n c) (2 ^ k) c ∙ ap (λ (z : ℕ). kept 53 n c * z) (mul_comm (2 ^ k) c))
    (mul-le-mul_right u (nearest-le q (compare (n % u * 2) u)))
    (mul-le-mul_right u (nearest-ge q (compare (n % u * 2) u)))
    (div-mul-le_self n u)
    ((div-lt_iff_lt-mul (mul-pos C (pow_pos k))).0 (lt-suc_self q))
    (suc-mul q u)
    (mul-le-mul_left c (pow_mono (few (size (n / c)) (size-le (n / c) 1091 ((div-lt_iff_lt-mul C).1 small)))))

-- a whole number is its float
pub float_value : (n : ℕ) → n ≤ 2 ^ 53 → HasValue (float n) false n 1
unfolding float of_int
float_value n h = round_whole binary64 false n h

-- the quotient of a whole number by 60 is rounded once
pub sixtieth : (x : Float) (p : ℕ) → HasValue x false p 1 → div binary64 x (float 60) ≡ round binary64 false p 60
unfolding float of_int div
sixtieth nan p v = absurd v
sixtieth (inf s) p v = absurd v
sixtieth (fin true m e) p v = absurd (true≢false v.0)
sixtieth (fin false m e) p v =
    round_same binary64 false (m * up e * 1) (60 * down e) p 60 (mul-pos (omega arith) (down_pos e)) (omega arith)
    (ap (λ (z : ℕ). z * 60) v.1 ∙ mul_assoc p (down e) 60 ∙ ap (λ (z : ℕ). p * z) (mul_comm (down e) 60))

-- x / e + y / d over c, where x / e is the whole number a and y / d is b / c
over : (x y e d a b c : ℕ) → x * 1 ≡ a * e → y * c ≡ b * d → (x * d + y * e) * c ≡ (a * c + b) * (e * d)
over x y e d a b c v w =
    let same : a * e * d * c + b * d * e ≡ a * c * (e * d) + b * (e * d) = simp (mul_assoc, mul_comm, mul_left_comm) in
    add-mul (x * d) (y * e) c
    ∙ ap (λ (z : ℕ). z * d * c + y * e * c) (sym (mul-one x) ∙ v)
    ∙ ap (λ (z : ℕ). a * e * d * c + z) (mul_right_comm y e c ∙ ap (λ (z : ℕ). z * e) w)
    ∙ same
    ∙ sym (add-mul (a * c) b (e * d))

-- the sum of a whole number and a fraction is rounded once
pub whole_and : (x y : Float) (a b c : ℕ) → 0 < c → HasValue x false a 1 → HasValue y false b c → add binary64 x y ≡ round binary64 false (a * c + b) c
unfolding add
whole_and nan y a b c C v w = absurd v
whole_and (inf s) y a b c C v w = absurd v
whole_and (fin s m e) nan a b c C v w = absurd w
whole_and (fin s m e) (inf t) a b c C v w = absurd w
whole_and (fin true m e) (fin t n d) a b c C v w = absurd (true≢false v.0)
whole_and (fin false m e) (fin true n d) a b c C v w = absurd (true≢false w.0)
whole_and (fin false m e) (fin false n d) a b c C v w =
    round_same binary64 false (m * up e * down d + n * up d * down e) (down e * down d) (a * c + b) c (mul-pos (down_pos e) (down_pos d)) C
    (over (m * up e) (n * up d) (down e) (down d) a b c v.1 w.1)
