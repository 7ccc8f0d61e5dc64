-- When a float is near a fraction, and when it is a whole number.
use Prim.Native.Nat.{ℕ, ◌+◌, ◌*◌, ◌≤◌, ◌<◌}
use mathlib.Core.Path.{◌≡◌, sym, ap, ◌∙◌}
use mathlib.Core.Bool.{true, false, true≢false}
use native.Mathlib.Nat.{le_trans, le_of_eq, mul_assoc, mul_comm, mul_left_comm, mul-one, add-mul, mul-le-mul_right, le_of_mul-le-mul_right}
use borrow.Author.Tests.{le-leb, eq-eqb}
use lib.Ieee.{Float, nan, inf, fin, up, down}
use lib.Ieee.Exact.{HasValue}
use Rattle.laws.proofs.Tests.{and_both}
use Rattle.block_lengths.specs.Fractions.{near, within, exactly}

-- a / b and h / m are one fraction, so what is said of its distance from c / d in the one form holds in the other: both sides times m and b
module _ (n a b h m c d : ℕ) (p : 0 < m) (v : a * m ≡ h * b) where
  -- n times a / b and n times h / m, over the same
  both_over : n * a * d * m ≡ n * (h * d) * b
  both_over =
      let l : n * a * d * m ≡ n * d * (a * m) = simp (mul_assoc, mul_comm, mul_left_comm) in
      let r : n * d * (h * b) ≡ n * (h * d) * b = simp (mul_assoc, mul_comm, mul_left_comm) in
      l ∙ ap (λ z. n * d * z) v ∙ r

  -- what is not above c / d by more than 1 / n is not above it in the other form
  not_above : n * (h * d) ≤ n * (c * m) + m * d → n * a * d ≤ n * c * b + b * d
  not_above k =
      let same : (n * (c * m) + m * d) * b ≡ (n * c * b + b * d) * m = simp (add-mul, mul_assoc, mul_comm, mul_left_comm) in
      le_of_mul-le-mul_right (le_trans (le_of_eq both_over) (le_trans (mul-le-mul_right b k) (le_of_eq same))) p

  -- and what is not below it is not
  not_below : n * (c * m) ≤ n * (h * d) + m * d → n * c * b ≤ n * a * d + b * d
  not_below k =
      let left : n * c * b * m ≡ n * (c * m) * b = simp (mul_assoc, mul_comm, mul_left_comm) in
      let right : (n * (h * d) + m * d) * b ≡ n * (h * d) * b + b * d * m = simp (add-mul, mul_assoc, mul_comm, mul_left_comm) in
      let all : (n * a * d + b * d) * m ≡ n * (h * d) * b + b * d * m = add-mul (n * a * d) (b * d) m ∙ ap (λ z. z + b * d * m) both_over in
      le_of_mul-le-mul_right (le_trans (le_of_eq left) (le_trans (mul-le-mul_right b k) (le_of_eq (right ∙ sym all)))) p

-- a float whose value is h / m, at most 1 / n from c / d
pub is_within : (n : ℕ) (x : Float) (h m c d : ℕ) → 0 < m → HasValue x false h m → n * (h * d) ≤ n * (c * m) + m * d → n * (c * m) ≤ n * (h * d) + m * d
    → within n x c d ≡ true
unfolding within near
is_within n nan h m c d p v a b = absurd v
is_within n (inf s) h m c d p v a b = absurd v
is_within n (fin true k e) h m c d p v a b = absurd (true≢false v.0)
is_within n (fin false k e) h m c d p v a b =
    and_both _ _
    (le-leb (n * (k * up e) * d) _ (not_above n (k * up e) (down e) h m c d p v.1 a))
    (le-leb (n * c * down e) _ (not_below n (k * up e) (down e) h m c d p v.1 b))

-- a float whose value is whole is that number exactly
pub is_exactly : (x : Float) (c : ℕ) → HasValue x false c 1 → exactly x c ≡ true
unfolding exactly
is_exactly nan c v = absurd v
is_exactly (inf s) c v = absurd v
is_exactly (fin true m e) c v = absurd (true≢false v.0)
is_exactly (fin false m e) c v = eq-eqb (m * up e) (c * down e) (sym (mul-one (m * up e)) ∙ v.1)
