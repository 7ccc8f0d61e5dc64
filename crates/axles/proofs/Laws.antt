-- The cases of the number and of what it says, a law at each return of the code.
use Rattle.std.proofs.Common.{◌≡◌, ℕ, ◌+◌, ◌%◌, ◌<◌, ◌≤◌, true, false, ℤ, pos, negsuc, ◌-ℤ◌, sym, refl, ap, ◌∙◌, not-suc-le-zero, arith, to_z-of_z, w32, SFits, to_z, of_z, ltb-true}
use mathlib.Core.Bool.{false≢true}
use lib.Signed.{lt_z, le_z}
use mir.Facts.{to_z_pos}
use Rattle.laws.proofs.Choice.{if_true, if_false, if_eq, if_ne, if_lt, if_ge}
use Rattle.axles.specs.Rounds.{around, signed}
use Rattle.axles.specs.Heads.{net, number, reading_of}
use Rattle.axles.specs.declared.Axles.{Axles}
use Rattle.axles.proofs.Rounds.{taken_off_around, minus_round}

-- ---- the number

-- all in less all out, from the code's two sums and their difference, each round 65,536
pub sum_made : (x : Axles) (a b r : ℕ) → a ≡ (x.head0.inward + x.head1.inward) % 65536 → b ≡ (x.head0.outward + x.head1.outward) % 65536
    → r < 65536 → (r + b) % 65536 ≡ a → r ≡ around (net x)
unfolding net around
sum_made x a b r p q h e =
    taken_off_around (pos (x.head0.inward + x.head1.inward)) r (x.head0.outward + x.head1.outward) a h (omega arith) p

-- the number, from that sum, what is left of it once the sum at the last reset is taken off, and that as signed
pub number_made : (x : Axles) (s n : ℕ) (r : ℤ) → s ≡ around (net x) → n < 65536 → (n + x.sum) % 65536 ≡ s → r ≡ signed n → r ≡ number x
unfolding number
number_made x s n r p h e q = q ∙ ap signed (taken_off_around (net x) n x.sum s h e p)

-- the lower half stands for itself
pub signed_low : (n : ℕ) → n < 32768 → to_z w32 n ≡ signed n
unfolding signed
signed_low n h = if_lt n 32768 _ _ (to_z w32 n) h (to_z_pos w32 (omega arith))

-- the upper half less 65,536 fits
pub upper_fits : (n : ℕ) → n < 65536 → SFits w32 (to_z w32 n -ℤ pos 65536)
upper_fits n h = rw (to_z_pos w32 {n = n} (omega arith), minus_round n h) (record { sfits = omega arith })

-- and is the signed number
pub signed_high : (n : ℕ) → n < 65536 → 32768 ≤ n → to_z w32 (of_z w32 (to_z w32 n -ℤ pos 65536)) ≡ signed n
unfolding signed
signed_high n h l =
    to_z-of_z (upper_fits n h) ∙ if_ge n 32768 _ _ (to_z w32 n -ℤ pos 65536) l (ap (λ z. z -ℤ pos 65536) (to_z_pos w32 {n = n} (omega arith)))

-- ---- what it says

-- 0 is free, by the first test
zero_says : (n : ℤ) → n ≡ pos 0 → 1 ≡ reading_of n
unfolding reading_of
zero_says n e = rw e (if_eq 0 0 _ _ 1 refl refl)

-- below 0 is none: no number from 0 on is less than 0
minus_says : (n : ℤ) → lt_z n (pos 0) ≡ true → 3 ≡ reading_of n
unfolding reading_of
minus_says (pos n) e = absurd (not-suc-le-zero (ltb-true n 0 e))
minus_says (negsuc n) e = refl

-- at most 255, not 0 and not below it: occupied
few_says : (n : ℤ) → (n ≡ pos 0 → ⊥) → lt_z n (pos 0) ≡ false → le_z n (pos 255) ≡ true → 2 ≡ reading_of n
unfolding reading_of
few_says (pos n) f g e = if_ne n 0 _ _ 2 (λ q. f (ap pos q)) (if_true _ _ _ 2 e refl)
few_says (negsuc n) f g e = absurd (false≢true (sym g))

-- more: none
many_says : (n : ℤ) → (n ≡ pos 0 → ⊥) → lt_z n (pos 0) ≡ false → le_z n (pos 255) ≡ false → 3 ≡ reading_of n
unfolding reading_of
many_says (pos n) f g e = if_ne n 0 _ _ 3 (λ q. f (ap pos q)) (if_false _ _ _ 3 e refl)
many_says (negsuc n) f g e = absurd (false≢true (sym g))

-- the same by its bits, as the code tests it: a number that fits comes back from them
module _ (n : ℤ) (s : SFits w32 n) where
  -- its bits are 0
  pub zero_read : of_z w32 n ≡ 0 → 1 ≡ reading_of n
  zero_read e = zero_says n (sym (to_z-of_z s) ∙ ap (to_z w32) e)

  -- they say that it is below 0
  pub minus_read : lt_z (to_z w32 (of_z w32 n)) (pos 0) ≡ true → 3 ≡ reading_of n
  minus_read e = minus_says n (ap (λ z. lt_z z (pos 0)) (sym (to_z-of_z s)) ∙ e)

  -- they say that it is at most 255
  pub few_read : (of_z w32 n ≡ 0 → ⊥) → lt_z (to_z w32 (of_z w32 n)) (pos 0) ≡ false → le_z (to_z w32 (of_z w32 n)) (pos 255) ≡ true → 2 ≡ reading_of n
  few_read f g e =
      few_says n (λ q. f (ap (of_z w32) q)) (ap (λ z. lt_z z (pos 0)) (sym (to_z-of_z s)) ∙ g) (ap (λ z. le_z z (pos 255)) (sym (to_z-of_z s)) ∙ e)

  -- and that it is more
  pub many_read : (of_z w32 n ≡ 0 → ⊥) → lt_z (to_z w32 (of_z w32 n)) (pos 0) ≡ false → le_z (to_z w32 (of_z w32 n)) (pos 255) ≡ false → 3 ≡ reading_of n
  many_read f g e =
      many_says n (λ q. f (ap (of_z w32) q)) (ap (λ z. lt_z z (pos 0)) (sym (to_z-of_z s)) ∙ g) (ap (λ z. le_z z (pos 255)) (sym (to_z-of_z s)) ∙ e)

-- what the section's number says, which the code hands on by its bits
pub number_read : (x : Axles) (n : ℤ) (r : ℕ) → SFits w32 n → n ≡ number x → r ≡ reading_of (to_z w32 (of_z w32 n)) → r ≡ reading_of (number x)
number_read x n r s e q = q ∙ ap reading_of (to_z-of_z s ∙ e)
