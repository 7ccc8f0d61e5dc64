-- Sums and differences taken round 65,536.
use Rattle.std.proofs.Common.{◌≡◌, ℕ, zero, suc, ◌+◌, ◌-◌, ◌*◌, ◌/◌, ◌%◌, ◌<◌, Bool, true, false, ltb, ℤ, pos, negsuc, ◌+ℤ◌, ◌-ℤ◌, neg_ℤ, sym, refl, ap, ◌∙◌, mod-eq_of_lt, arith, ltb-false, ltb-true, lt-ltb}
use native.Mathlib.Nat.{add-mod, add-mod-mod, suc-mod, add-mul-mod_self_right}
use lib.IntN.{sub_ℕ, +ℤ_invr}
use Rattle.axles.specs.Rounds.{around}

-- what is taken round lies below 65,536: a rest does, and so does 65,535 less one
pub around_below : (z : ℤ) → around z < 65536
unfolding around
around_below (pos n) = omega arith
around_below (negsuc n) = omega arith

-- a difference of two numbers, by which is the larger: minus b is 65,535 times b round 65,536
sub_cases : (a b : ℕ) (t : Bool) → ltb a b ≡ t → around (sub_ℕ a b) ≡ (a + 65535 * b) % 65536
unfolding around
sub_cases a b true e = rw e (omega (arith, ltb-true a b e))
sub_cases a b false e = rw e (omega (arith, ltb-false a b e))

-- whichever is the larger
around_less : (a b : ℕ) → around (sub_ℕ a b) ≡ (a + 65535 * b) % 65536
around_less a b = sub_cases a b (ltb a b) refl

-- what is left of x once some times 65,536 are taken away
left_over : (x q r : ℕ) → x ≡ q * 65536 + r → r < 65536 → r ≡ x % 65536
left_over x q r e h = omega arith

-- minus n, less one, is 65,535 times one more than n
around_minus : (n : ℕ) → 65535 - n % 65536 ≡ (65535 * suc n) % 65536
around_minus n = left_over (65535 * suc n) (n - n / 65536) (65535 - n % 65536) (omega arith) (omega arith)

-- a number may be taken round before it is multiplied: whole rounds stay whole
around_times : (n : ℕ) → (65535 * n) % 65536 ≡ (65535 * (n % 65536)) % 65536
around_times n =
    let e : 65535 * n ≡ 65535 * (n % 65536) + (65535 * (n / 65536)) * 65536 = omega arith in
    ap (λ k. k % 65536) e ∙ add-mul-mod_self_right (65535 * (n % 65536)) (65535 * (n / 65536)) 65536

-- a number and minus another, less one: each may be taken round first
add_minus : (a b : ℕ) → (a + 65535 * suc b) % 65536 ≡ (a % 65536 + (65535 - b % 65536)) % 65536
add_minus a b = add-mod a (65535 * suc b) 65536 ∙ ap (λ m. (a % 65536 + m) % 65536) (sym (around_minus b))

-- a sum, by the signs of its two: each may be taken round first
pub around_add : (z w : ℤ) → around (z +ℤ w) ≡ (around z + around w) % 65536
unfolding around
around_add (pos a) (pos b) = add-mod a b 65536
around_add (pos a) (negsuc b) = around_less a (suc b) ∙ add_minus a b
around_add (negsuc a) (pos b) = around_less b (suc a) ∙ add_minus b a ∙ omega arith
around_add (negsuc a) (negsuc b) = omega arith

-- below 65,536: one more than k, and minus of what k lacks to 65,535
minus_low : (k : ℕ) → k < 65536 → suc k % 65536 ≡ (65535 * (65535 - k)) % 65536
minus_low k h = omega arith

-- the negative is 65,535 times the number, by its sign
around_neg : (w : ℤ) → around (neg_ℤ w) ≡ (65535 * around w) % 65536
unfolding around
around_neg (pos zero) = refl
around_neg (pos (suc n)) = around_minus n ∙ around_times (suc n)
around_neg (negsuc n) = suc-mod n 65536 ∙ minus_low (n % 65536) (omega arith)

-- a difference is a sum with the negative
pub around_sub : (z w : ℤ) → around (z -ℤ w) ≡ (around z + 65535 * around w) % 65536
around_sub z w = around_add z (neg_ℤ w) ∙ ap (λ m. (around z + m) % 65536) (around_neg w) ∙ add-mod-mod (around z) (65535 * around w) 65536

-- a number below 65,536 that is s with b added to it is s less b: what is left over of s and 65,535 times b
taken_off : (n b s : ℕ) → n < 65536 → (n + b) % 65536 ≡ s → n ≡ (s + 65535 * (b % 65536)) % 65536
taken_off n b s h e =
    left_over (s + 65535 * (b % 65536)) (b % 65536 + b / 65536 - (n + b) / 65536) n (omega arith) h

-- taken off what stands for z round 65,536, b leaves what stands for z less b
pub taken_off_around : (z : ℤ) (n b s : ℕ) → n < 65536 → (n + b) % 65536 ≡ s → s ≡ around z → n ≡ around (z -ℤ pos b)
unfolding around
taken_off_around z n b s h e q = taken_off n b s h e ∙ ap (λ m. (m + 65535 * (b % 65536)) % 65536) q ∙ sym (around_sub z (pos b))

-- taken round twice it is the same: it lies below 65,536 already
around_twice : (z : ℤ) → around (pos (around z)) ≡ around z
unfolding around
around_twice z = mod-eq_of_lt (around_below z)

-- what is taken off may be taken round first
pub around_back : (z w : ℤ) → around (z -ℤ pos (around w)) ≡ around (z -ℤ w)
around_back z w = around_sub z (pos (around w)) ∙ ap (λ m. (around z + 65535 * m) % 65536) (around_twice w) ∙ sym (around_sub z w)

-- a number less itself is 0
pub around_self : (z : ℤ) → around (z -ℤ z) ≡ 0
unfolding around
around_self z = ap around (+ℤ_invr z)

-- a difference of two numbers, by what they are round 65,536
around_parts : (a b : ℕ) → around (pos a -ℤ pos b) ≡ (a % 65536 + 65535 * (b % 65536)) % 65536
unfolding around
around_parts a b = around_sub (pos a) (pos b)

-- which may be left out: the sum and its second part are taken round anyway
parts_whole : (a b : ℕ) → (a % 65536 + 65535 * (b % 65536)) % 65536 ≡ (a + 65535 * b) % 65536
parts_whole a b =
    sym (add-mod-mod (a % 65536) (65535 * (b % 65536)) 65536) ∙ ap (λ m. (a % 65536 + m) % 65536) (sym (around_times b))
    ∙ sym (add-mod a (65535 * b) 65536)

-- so the difference goes by the numbers as they are
pub around_whole : (a b : ℕ) → around (pos a -ℤ pos b) ≡ (a + 65535 * b) % 65536
around_whole a b = around_parts a b ∙ parts_whole a b

-- what two numbers are round 65,536, whatever is added to both, is all that their difference asks: n is added once and 65,535 times, a whole round
pub same_difference : (a b c d n : ℕ) → c % 65536 ≡ (a + n) % 65536 → d % 65536 ≡ (b + n) % 65536 → around (pos c -ℤ pos d) ≡ around (pos a -ℤ pos b)
same_difference a b c d n p q =
    let e : a + n + 65535 * (b + n) ≡ a + 65535 * b + n * 65536 = omega arith in
    around_parts c d ∙ ap (λ m. (m + 65535 * (d % 65536)) % 65536) p ∙ ap (λ m. ((a + n) % 65536 + 65535 * m) % 65536) q
    ∙ sym (around_parts (a + n) (b + n)) ∙ around_whole (a + n) (b + n) ∙ ap (λ m. m % 65536) e
    ∙ add-mul-mod_self_right (a + 65535 * b) n 65536 ∙ sym (around_whole a b)

-- a difference less a difference that was taken round: what is taken off on one side is added on the other
pub less_less : (a b c d : ℕ) → around ((pos a -ℤ pos b) -ℤ pos (around (pos c -ℤ pos d))) ≡ around (pos (a + d) -ℤ pos (b + c))
less_less a b c d =
    let e : a + 65535 * b + 65535 * (c + 65535 * d) ≡ a + d + 65535 * (b + c) + (65534 * d) * 65536 = omega arith in
    around_back (pos a -ℤ pos b) (pos c -ℤ pos d) ∙ around_sub (pos a -ℤ pos b) (pos c -ℤ pos d)
    ∙ ap (λ m. (m + 65535 * around (pos c -ℤ pos d)) % 65536) (around_whole a b)
    ∙ ap (λ m. ((a + 65535 * b) % 65536 + 65535 * m) % 65536) (around_whole c d)
    ∙ parts_whole (a + 65535 * b) (c + 65535 * d)
    ∙ ap (λ m. m % 65536) e ∙ add-mul-mod_self_right (a + d + 65535 * (b + c)) (65534 * d) 65536
    ∙ sym (around_whole (a + d) (b + c))

-- what lies below 65,536 stands for itself
pub around_small : (n : ℕ) → n < 65536 → around (pos n -ℤ pos 0) ≡ n
unfolding around
around_small n h = omega arith

-- one of 0 .. 65,535, less a round
pub minus_round : (n : ℕ) → n < 65536 → pos n -ℤ pos 65536 ≡ negsuc (65535 - n)
minus_round n h = rw (lt-ltb n 65536 h) (ap negsuc (omega arith))
