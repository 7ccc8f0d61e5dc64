-- Taken round 65,536 as a signed number from -32,768 to 32,767: the definition is such a number, and there is no other.
use Rattle.std.proofs.Common.{◌≡◌, ℕ, suc, ◌+◌, ◌-◌, ◌*◌, ◌/◌, ◌%◌, ◌<◌, Bool, true, false, ltb, ℤ, pos, negsuc, ◌+ℤ◌, sym, refl, ap, ◌∙◌, arith, ltb-false, ltb-true, le-ltb}
use lib.IntN.{+ℤ_assoc}
use lib.Signed.{mag}
use Rattle.laws.specs.Choice.{when◌then◌else◌}
use Rattle.laws.proofs.Choice.{if_lt, if_ge}
use Rattle.axles.specs.Rounds.{around, signed, Rounded}
use Rattle.axles.proofs.Rounds.{around_below, around_add, minus_round}

-- one of 0 .. 65,535, signed, is in range: the lower half as it is, the upper half less a round
signed_ranges : (a : ℕ) → a < 65536 → (t : Bool) → ltb a 32768 ≡ t → mag (signed a) < 32768
unfolding signed when◌then◌else◌
signed_ranges a h true e = rw e (ltb-true a 32768 e)
signed_ranges a h false e = rw (e, minus_round a h) (let g = ltb-false a 32768 e in omega arith)

-- how many rounds were taken off, by whether it is in the lower half
halves : Bool → ℕ
halves true = 0
halves false = 1

-- with them back it is what it was
signed_back : (a : ℕ) → a < 65536 → (t : Bool) → ltb a 32768 ≡ t → signed a +ℤ pos (halves t * 65536) ≡ pos a
unfolding signed when◌then◌else◌ halves
signed_back a h true e = rw e (ap pos (omega arith))
signed_back a h false e =
    rw (e, minus_round a h, le-ltb 65536 (suc (65535 - a)) (omega arith)) (ap pos (let g = ltb-false a 32768 e in omega arith))

-- the rounds that lift z to 0 or above
up : ℤ → ℕ
up (pos n) = 0
up (negsuc n) = n / 65536 + 1

-- the rounds in z where it is that already
down : ℤ → ℕ
down (pos n) = n / 65536
down (negsuc n) = 0

-- so lifted, z is one of 0 .. 65,535 and rounds, by its sign
lifts : (z : ℤ) → z +ℤ pos (up z * 65536) ≡ pos (around z) +ℤ pos (down z * 65536)
unfolding around up down
lifts (pos n) = ap pos (omega arith)
lifts (negsuc n) = rw (le-ltb ((n / 65536 + 1) * 65536) (suc n) (omega arith)) (ap pos (omega arith))

-- the definition is such a number: in range, and the rounds of both steps added up
pub round_is : (z : ℤ) → Rounded z (signed (around z))
round_is z =
    let a = around z in
    let t = ltb a 32768 in
    record {
      ranges = signed_ranges a (around_below z) t refl;
      rounds = up z;
      back = halves t + down z;
      differ =
          lifts z ∙ ap (λ y. y +ℤ pos (down z * 65536)) (sym (signed_back a (around_below z) t refl))
          ∙ +ℤ_assoc (signed a) (pos (halves t * 65536)) (pos (down z * 65536))
          ∙ ap (λ k. signed a +ℤ pos k) (omega arith);
    }

-- rounds added change nothing round 65,536: each is a whole one
around_rounds : (z : ℤ) (k : ℕ) → around (z +ℤ pos (k * 65536)) ≡ around z
unfolding around
around_rounds z k = around_add z (pos (k * 65536)) ∙ (let g = around_below z in omega arith)

-- a number in range, taken round and signed, is itself: by its sign
signed_stays : (n : ℤ) → mag n < 32768 → signed (around n) ≡ n
unfolding signed around
signed_stays (pos k) h = sym (if_lt (k % 65536) 32768 _ _ (pos k) (omega arith) (ap pos (omega arith)))
signed_stays (negsuc k) h =
    sym (if_ge (65535 - k % 65536) 32768 _ _ (negsuc k) (omega arith) (sym (minus_round (65535 - k % 65536) (omega arith) ∙ ap negsuc (omega arith))))

-- and there is no other: one in range is its own rounding, and z and n have the same
pub round_only : (z n : ℤ) → Rounded z n → n ≡ signed (around z)
round_only z n r =
    sym (signed_stays n r.ranges)
    ∙ ap signed (sym (around_rounds n r.back) ∙ ap around (sym r.differ) ∙ around_rounds z r.rounds)
