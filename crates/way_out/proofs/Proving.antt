-- L1: the heads of a section through the seven events by which it comes to read free, whatever they were before and whatever their counts stand at.
use Prim.Native.Nat.{ℕ, ◌+◌, ◌-◌, ◌*◌, ◌%◌, ◌<◌, ◌≤◌}
use mathlib.Core.Path.{◌≡◌, refl, ap, ap₂, ◌∙◌}
use mathlib.Core.Bool.{true}
use native.Mathlib.Omega.{arith}
use lib.IntN.{pos, ◌-ℤ◌}
use Rattle.laws.specs.Choice.{when◌then◌else◌}
use Rattle.laws.specs.Tests.{◌and◌}
use Rattle.axles.specs.declared.Head.{Head}
use Rattle.axles.specs.declared.Axles.{Axles}
use Rattle.axles.specs.declared.Said.{Said}
use Rattle.axles.specs.Rounds.{around}
use Rattle.axles.specs.Heads.{speaks, speaking, head_after, net, number, reading_of, occupies, resets, sum_after, proof_after, told, with_proof, proves, judged, axles_after, known, axles_reading}
use Rattle.axles.specs.HeadLog.{said}
use Rattle.axles.specs.Since.{rolled}
use Rattle.axles.proofs.Rounds.{same_difference}
use Rattle.axles.proofs.Kept.{after_same, reset_head}
use Rattle.axles.proofs.Since.{number_small}
use Rattle.interlocking.specs.Own.{heads_by}
use Rattle.way_out.specs.Freeing.{FourCounts}

-- ---- what an event makes of each head

-- judging the number leaves each as the event itself makes it
after_heads : (x : Axles) (e : Said) → ((axles_after x e).head0 ≡ head_after x.head0 0 e) × ((axles_after x e).head1 ≡ head_after x.head1 1 e)
unfolding told
after_heads x e = let same = after_same x e in (same.head0, same.head1)

-- ---- the seven events

-- a head that has told both its counts, i in and o out
abbrev speaking_head : ℕ → ℕ → Head
speaking_head i o = record { inward = rolled i; outward = rolled o; hasin = 1; hasout = 1 }

module _ (c : FourCounts) where
  -- two such heads, which stand at c but for the axles in past head 0 and out past head 1
  abbrev stand : ℕ → ℕ → ℕ → ℕ → Axles
  stand i o sum proof = record { head0 = speaking_head i c.out0; head1 = speaking_head c.in1 o; sum = sum; proof = proof }

  -- the heads x once both counts of both have come
  abbrev told_by : Axles → Axles
  told_by x =
      axles_after (axles_after (axles_after (axles_after x (said 11 0 (rolled c.in0))) (said 12 0 (rolled c.out0))) (said 11 1 (rolled c.in1))) (said 12 1 (rolled c.out1))

  -- whatever they were, these are the heads then
  told_stand : (x : Axles) → told_by x ≡ stand c.in0 c.out1 (told_by x).sum (told_by x).proof
  unfolding head_after when◌then◌else◌
  told_stand x =
      let first : Said = said 11 0 (rolled c.in0) in
      let second : Said = said 12 0 (rolled c.out0) in
      let third : Said = said 11 1 (rolled c.in1) in
      let fourth : Said = said 12 1 (rolled c.out1) in
      let p = after_heads x first in
      let q = after_heads (axles_after x first) second in
      let r = after_heads (axles_after (axles_after x first) second) third in
      let s = after_heads (axles_after (axles_after (axles_after x first) second) third) fourth in
      ap₂ (λ (a b : Head). record { head0 = a; head1 = b; sum = (told_by x).sum; proof = (told_by x).proof })
      (s.0 ∙ ap (λ h. head_after h 0 fourth) (r.0 ∙ ap (λ h. head_after h 0 third) (q.0 ∙ ap (λ h. head_after h 0 second) p.0)))
      (s.1 ∙ ap (λ h. head_after h 1 fourth) (r.1 ∙ ap (λ h. head_after h 1 third) (q.1 ∙ ap (λ h. head_after h 1 second) p.1)))

  -- all in less all out at the reset
  abbrev at_reset : ℕ
  at_reset = around (pos (c.in0 + c.in1) -ℤ pos (c.out0 + c.out1))

  -- where since the reset n more axles have come in than gone out the number is n, whatever the counts stood at
  since_number : (i o n proof : ℕ) → c.in0 ≤ i → c.out1 ≤ o → i + c.out1 ≡ o + c.in0 + n → n < 32768 → number (stand i o at_reset proof) ≡ pos n
  unfolding rolled
  since_number i o n proof p q e h =
      number_small (stand i o at_reset proof) c.in0 c.in1 c.out0 c.out1 (i - c.in0) 0 0 (o - c.out1) n
      record { in0 = omega arith; in1 = omega arith; out0 = omega arith; out1 = omega arith; at_reset = refl } (omega arith) h

  -- the sum of what the counts tell is that of what they stand at, taken round
  told_sum : around (pos (rolled c.in0 + rolled c.in1) -ℤ pos (rolled c.out0 + rolled c.out1)) ≡ at_reset
  unfolding rolled
  told_sum =
      same_difference (c.in0 + c.in1) (c.out0 + c.out1) (c.in0 % 65536 + c.in1 % 65536) (c.out0 % 65536 + c.out1 % 65536) 0 (omega arith) (omega arith)

  -- a reset leaves the counts, not proved: the number is 0
  reset_stand : (sum proof n : ℕ) → axles_after (stand c.in0 c.out1 sum proof) (said 14 n 0) ≡ stand c.in0 c.out1 at_reset 1
  unfolding axles_after told sum_after proof_after resets speaking speaks net judged proves occupies reading_of ◌and◌ when◌then◌else◌
  reset_stand sum proof n =
      rw (
        reset_head (speaking_head c.in0 c.out0) 0 (said 14 n 0) refl,
        reset_head (speaking_head c.in1 c.out1) 1 (said 14 n 0) refl,
        told_sum,
        since_number c.in0 c.out1 0 1 (omega arith) (omega arith) (omega arith) (omega arith),
      )

  -- an axle in past head 0: the number is 1, which proves the reset
  axle_in : axles_after (stand c.in0 c.out1 at_reset 1) (said 11 0 (rolled (c.in0 + 1))) ≡ stand (c.in0 + 1) c.out1 at_reset 2
  unfolding axles_after told head_after sum_after proof_after resets speaking speaks judged with_proof proves occupies reading_of ◌and◌ when◌then◌else◌
  axle_in = rw (since_number (c.in0 + 1) c.out1 1 1 (omega arith) (omega arith) (omega arith) (omega arith))

  -- and out past head 1: the number is 0, and the section reads free
  axle_out : axles_reading (axles_after (stand (c.in0 + 1) c.out1 at_reset 2) (said 12 1 (rolled (c.out1 + 1)))) ≡ 1
  unfolding axles_after told head_after sum_after proof_after resets speaking speaks judged proves reading_of known axles_reading ◌and◌ when◌then◌else◌
  axle_out = rw (since_number (c.in0 + 1) (c.out1 + 1) 0 2 (omega arith) (omega arith) (omega arith) (omega arith))

-- ---- as the events of section g bring them

-- after both counts of both heads
abbrev pub spoken : ℕ → FourCounts → Axles → Axles
spoken g c x =
    heads_by (heads_by (heads_by (heads_by x 11 (2 * g) (rolled c.in0)) 12 (2 * g) (rolled c.out0)) 11 (2 * g + 1) (rolled c.in1)) 12 (2 * g + 1) (rolled c.out1)

-- then a reset, an axle in past one head and out past the other
abbrev pub passed_by : ℕ → FourCounts → Axles → Axles
passed_by g c x = heads_by (heads_by (heads_by (spoken g c x) 14 g 0) 11 (2 * g) (rolled (c.in0 + 1))) 12 (2 * g + 1) (rolled (c.out1 + 1))

-- a count that has rolled over fits
rolled_fits : (n : ℕ) → rolled n % 65536 ≡ rolled n
unfolding rolled
rolled_fits n = omega arith

module _ (g : ℕ) (c : FourCounts) (x : Axles) where
  -- twice the section names head 0, and one more head 1
  first_head : (2 * g) % 2 ≡ 0
  first_head = omega arith

  second_head : (2 * g + 1) % 2 ≡ 1
  second_head = omega arith

  -- the counts come as they are told
  spoken_stand : spoken g c x ≡ stand c c.in0 c.out1 (told_by c x).sum (told_by c x).proof
  unfolding heads_by
  spoken_stand =
      rw (first_head, second_head, rolled_fits c.in0, rolled_fits c.out0, rolled_fits c.in1, rolled_fits c.out1) (told_stand c x)

  -- both heads speak
  pub spoken_speak : speaking (spoken g c x) ≡ true
  unfolding speaking speaks ◌and◌
  spoken_speak = rw spoken_stand

  -- and in the end the section reads free
  pub passed_free : axles_reading (passed_by g c x) ≡ 1
  unfolding heads_by
  passed_free =
      rw (
        spoken_stand,
        reset_stand c (told_by c x).sum (told_by c x).proof (g % 2),
        first_head,
        second_head,
        rolled_fits (c.in0 + 1),
        rolled_fits (c.out1 + 1),
        axle_in c,
      )
      (axle_out c)
