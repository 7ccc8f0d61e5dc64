-- The number depends on nothing but what was counted since the reset, however often a count has rolled over.
use Rattle.std.proofs.Common.{◌≡◌, ℕ, ◌+◌, ◌*◌, ◌%◌, ◌<◌, Bool, true, false, eqb, pos, ◌-ℤ◌, sym, refl, ap, ◌∙◌, ap₂, arith, eqb-true}
use Rattle.laws.specs.Choice.{when◌then◌else◌}
use Rattle.laws.specs.Tests.{◌and◌}
use Rattle.laws.proofs.Choice.{if_lt, chosen}
use Rattle.track.specs.Codes.{free}
use Rattle.axles.specs.Rounds.{around, signed}
use Rattle.axles.specs.Heads.{head_after, speaks, speaking, net, number, reading_of, resets, sum_after, told, axles_after, known, axles_reading}
use Rattle.axles.specs.Since.{Counted, rolled, more, passed, head_of, Repeats, again_in, again_out}
use Rattle.axles.specs.declared.Head.{Head}
use Rattle.axles.specs.declared.Axles.{Axles}
use Rattle.axles.specs.declared.Said.{Said}
use Rattle.axles.proofs.Rounds.{around_sub, same_difference, less_less, around_small}
use Rattle.axles.proofs.Kept.{after_same}

-- ---- axles in and out since the reset

-- L1: the number is axles in less axles out since the reset, round 65,536: what stood at the reset falls out of the difference, and so do whole rounds
pub number_since : (x : Axles) (a0 a1 b0 b1 i0 i1 o0 o1 : ℕ) → Counted x a0 a1 b0 b1 i0 i1 o0 o1
    → number x ≡ signed (around (pos (i0 + i1) -ℤ pos (o0 + o1)))
unfolding number net rolled
number_since x a0 a1 b0 b1 i0 i1 o0 o1 c =
    ap signed
    (ap (λ m. around (net x -ℤ pos m)) c.at_reset
    ∙ less_less (x.head0.inward + x.head1.inward) (x.head0.outward + x.head1.outward) (a0 + a1) (b0 + b1)
    ∙ same_difference (i0 + i1) (o0 + o1) (x.head0.inward + x.head1.inward + (b0 + b1)) (x.head0.outward + x.head1.outward + (a0 + a1)) (a0 + a1 + (b0 + b1)) (omega arith) (omega arith))

-- where n more are in than out since the reset, and no more than 32,767, the number is n: it stands for itself round 65,536
pub number_small : (x : Axles) (a0 a1 b0 b1 i0 i1 o0 o1 n : ℕ) → Counted x a0 a1 b0 b1 i0 i1 o0 o1 → i0 + i1 ≡ o0 + o1 + n → n < 32768 → number x ≡ pos n
unfolding signed
number_small x a0 a1 b0 b1 i0 i1 o0 o1 n c e h =
    number_since x a0 a1 b0 b1 i0 i1 o0 o1 c
    ∙ ap signed (same_difference n 0 (i0 + i1) (o0 + o1) (o0 + o1) (omega arith) (omega arith) ∙ around_small n (omega arith))
    ∙ sym (if_lt n 32768 _ _ (pos n) h refl)

-- where as many are out as in since the reset, however many, a section with both heads speaking and its reset proved reads free: its number is 0
pub even_reads_free : (x : Axles) (a0 a1 b0 b1 i0 i1 o0 o1 : ℕ) → Counted x a0 a1 b0 b1 i0 i1 o0 o1 → i0 + i1 ≡ o0 + o1 → known x ≡ true → axles_reading x ≡ free
unfolding axles_reading reading_of when◌then◌else◌
even_reads_free x a0 a1 b0 b1 i0 i1 o0 o1 c e k = rw (k, number_small x a0 a1 b0 b1 i0 i1 o0 o1 0 c (omega arith) (omega arith))

-- L1: 65,536 axles in by one head and out by the other since the reset read free again
pub round_reads_free : (x : Axles) (a0 a1 b0 b1 : ℕ) → Counted x a0 a1 b0 b1 65536 0 0 65536 → known x ≡ true → axles_reading x ≡ free
round_reads_free x a0 a1 b0 b1 c k = even_reads_free x a0 a1 b0 b1 65536 0 0 65536 c refl k

-- ---- axles that come in and go out

-- one of two counts goes on
in_by : (n a b : ℕ) (t : Bool) → ((when t then more n a else a) + (when t then b else more n b)) % 65536 ≡ (a + b + n) % 65536
unfolding when◌then◌else◌ more rolled
in_by n a b true = omega arith
in_by n a b false = omega arith

-- axles that come in and go out, past whichever heads and however many, leave the number as it was, also where a count rolls over: both sums have grown
-- by n round 65,536
pub passing_leaves : (n i j : ℕ) (x : Axles) → number (passed n i j x) ≡ number x
unfolding number net passed
passing_leaves n i j x =
    ap signed
    (around_sub _ (pos x.sum)
    ∙ ap (λ m. (m + 65535 * around (pos x.sum)) % 65536)
    (same_difference (x.head0.inward + x.head1.inward) (x.head0.outward + x.head1.outward) _ _ n
    (in_by n x.head0.inward x.head1.inward (eqb i 0)) (in_by n x.head0.outward x.head1.outward (eqb j 0)))
    ∙ sym (around_sub _ (pos x.sum)))

-- they silence no head and take no proof away
passing_known : (n i j : ℕ) (x : Axles) → known (passed n i j x) ≡ known x
unfolding known speaking speaks passed
passing_known n i j x = refl

-- so the section reads what it read
pub passing_reads : (n i j : ℕ) (x : Axles) → axles_reading (passed n i j x) ≡ axles_reading x
unfolding axles_reading
passing_reads n i j x = rw (passing_known n i j x, passing_leaves n i j x)

-- ---- a count told again

-- the event's head is head 0 where it says so
own0 : (x : Axles) (g : ℕ) → eqb g 0 ≡ true → head_of x g ≡ x.head0
unfolding head_of
own0 x g e = chosen _ x.head0 _ e

-- and head 1
own1 : (x : Axles) (g : ℕ) → eqb g 1 ≡ true → head_of x g ≡ x.head1
unfolding head_of when◌then◌else◌
own1 x g e = rw (eqb-true g 1 e)

-- a head keeps its counts where its axles in are told again, and where another head is told of
in_again : (h : Head) (k : ℕ) (e : Said) (t : Bool) → e.kind ≡ 11 → eqb e.head k ≡ t → (t ≡ true → e.count ≡ h.inward)
    → ((head_after h k e).inward ≡ h.inward) × ((head_after h k e).outward ≡ h.outward)
unfolding head_after when◌then◌else◌
in_again h k e true p q r = rw (q, p) (r refl, refl)
in_again h k e false p q r = rw q (refl, refl)

-- and where its axles out are
out_again : (h : Head) (k : ℕ) (e : Said) (t : Bool) → e.kind ≡ 12 → eqb e.head k ≡ t → (t ≡ true → e.count ≡ h.outward)
    → ((head_after h k e).inward ≡ h.inward) × ((head_after h k e).outward ≡ h.outward)
unfolding head_after when◌then◌else◌
out_again h k e true p q r = rw (q, p) (refl, r refl)
out_again h k e false p q r = rw q (refl, refl)

-- the counts of both heads stay, and so does all in less all out
net_again : (x : Axles) (e : Said) → Repeats x e → net (told x e) ≡ net x
unfolding net told
net_again x e (again_in p q) =
    let a = in_again x.head0 0 e (eqb e.head 0) p refl (λ t. q ∙ ap (λ h. h.inward) (own0 x e.head t)) in
    let b = in_again x.head1 1 e (eqb e.head 1) p refl (λ t. q ∙ ap (λ h. h.inward) (own1 x e.head t)) in
    rw (a.0, a.1, b.0, b.1)
net_again x e (again_out p q) =
    let a = out_again x.head0 0 e (eqb e.head 0) p refl (λ t. q ∙ ap (λ h. h.outward) (own0 x e.head t)) in
    let b = out_again x.head1 1 e (eqb e.head 1) p refl (λ t. q ∙ ap (λ h. h.outward) (own1 x e.head t)) in
    rw (a.0, a.1, b.0, b.1)

-- a count is no reset: the sum at the last one stays
sum_again : (x : Axles) (e : Said) → Repeats x e → (told x e).sum ≡ x.sum
unfolding told sum_after resets ◌and◌ when◌then◌else◌
sum_again x e (again_in p q) = rw p
sum_again x e (again_out p q) = rw p

-- L1: a section whose counts do not change keeps its number: a count that is held of its head already leaves it
pub again_leaves : (x : Axles) (e : Said) → Repeats x e → number (axles_after x e) ≡ number x
unfolding number net
again_leaves x e r =
    let same = after_same x e in
    rw (same.head0, same.head1, same.sum) (ap₂ (λ z n. signed (around (z -ℤ pos n))) (net_again x e r) (sum_again x e r))
