-- L1: the two heads of a section, what an event makes of them, and what the section reads.
use Rattle.std.specs.Prelude.{ℕ, ◌+◌, Bool, List, [], ◌∷◌, ℤ, pos, negsuc, ◌-ℤ◌, ◌==◌, nat_eq, nat_le}
use Rattle.laws.specs.Choice.{when◌then◌else◌}
use Rattle.laws.specs.Tests.{◌and◌}
use Rattle.track.specs.Codes.{free, occupied, reads_none, axles_in, axles_out, head_silent, reset_axles}
use Rattle.axles.specs.Rounds.{around, signed}
use Rattle.axles.specs.declared.Head.{Head}
use Rattle.axles.specs.declared.Axles.{Axles}
use Rattle.axles.specs.declared.Said.{Said}

-- ---- whether a reset is proved: there was none yet; since the last one the number has not been in 1 to 255 with neither head silent; it has

abbrev pub no_reset : ℕ
no_reset = 0

abbrev pub unproved : ℕ
unproved = 1

abbrev pub proved : ℕ
proved = 2

-- ---- heads

-- L1: at the cold start, and once it is silent, a head has told nothing
unfoldable pub silent_head : Head
silent_head = record { inward = 0; outward = 0; hasin = 0; hasout = 0 }

-- a section's heads at the cold start: both are silent, and there was no reset
unfoldable pub cold_heads : Axles
cold_heads = record { head0 = silent_head; head1 = silent_head; sum = 0; proof = no_reset }

-- L1: a head is silent until both its counts have come since the cold start or its last silence
unfoldable pub speaks : Head → Bool
speaks h = nat_eq h.hasin 1 and nat_eq h.hasout 1

-- neither head is silent
unfoldable pub speaking : Axles → Bool
speaking x = speaks x.head0 and speaks x.head1

-- L1: what an event makes of a head of its section, head 0 or head 1: 11 and 12 carry its axles in and out, 13 says that it is silent, which forgets both
unfoldable pub head_after : Head → ℕ → Said → Head
head_after h which e =
    when nat_eq e.head which then
    (when nat_eq e.kind axles_in then record { inward = e.count; outward = h.outward; hasin = 1; hasout = h.hasout }
    else when e.kind == axles_out then record { inward = h.inward; outward = e.count; hasin = h.hasin; hasout = 1 }
    else when e.kind == head_silent then silent_head
    else h)
    else h

-- ---- the number

-- L1: all in less all out
unfoldable pub net : Axles → ℤ
net x = pos (x.head0.inward + x.head1.inward) -ℤ pos (x.head0.outward + x.head1.outward)

-- L1: less that sum at the last reset, taken round 65,536 as a signed number
unfoldable pub number : Axles → ℤ
number x = signed (around (net x -ℤ pos x.sum))

-- L1: 0 is free, 1 to 255 occupied, anything else none
unfoldable pub reading_of : ℤ → ℕ
reading_of (pos n) = when n == 0 then free else when nat_le n 255 then occupied else reads_none
reading_of (negsuc n) = reads_none

-- the number is in 1 to 255 with neither head silent
unfoldable pub occupies : Axles → Bool
occupies x = speaking x and nat_eq (reading_of (number x)) occupied

-- ---- what an event makes of the section's heads

-- L1: 14 resets, where neither head is silent; else it is refused
unfoldable pub resets : Axles → Said → Bool
resets x e = nat_eq e.kind reset_axles and speaking x

-- the sum at the last reset, after the event
unfoldable pub sum_after : Axles → Said → ℕ
sum_after x e = when resets x e then around (net x) else x.sum

-- whether that reset is proved, before the number is judged
unfoldable pub proof_after : Axles → Said → ℕ
proof_after x e = when resets x e then unproved else x.proof

-- the heads once an event is told and the number not yet judged: the counts, and at a reset their sum
unfoldable pub told : Axles → Said → Axles
told x e = record { head0 = head_after x.head0 0 e; head1 = head_after x.head1 1 e; sum = sum_after x e; proof = proof_after x e }

-- the heads with another proof
unfoldable pub with_proof : Axles → ℕ → Axles
with_proof x p = record { head0 = x.head0; head1 = x.head1; sum = x.sum; proof = p }

-- L1: a reset that is not proved yet is proved by a number in 1 to 255 with neither head silent
unfoldable pub proves : Axles → Bool
proves x = nat_eq x.proof unproved and occupies x

-- the heads once their number is judged
unfoldable pub judged : Axles → Axles
judged x = when proves x then with_proof x proved else x

-- the heads after an event: it is told, and then the number is judged
unfoldable pub axles_after : Axles → Said → Axles
axles_after x e = judged (told x e)

-- the heads after a list of events, newest first: from the cold start, event by event
unfoldable pub heads_after_log : List Said → Axles
heads_after_log [] = cold_heads
heads_after_log (e ∷ es) = axles_after (heads_after_log es) e

-- ---- what the section reads

-- neither head is silent and the last reset is proved
unfoldable pub known : Axles → Bool
known x = speaking x and nat_eq x.proof proved

-- L1: none while a head is silent, before the first reset, and after each reset until it is proved; else what the number says
unfoldable pub axles_reading : Axles → ℕ
axles_reading x = when known x then reading_of (number x) else reads_none
