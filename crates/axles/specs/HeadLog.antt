-- L1: what a section with heads reads, told from what was said of its heads alone. No stored count, sum or code is asked.
use Rattle.std.specs.Prelude.{ℕ, suc, ◌+◌, Bool, true, false, List, [], ◌∷◌, ℤ, pos, ◌-ℤ◌, nat_eq, nat_le}
use Rattle.laws.specs.Choice.{when◌then◌else◌}
use Rattle.laws.specs.Tests.{◌and◌, ◌or◌, every}
use Rattle.track.specs.Codes.{occupied, reads_none, axles_in, axles_out, head_silent, reset_axles}
use Rattle.axles.specs.Rounds.{around, signed}
use Rattle.axles.specs.Heads.{reading_of}
use Rattle.axles.specs.declared.Said.{Said}

-- what was said of the heads of a section, newest first: e ∷ es is the log es and then e, [] the cold start
abbrev pub HeadLog : Type 0
HeadLog = List Said

-- an event by its numbers: kind, head, count
abbrev pub said : ℕ → ℕ → ℕ → Said
said k h n = record { kind = k; head = h; count = n }

-- ---- heads

-- e is of kind k and of head h
unfoldable pub says : Said → ℕ → ℕ → Bool
says e k h = nat_eq e.kind k and nat_eq e.head h

-- L1: whether head h has told its count of kind k, in or out, since the cold start or its last silence
unfoldable pub has_told : ℕ → ℕ → HeadLog → Bool
has_told k h [] = false
has_told k h (e ∷ es) = when says e k h then true else when says e head_silent h then false else has_told k h es

-- the latest such count, 0 where there is none
unfoldable pub last_told : ℕ → ℕ → HeadLog → ℕ
last_told k h [] = 0
last_told k h (e ∷ es) = when says e k h then e.count else when says e head_silent h then 0 else last_told k h es

-- neither head is silent: each has told both its counts
unfoldable pub both_speak : HeadLog → Bool
both_speak es = has_told axles_in 0 es and has_told axles_out 0 es and (has_told axles_in 1 es and has_told axles_out 1 es)

-- ---- the number

-- L1: all in less all out
unfoldable pub net_told : HeadLog → ℤ
net_told es = pos (last_told axles_in 0 es + last_told axles_in 1 es) -ℤ pos (last_told axles_out 0 es + last_told axles_out 1 es)

-- L1: e, said after es, is a reset; one while a head is silent is refused (35)
unfoldable pub is_reset : Said → HeadLog → Bool
is_reset e es = nat_eq e.kind reset_axles and both_speak es

-- how many resets there were
unfoldable pub resets_in : HeadLog → ℕ
resets_in [] = 0
resets_in (e ∷ es) = when is_reset e es then suc (resets_in es) else resets_in es

-- all in less all out at the last of them
unfoldable pub net_at_reset : HeadLog → ℤ
net_at_reset [] = pos 0
net_at_reset (e ∷ es) = when is_reset e es then net_told es else net_at_reset es

-- L1: all in less all out, less that sum at the last reset, taken round 65,536 as a signed number
unfoldable pub number_told : HeadLog → ℤ
number_told es = signed (around (net_told es -ℤ net_at_reset es))

-- ---- what the section reads

-- the number is in 1 to 255 with neither head silent
unfoldable pub occupies_told : HeadLog → Bool
occupies_told es = both_speak es and nat_eq (reading_of (number_told es)) occupied

-- there was a reset
unfoldable pub was_reset : HeadLog → Bool
was_reset es = nat_le 1 (resets_in es)

-- after one of the events since the last reset the number was in 1 to 255 with neither head silent
unfoldable pub proved_told : HeadLog → Bool
proved_told [] = false
proved_told (e ∷ es) = when is_reset e es then false else (occupies_told (e ∷ es) or proved_told es)

-- L1: none while a head is silent, before the first reset, and after each reset until its number has since been in 1 to 255 with neither head silent;
-- else what the number says
unfoldable pub reading_told : HeadLog → ℕ
reading_told es = when every (both_speak es ∷ was_reset es ∷ proved_told es ∷ []) then reading_of (number_told es) else reads_none
