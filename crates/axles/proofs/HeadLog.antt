-- The heads after a log, event by event from the cold start, read what the log tells.
use Rattle.std.proofs.Common.{◌≡◌, ℕ, suc, Bool, true, false, eqb, leb, [], ◌∷◌, ℤ, pos, ◌-ℤ◌, sym, refl, ap, ◌∙◌, arith, ne_eqb, eqb-true, le-leb}
use native.Mathlib.Decide.{ℕ_discrete}
use Rattle.laws.specs.Choice.{when◌then◌else◌}
use Rattle.laws.specs.Tests.{◌and◌, ◌or◌, every}
use Rattle.laws.specs.Totals.{bit}
use Rattle.laws.proofs.Choice.{if_under}
use Rattle.laws.proofs.Tests.{and_left, and_right, second_fails, not_both}
use Rattle.laws.proofs.Totals.{bit_one}
use Rattle.track.specs.Codes.{axles_in, axles_out}
use Rattle.axles.specs.Rounds.{around, signed}
use Rattle.axles.specs.Heads.{no_reset, unproved, proved, silent_head, cold_heads, head_after, speaks, speaking, net, number, reading_of, occupies, resets, sum_after, proof_after, told, with_proof, proves, judged, axles_after, known, axles_reading, heads_after_log}
use Rattle.axles.specs.HeadLog.{HeadLog, said, says, has_told, last_told, both_speak, net_told, is_reset, resets_in, net_at_reset, number_told, occupies_told, was_reset, proved_told, reading_told}
use Rattle.axles.specs.declared.Head.{Head}
use Rattle.axles.specs.declared.Axles.{Axles}
use Rattle.axles.specs.declared.Said.{Said}
use Rattle.axles.proofs.Rounds.{around_back}
use Rattle.axles.proofs.GivesNone.{reset_number}

-- ---- what a log says of the record

-- head h
unfoldable head_told : ℕ → HeadLog → Head
head_told h es = record {
  inward = last_told axles_in h es;
  outward = last_told axles_out h es;
  hasin = bit (has_told axles_in h es);
  hasout = bit (has_told axles_out h es);
}

-- whether there was a reset and it is proved
unfoldable proof_told : Bool → Bool → ℕ
proof_told r p = when r then (when p then proved else unproved) else no_reset

-- a record with a log's heads, whatever its sum and its proof
abbrev heads : HeadLog → ℕ → ℕ → Axles
heads es s p = record { head0 = head_told 0 es; head1 = head_told 1 es; sum = s; proof = p }

-- the whole record
unfoldable axles_told : HeadLog → Axles
axles_told es = heads es (around (net_at_reset es)) (proof_told (was_reset es) (proved_told es))

-- ---- one event: the heads

-- the kinds that a head knows, and every other
data Kind : ℕ → Type 0 where
  count_in : Kind 11
  count_out : Kind 12
  silence : Kind 13
  other : {k : ℕ} → (k ≡ 11 → ⊥) → (k ≡ 12 → ⊥) → (k ≡ 13 → ⊥) → Kind k

-- which of them a kind is, by three tests
kind_by : (k : ℕ) → Dec (k ≡ 11) → Dec (k ≡ 12) → Dec (k ≡ 13) → Kind k
kind_by k (yes e) p q = rw e count_in
kind_by k (no f) (yes e) q = rw e count_out
kind_by k (no f) (no g) (yes e) = rw e silence
kind_by k (no f) (no g) (no h) = other f g h

-- each test can be made
kind_of : (k : ℕ) → Kind k
kind_of k = kind_by k (ℕ_discrete k 11) (ℕ_discrete k 12) (ℕ_discrete k 13)

-- what an event makes of a head, by its kind and by whether it is the head's own
head_by : {k : ℕ} → Kind k → (g n h : ℕ) (es : HeadLog) (t : Bool) → eqb g h ≡ t → head_after (head_told h es) h (said k g n) ≡ head_told h (said k g n ∷ es)
unfolding head_after head_told last_told has_told says bit silent_head when◌then◌else◌ ◌and◌
head_by count_in g n h es true e = rw e
head_by count_in g n h es false e = rw e
head_by count_out g n h es true e = rw e
head_by count_out g n h es false e = rw e
head_by silence g n h es true e = rw e
head_by silence g n h es false e = rw e
head_by {k} (other p q r) g n h es true e = rw (e, ne_eqb k 11 p, ne_eqb k 12 q, ne_eqb k 13 r)
head_by {k} (other p q r) g n h es false e = rw (ne_eqb k 11 p, ne_eqb k 12 q, ne_eqb k 13 r, e)

-- an event is its three numbers
head_step : (e : Said) (h : ℕ) (es : HeadLog) → head_after (head_told h es) h e ≡ head_told h (e ∷ es)
head_step e h es = head_by (kind_of e.kind) e.head e.count h es (eqb e.head h) refl

-- ---- one event: silence, sums, resets

-- a head speaks where the log has both its counts: each bit is a test of the log
speaks_told : (h : ℕ) (es : HeadLog) → speaks (head_told h es) ≡ has_told axles_in h es and has_told axles_out h es
unfolding speaks head_told
speaks_told h es = rw (bit_one (has_told axles_in h es), bit_one (has_told axles_out h es))

-- and so both heads
speaking_told : (es : HeadLog) (s p : ℕ) → speaking (heads es s p) ≡ both_speak es
unfolding speaking both_speak
speaking_told es s p = rw (speaks_told 0 es, speaks_told 1 es)

-- all in less all out: the counts are the log's
net_told_law : (es : HeadLog) (s p : ℕ) → net (heads es s p) ≡ net_told es
unfolding net net_told head_told
net_told_law es s p = refl

-- the sum at the reset may be stored round 65,536: the number is the same
number_told_law : (es : HeadLog) (z : ℤ) (p : ℕ) → number (heads es (around z) p) ≡ signed (around (net_told es -ℤ z))
unfolding number
number_told_law es z p = ap signed (ap (λ y. around (y -ℤ pos (around z))) (net_told_law es (around z) p) ∙ around_back (net_told es) z)

-- so whether the number is in 1 to 255 with neither head silent
occupies_told_law : (es : HeadLog) (p : ℕ) → occupies (heads es (around (net_at_reset es)) p) ≡ occupies_told es
unfolding occupies occupies_told number_told
occupies_told_law es p = rw (speaking_told es (around (net_at_reset es)) p, number_told_law es (net_at_reset es) p)

-- an event resets the record where it is a reset of the log
resets_told : (e : Said) (es : HeadLog) (s p : ℕ) → resets (heads es s p) e ≡ is_reset e es
unfolding resets is_reset
resets_told e es s p = rw (speaking_told es s p)

-- ---- one event: the record

-- the stored sum is that of the log, round 65,536
sum_step : (e : Said) (es : HeadLog) (p : ℕ) → sum_after (heads es (around (net_at_reset es)) p) e ≡ around (net_at_reset (e ∷ es))
unfolding sum_after net_at_reset
sum_step e es p =
    rw (resets_told e es (around (net_at_reset es)) p, net_told_law es (around (net_at_reset es)) p) (if_under around (is_reset e es) (net_told es) (net_at_reset es))

-- a reset of the log takes the proof away
proof_step : (e : Said) (es : HeadLog) (s p : ℕ) → proof_after (heads es s p) e ≡ when is_reset e es then unproved else p
unfolding proof_after
proof_step e es s p = rw (resets_told e es s p)

-- the whole record before the number is judged: each field by its own step
told_step : (e : Said) (es : HeadLog) (p : ℕ)
    → told (heads es (around (net_at_reset es)) p) e ≡ heads (e ∷ es) (around (net_at_reset (e ∷ es))) (when is_reset e es then unproved else p)
unfolding told
told_step e es p = rw (head_step e 0 es, head_step e 1 es, sum_step e es p, proof_step e es (around (net_at_reset es)) p)

-- ---- one event: the number is judged

-- a reset's own number is 0, since that of the record is
number_at_reset : (e : Said) (es : HeadLog) → is_reset e es ≡ true → number_told (e ∷ es) ≡ pos 0
unfolding number_told is_reset
number_at_reset e es r =
    sym (ap number (told_step e es no_reset) ∙ number_told_law (e ∷ es) (net_at_reset (e ∷ es)) _)
    ∙ reset_number (heads es (around (net_at_reset es)) no_reset) e (eqb-true e.kind 14 (and_left _ _ r)) (speaking_told es _ _ ∙ and_right _ _ r)

-- so it is not in 1 to 255
reset_not_occupies : (e : Said) (es : HeadLog) → is_reset e es ≡ true → occupies_told (e ∷ es) ≡ false
unfolding occupies_told reading_of when◌then◌else◌
reset_not_occupies e es r = rw (number_at_reset e es r) (second_fails (both_speak (e ∷ es)) false refl)

-- the proof, by whether the event is a reset, there was one, it was proved, and the number now is in 1 to 255 with neither head silent
proof_by : (r w v o : Bool) → (r ≡ true → o ≡ false) →
    (when eqb (when r then 1 else proof_told w v) 1 and o then 2 else (when r then 1 else proof_told w v)) ≡ proof_told (r or w) (when r then false else (o or v))
unfolding proof_told when◌then◌else◌ ◌and◌ ◌or◌
proof_by true w v true h = not_both refl (h refl)
proof_by true w v false h = refl
proof_by false false v o h = refl
proof_by false true true true h = refl
proof_by false true true false h = refl
proof_by false true false true h = refl
proof_by false true false false h = refl

-- judging a record with a log's heads goes by the log's number
judged_told : (es : HeadLog) (p : ℕ)
    → judged (heads es (around (net_at_reset es)) p) ≡ heads es (around (net_at_reset es)) (when eqb p unproved and occupies_told es then proved else p)
unfolding judged proves with_proof
judged_told es p = rw (occupies_told_law es p) (if_under (heads es (around (net_at_reset es))) (eqb p unproved and occupies_told es) proved p)

-- there was a reset where the event is one or there was one before it
pub reset_was : (e : Said) (es : HeadLog) → was_reset (e ∷ es) ≡ is_reset e es or was_reset es
unfolding was_reset resets_in when◌then◌else◌ ◌or◌
reset_was e es = by_test (is_reset e es) (resets_in es)
  where
    by_test : (t : Bool) (n : ℕ) → leb 1 (when t then suc n else n) ≡ t or leb 1 n
    by_test true n = le-leb 1 (suc n) (omega arith)
    by_test false n = refl

-- the whole record after one event more: told, then judged
after_step : (e : Said) (es : HeadLog) → axles_after (axles_told es) e ≡ axles_told (e ∷ es)
unfolding axles_after axles_told proved_told
after_step e es =
    ap judged (told_step e es (proof_told (was_reset es) (proved_told es)))
    ∙ judged_told (e ∷ es) (when is_reset e es then unproved else proof_told (was_reset es) (proved_told es))
    ∙ ap (heads (e ∷ es) (around (net_at_reset (e ∷ es)))) (proof_by (is_reset e es) (was_reset es) (proved_told es) (occupies_told (e ∷ es)) (reset_not_occupies e es)
    ∙ ap (λ w. proof_told w (proved_told (e ∷ es))) (sym (reset_was e es)))

-- ---- a whole log

-- at the cold start nothing was said
cold_told : cold_heads ≡ axles_told []
unfolding cold_heads silent_head axles_told head_told last_told has_told bit net_at_reset was_reset resets_in proof_told around when◌then◌else◌
cold_told = refl

-- the heads after a log are what the log says: event by event
log_heads : (es : HeadLog) → heads_after_log es ≡ axles_told es
unfolding heads_after_log
log_heads [] = cold_told
log_heads (e ∷ es) = ap (λ x. axles_after x e) (log_heads es) ∙ after_step e es

-- the three tests of a reading, by their values
known_by : (b r p : Bool) → b and eqb (proof_told r p) proved ≡ every (b ∷ r ∷ p ∷ [])
unfolding ◌and◌ proof_told every when◌then◌else◌
known_by false r p = refl
known_by true false p = refl
known_by true true false = refl
known_by true true true = refl

-- what such a record reads: by these tests and its number
reads_told : (es : HeadLog) → axles_reading (axles_told es) ≡ reading_told es
unfolding axles_reading known axles_told reading_told number_told
reads_told es =
    rw (
      speaking_told es (around (net_at_reset es)) (proof_told (was_reset es) (proved_told es)),
      number_told_law es (net_at_reset es) (proof_told (was_reset es) (proved_told es)),
      known_by (both_speak es) (was_reset es) (proved_told es),
    )

-- the reading is told by the log: the box's own heads, event by event from the cold start, read what the list of events alone says
pub log_reads : (es : HeadLog) → axles_reading (heads_after_log es) ≡ reading_told es
log_reads es = ap axles_reading (log_heads es) ∙ reads_told es

-- and so is their silence, which 35 asks
pub log_speaks : (es : HeadLog) → speaking (heads_after_log es) ≡ both_speak es
unfolding axles_told
log_speaks es = ap speaking (log_heads es) ∙ speaking_told es (around (net_at_reset es)) (proof_told (was_reset es) (proved_told es))

-- and the number
pub log_number : (es : HeadLog) → number (heads_after_log es) ≡ number_told es
unfolding axles_told number_told
log_number es = ap number (log_heads es) ∙ number_told_law es (net_at_reset es) (proof_told (was_reset es) (proved_told es))
