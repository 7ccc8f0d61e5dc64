-- Axles more that are counted in or out past a head (L1): what they make of a section's number, and what it then reads.
use Prim.Native.Nat.{ℕ, ◌+◌, ◌%◌, ◌<◌, ◌≤◌}
use mathlib.Core.Path.{◌≡◌, refl, sym, ap, ◌∙◌}
use mathlib.Core.Logic.{◌≢◌}
use mathlib.Core.Bool.{true}
use mathlib.Core.List.{[], ◌∷◌}
use native.Mathlib.Decide.{ℕ_discrete}
use native.Mathlib.Omega.{arith}
use borrow.Author.Tests.{lt-ltb, ltb-true, le-leb, ne_eqb}
use lib.Dec.{ltb}
use lib.IntN.{ℤ, pos, negsuc, ◌-ℤ◌, pos-ne-negsuc}
use lib.Signed.{mag}
use Rattle.laws.specs.Choice.{when◌then◌else◌}
use Rattle.laws.specs.Tests.{◌and◌, ◌or◌, every}
use Rattle.laws.proofs.Choice.{if_both, chosen, passed_over}
use Rattle.laws.proofs.Tests.{and_left, and_right, or_right, every_at}
use Rattle.axles.specs.Rounds.{around, signed}
use Rattle.axles.specs.Heads.{reading_of}
use Rattle.axles.specs.Since.{rolled}
use Rattle.axles.specs.HeadLog.{HeadLog, said, says, has_told, last_told, both_speak, net_told, is_reset, resets_in, net_at_reset, number_told, occupies_told, was_reset, proved_told, reading_told}
use Rattle.axles.proofs.HeadLog.{log_reads}
use Rattle.axles.proofs.FreeNeeds.{free_needs}
use Rattle.axles.proofs.Rounds.{around_below, around_sub, around_whole, minus_round}

-- ---- numbers round 65,536

-- either first
swap : (a b : ℕ) → a + b ≡ b + a
swap a b = omega arith

-- n more in
more_in : (a b q n : ℕ) → around (pos ((a + n) % 65536 + b) -ℤ pos q) ≡ (around (pos (a + b) -ℤ pos q) + n) % 65536
more_in a b q n = rw (around_whole ((a + n) % 65536 + b) q, around_whole (a + b) q) (omega arith)

-- n more out
more_out : (a b q n : ℕ) → around (pos q -ℤ pos (a + b)) ≡ (around (pos q -ℤ pos ((a + n) % 65536 + b)) + n) % 65536
more_out a b q n = rw (around_whole q ((a + n) % 65536 + b), around_whole q (a + b)) (omega arith)

-- one of 0 .. 65,535 whose signed number is m, or above, is m
signed_is : (k m : ℕ) → k < 65536 → signed k ≡ pos m → (k ≡ m) × (k < 32768)
unfolding signed
signed_is k m b =
    if_both (λ (z : ℤ). z ≡ pos m → (k ≡ m) × (k < 32768)) (ltb k 32768) (λ t q. (ap mag q, ltb-true k 32768 t))
    (λ f q. absurd (pos-ne-negsuc m _ (sym q ∙ minus_round k b)))

-- and one of the lower half is its signed number
signed_low : (k m : ℕ) → k ≡ m → m < 32768 → signed k ≡ pos m
unfolding signed
signed_low k m q b = chosen _ _ _ (lt-ltb k 32768 (omega arith)) ∙ ap pos q

-- a number that reads occupied is above 0
above : (z : ℤ) → reading_of z ≡ 2 → z ≡ pos (mag z)
unfolding reading_of
above (pos n) q = refl
above (negsuc n) q = absurd (omega arith)

-- ---- a count more

-- a head, and a kind of count
pub data Head : ℕ → Type 0 where
  head0 : Head 0
  head1 : Head 1

data Count : ℕ → Type 0 where
  inward : Count 11
  outward : Count 12

-- there are two heads
pub head_of : (j : ℕ) → j < 2 → Head j
head_of j b = go (ℕ_discrete j 0)
  where
    go : Dec (j ≡ 0) → Head j
    go (yes q) = rw q head0
    go (no d) = let q : j ≡ 1 = omega arith in rw q head1

-- neither head is silent, there was a reset, and it is proved
abbrev Known : HeadLog → Type 0
Known es = every (both_speak es ∷ was_reset es ∷ proved_told es ∷ []) ≡ true

-- so where the reading is not none
pub reads_known : (es : HeadLog) → reading_told es ≢ 3 → Known es
unfolding reading_told
reads_known es = if_both (λ n. n ≢ 3 → Known es) _ (λ t d. t) (λ f d. absurd (d refl))

module _ (es : HeadLog) where
  -- the three tests of a reading
  known_by : Known es → (both_speak es ≡ true) × (was_reset es ≡ true) × (proved_told es ≡ true)
  known_by t = (every_at _ t 0, every_at _ t 1, every_at _ t 2)

  -- each head has told both its counts
  each_told : both_speak es ≡ true → (has_told 11 0 es ≡ true) × (has_told 12 0 es ≡ true) × (has_told 11 1 es ≡ true) × (has_told 12 1 es ≡ true)
  unfolding both_speak
  each_told t =
      let one = and_left _ _ t in
      let other = and_right _ _ t in
      (and_left _ _ one, and_right _ _ one, and_left _ _ other, and_right _ _ other)

  -- and has still when one of them counts
  still_speak : {k j : ℕ} → Count k → Head j → (c : ℕ) → both_speak es ≡ true → both_speak (said k j c ∷ es) ≡ true
  unfolding both_speak has_told says ◌and◌ when◌then◌else◌
  still_speak inward head0 c t = let (p, q, r, s) = each_told t in rw (q, r, s)
  still_speak inward head1 c t = let (p, q, r, s) = each_told t in rw (p, q, s)
  still_speak outward head0 c t = let (p, q, r, s) = each_told t in rw (p, r, s)
  still_speak outward head1 c t = let (p, q, r, s) = each_told t in rw (p, q, r)

  -- a count is no reset: the last one stands, and stays proved
  still_known : {k j : ℕ} → Count k → Head j → (c : ℕ) → Known es → Known (said k j c ∷ es)
  unfolding every was_reset resets_in proved_told is_reset ◌and◌ ◌or◌ when◌then◌else◌
  still_known {j = j} inward x c t = rw (still_speak inward x c (known_by t).0, (known_by t).1) (or_right (occupies_told (said 11 j c ∷ es)) _ (known_by t).2)
  still_known {j = j} outward x c t = rw (still_speak outward x c (known_by t).0, (known_by t).1) (or_right (occupies_told (said 12 j c ∷ es)) _ (known_by t).2)

  module _ (n : ℕ) where
    -- n axles more past head j: what it has told of them then
    abbrev told : ℕ → ℕ → HeadLog
    told k j = said k j (rolled (last_told k j es + n)) ∷ es

    -- in, they make the sum n more
    net_in : {j : ℕ} → Head j → around (net_told (told 11 j)) ≡ (around (net_told es) + n) % 65536
    unfolding net_told last_told says rolled ◌and◌ when◌then◌else◌
    net_in head0 = more_in (last_told 11 0 es) (last_told 11 1 es) (last_told 12 0 es + last_told 12 1 es) n
    net_in head1 =
        ap (λ k. around (pos k -ℤ pos (last_told 12 0 es + last_told 12 1 es))) (swap (last_told 11 0 es) _)
        ∙ more_in (last_told 11 1 es) (last_told 11 0 es) (last_told 12 0 es + last_told 12 1 es) n
        ∙ ap (λ k. (around (pos k -ℤ pos (last_told 12 0 es + last_told 12 1 es)) + n) % 65536) (swap (last_told 11 1 es) (last_told 11 0 es))

    -- out, n less
    net_out : {j : ℕ} → Head j → around (net_told es) ≡ (around (net_told (told 12 j)) + n) % 65536
    unfolding net_told last_told says rolled ◌and◌ when◌then◌else◌
    net_out head0 = more_out (last_told 12 0 es) (last_told 12 1 es) (last_told 11 0 es + last_told 11 1 es) n
    net_out head1 =
        ap (λ k. around (pos (last_told 11 0 es + last_told 11 1 es) -ℤ pos k)) (swap (last_told 12 0 es) (last_told 12 1 es))
        ∙ more_out (last_told 12 1 es) (last_told 12 0 es) (last_told 11 0 es + last_told 11 1 es) n
        ∙ ap (λ k. (around (pos (last_told 11 0 es + last_told 11 1 es) -ℤ pos k) + n) % 65536) (swap _ (last_told 12 0 es))

    -- so in from none there are n
    number_in : {j : ℕ} → Head j → number_told es ≡ pos 0 → n < 32768 → number_told (told 11 j) ≡ pos n
    unfolding number_told net_at_reset is_reset ◌and◌ when◌then◌else◌
    number_in {j} x h b =
        let was = (signed_is _ 0 (around_below (net_told es -ℤ net_at_reset es)) h).0 in
        let sum = around_sub (net_told es) (net_at_reset es) in
        let now = around_sub (net_told (told 11 j)) (net_at_reset es) in
        let d = net_in x in
        signed_low _ n (omega arith) b

    -- and with n out of n there are none
    number_out : {j : ℕ} → Head j → number_told es ≡ pos n → number_told (told 12 j) ≡ pos 0
    unfolding number_told net_at_reset is_reset ◌and◌ when◌then◌else◌
    number_out {j} x h =
        let (was, few) = signed_is _ n (around_below (net_told es -ℤ net_at_reset es)) h in
        let sum = around_sub (net_told es) (net_at_reset es) in
        let now = around_sub (net_told (told 12 j)) (net_at_reset es) in
        let below = around_below (net_told (told 12 j) -ℤ net_at_reset es) in
        let d = net_out x in
        signed_low _ 0 (omega arith) (omega arith)

    -- a section that reads free, with 1 to 255 axles in, reads occupied
    pub in_reads : {j : ℕ} → Head j → reading_told es ≡ 1 → 1 ≤ n → n ≤ 255 → reading_told (told 11 j) ≡ 2
    unfolding reading_told reading_of
    in_reads x r some few =
        chosen _ _ 3 (still_known inward x _ (reads_known es (omega arith)))
        ∙ ap reading_of (number_in x (free_needs es (log_reads es ∙ r)).none_left (omega arith))
        ∙ passed_over _ _ _ (ne_eqb n 0 (omega arith)) ∙ chosen _ _ _ (le-leb n 255 few)

-- one that reads occupied, with all its axles out, reads free
pub out_reads : (es : HeadLog) {j : ℕ} → Head j → reading_told es ≡ 2 → reading_told (told es (mag (number_told es)) 12 j) ≡ 1
unfolding reading_told reading_of when◌then◌else◌
out_reads es x r =
    let known = reads_known es (omega arith) in
    chosen _ _ 3 (still_known es outward x _ known)
    ∙ ap reading_of (number_out es (mag (number_told es)) x (above (number_told es) (sym (chosen _ _ 3 known) ∙ r)))
