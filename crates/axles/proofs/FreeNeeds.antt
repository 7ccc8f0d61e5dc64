-- What a free reading needs, told from the log.
use Rattle.std.proofs.Common.{◌≡◌, ℕ, Bool, true, false, eqb, leb, [], ◌∷◌, ℤ, pos, negsuc, sym, refl, ap, ◌∙◌, ⊎_elim, arith, eqb-true, leb-true}
use borrow.Author.Tests.{eqb-false}
use Rattle.laws.specs.Choice.{when◌then◌else◌}
use Rattle.laws.specs.Tests.{◌or◌, every}
use Rattle.laws.proofs.Tests.{and_left, and_right, or_cases, not_both, every_at}
use Rattle.track.specs.Codes.{free, occupied}
use Rattle.axles.specs.Heads.{reading_of, axles_reading, heads_after_log}
use Rattle.axles.specs.HeadLog.{HeadLog, both_speak, is_reset, resets_in, number_told, occupies_told, was_reset, proved_told, reading_told}
use Rattle.axles.specs.Since.{Few, ProvedSince, FreeFrom}
use Rattle.axles.specs.declared.Said.{Said}
use Rattle.axles.proofs.HeadLog.{log_reads, reset_was}

-- ---- what a number says

-- of the numbers from 0 on only 0 says free: 1 to 255 say occupied, the others none
free_by : (n : ℕ) (s t : Bool) → eqb n 0 ≡ s → leb n 255 ≡ t → reading_of (pos n) ≡ free → n ≡ 0
unfolding reading_of when◌then◌else◌
free_by n true t p q e = eqb-true n 0 p
free_by n false true p q e = let z : ◌≡◌ {A = ℕ} 2 1 = rw (p, q) at e in absurd (omega arith)
free_by n false false p q e = let z : ◌≡◌ {A = ℕ} 3 1 = rw (p, q) at e in absurd (omega arith)

-- a number that says free is 0: one below 0 says none
says_free : (z : ℤ) → reading_of z ≡ free → z ≡ pos 0
unfolding reading_of
says_free (pos n) e = ap pos (free_by n (eqb n 0) (leb n 255) refl refl e)
says_free (negsuc n) e = absurd (let z : ◌≡◌ {A = ℕ} 3 1 = e in omega arith)

-- of the numbers from 0 on only 1 to 255 say occupied
few_by : (n : ℕ) (s t : Bool) → eqb n 0 ≡ s → leb n 255 ≡ t → reading_of (pos n) ≡ occupied → Few (pos n)
unfolding reading_of when◌then◌else◌
few_by n true t p q e = let z : ◌≡◌ {A = ℕ} 1 2 = rw p at e in absurd (omega arith)
few_by n false true p q e = record { axles = n; some = let f = eqb-false n 0 p in omega arith; most = leb-true n 255 q; are = refl }
few_by n false false p q e = let z : ◌≡◌ {A = ℕ} 3 2 = rw (p, q) at e in absurd (omega arith)

-- a number that says occupied is in 1 to 255
says_occupied : (z : ℤ) → reading_of z ≡ occupied → Few z
unfolding reading_of
says_occupied (pos n) e = few_by n (eqb n 0) (leb n 255) refl refl e
says_occupied (negsuc n) e = absurd (let z : ◌≡◌ {A = ℕ} 3 2 = e in omega arith)

-- ---- the moment that proved the reset

-- where the number now is in 1 to 255 with neither head silent, that moment is now
moment_now : (es : HeadLog) → occupies_told es ≡ true → was_reset es ≡ true → ProvedSince es
unfolding occupies_told
moment_now es o w = record {
  since = [];
  moment = es;
  parts = refl;
  was_reset_law = w;
  no_other = refl;
  spoke = and_left _ _ o;
  few = says_occupied (number_told es) (eqb-true _ 2 (and_right _ _ o));
}

-- after an event more that is no reset it is the same moment
moment_then : (e : Said) (es : HeadLog) → is_reset e es ≡ false → ProvedSince es → ProvedSince (e ∷ es)
unfolding resets_in when◌then◌else◌
moment_then e es r m = record {
  since = e ∷ m.since;
  moment = m.moment;
  parts = ap (λ l. e ∷ l) m.parts;
  was_reset_law = m.was_reset_law;
  no_other = rw r m.no_other;
  spoke = m.spoke;
  few = m.few;
}

-- one event: a reset proves nothing; else the number now does, or what was before it
proved_by : (e : Said) (es : HeadLog) (r : Bool) → is_reset e es ≡ r → (proved_told es ≡ true → was_reset es ≡ true → ProvedSince es)
    → proved_told (e ∷ es) ≡ true → was_reset (e ∷ es) ≡ true → ProvedSince (e ∷ es)
unfolding proved_told when◌then◌else◌ ◌or◌
proved_by e es true r earlier p w = not_both (rw r at p) refl
proved_by e es false r earlier p w =
    ⊎_elim (λ o. moment_now (e ∷ es) o w) (λ v. moment_then e es r (earlier v (rw (reset_was e es, r) at w)))
    (or_cases (occupies_told (e ∷ es)) (proved_told es) (rw r at p))

-- a whole log: event by event
proved_since : (es : HeadLog) → proved_told es ≡ true → was_reset es ≡ true → ProvedSince es
unfolding proved_told
proved_since [] p w = not_both p refl
proved_since (e ∷ es) p w = proved_by e es (is_reset e es) refl (proved_since es) p w

-- ---- a free reading

-- of the log: the three tests hold, since else it tells none, and the number says free
free_from : (es : HeadLog) (t : Bool) → every (both_speak es ∷ was_reset es ∷ proved_told es ∷ []) ≡ t → reading_told es ≡ free → FreeFrom es
unfolding reading_told when◌then◌else◌
free_from es true t e = record {
  speak = every_at _ t 0;
  proved_then = proved_since es (every_at _ t 2) (every_at _ t 1);
  none_left = says_free (number_told es) (rw t at e);
}
free_from es false t e = absurd (let z : ◌≡◌ {A = ℕ} 3 1 = rw t at e in omega arith)

-- L1: a free reading needs that neither head is silent, that there was a reset, that since then the number was in 1 to 255 at some moment with neither
-- head silent, and that it is 0 now
pub free_needs : (es : HeadLog) → axles_reading (heads_after_log es) ≡ free → FreeFrom es
free_needs es e = free_from es _ refl (sym (log_reads es) ∙ e)
