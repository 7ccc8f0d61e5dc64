-- What gives none, whatever the heads held before, and what changes nothing.
use Rattle.std.proofs.Common.{◌≡◌, ℕ, Bool, true, false, eqb, ◌⊎◌, pos, refl, ap, ◌∙◌, inl, inr, eq-eqb}
use Rattle.laws.specs.Choice.{when◌then◌else◌}
use Rattle.laws.specs.Tests.{◌and◌}
use Rattle.laws.proofs.Choice.{chosen, passed_over}
use Rattle.laws.proofs.Tests.{and_both, first_fails, second_fails}
use Rattle.track.specs.Codes.{reads_none, head_silent, reset_axles}
use Rattle.axles.specs.Rounds.{around, signed}
use Rattle.axles.specs.Heads.{unproved, proved, silent_head, head_after, speaks, speaking, net, number, reading_of, occupies, resets, sum_after, proof_after, told, proves, judged, axles_after, known, axles_reading}
use Rattle.axles.specs.declared.Head.{Head}
use Rattle.axles.specs.declared.Axles.{Axles}
use Rattle.axles.specs.declared.Said.{Said}
use Rattle.axles.proofs.Rounds.{around_back, around_self}
use Rattle.axles.proofs.Kept.{after_same, reset_head}

-- ---- a silent head

-- a section reads none while a head is silent: its number is not known
pub quiet_none : (x : Axles) → speaking x ≡ false → axles_reading x ≡ reads_none
unfolding axles_reading known
quiet_none x e = passed_over _ _ reads_none (first_fails _ _ e)

-- and while no reset is proved
pub unproved_none : (x : Axles) → eqb x.proof proved ≡ false → axles_reading x ≡ reads_none
unfolding axles_reading known
unproved_none x e = passed_over _ _ reads_none (second_fails _ _ e)

-- who speaks after an event goes by what it tells
after_speaks : (x : Axles) (e : Said) → speaking (axles_after x e) ≡ speaking (told x e)
unfolding speaking
after_speaks x e = let same = after_same x e in rw (same.head0, same.head1)

-- a head that says it is silent has told nothing
head_silenced : (h : Head) (k : ℕ) (e : Said) → e.kind ≡ 13 → e.head ≡ k → speaks (head_after h k e) ≡ false
unfolding head_after speaks silent_head when◌then◌else◌ ◌and◌
head_silenced h k e p q = rw (p, eq-eqb e.head k q)

-- L1: a head that says it is silent gives none, whichever of the two it is
pub silence_gives_none : (x : Axles) (e : Said) → e.kind ≡ head_silent → (e.head ≡ 0) ⊎ (e.head ≡ 1) → axles_reading (axles_after x e) ≡ reads_none
unfolding told speaking
silence_gives_none x e p (inl q) = quiet_none (axles_after x e) (after_speaks x e ∙ first_fails _ _ (head_silenced x.head0 0 e p q))
silence_gives_none x e p (inr q) = quiet_none (axles_after x e) (after_speaks x e ∙ second_fails _ _ (head_silenced x.head1 1 e p q))

-- ---- a reset

-- a reset leaves both heads, so the same speak
reset_speaks : (x : Axles) (e : Said) → e.kind ≡ 14 → speaking (told x e) ≡ speaking x
unfolding told speaking
reset_speaks x e p = rw (reset_head x.head0 0 e p, reset_head x.head1 1 e p)

-- where the stored sum is that of the counts the number is 0
number_zero : (x y : Axles) → net y ≡ net x → y.sum ≡ around (net x) → number y ≡ pos 0
unfolding number signed when◌then◌else◌
number_zero x y p q = rw (p, q, around_back (net x) (net x), around_self (net x))

module _ (x : Axles) (e : Said) (p : e.kind ≡ 14) (s : speaking x ≡ true) where
  -- a reset with neither head silent counts
  reset_counts : resets x e ≡ true
  unfolding resets
  reset_counts = and_both _ _ (eq-eqb e.kind 14 p) s

  -- the counts stay
  reset_net : net (told x e) ≡ net x
  unfolding net told
  reset_net = rw (reset_head x.head0 0 e p, reset_head x.head1 1 e p)

  -- and their sum is stored: the number is 0
  pub reset_number : number (told x e) ≡ pos 0
  unfolding told sum_after
  reset_number = number_zero x (told x e) reset_net (chosen _ (around (net x)) _ reset_counts)

  -- nothing is proved yet
  reset_proof : (told x e).proof ≡ unproved
  unfolding told proof_after
  reset_proof = chosen _ unproved _ reset_counts

  -- and 0 proves nothing
  reset_proves_not : proves (told x e) ≡ false
  unfolding proves occupies reading_of when◌then◌else◌
  reset_proves_not = second_fails _ _ (second_fails _ _ (rw reset_number))

  -- so the section is unproved after the reset
  reset_after : (axles_after x e).proof ≡ unproved
  unfolding axles_after judged
  reset_after = ap (λ y. y.proof) (passed_over _ _ (told x e) reset_proves_not) ∙ reset_proof

-- a reset that counts leaves the section unproved; one that does not finds a head silent
reset_by : (x : Axles) (e : Said) → e.kind ≡ 14 → (t : Bool) → speaking x ≡ t → axles_reading (axles_after x e) ≡ reads_none
reset_by x e p true s = unproved_none (axles_after x e) (rw (reset_after x e p s))
reset_by x e p false s = quiet_none (axles_after x e) (after_speaks x e ∙ reset_speaks x e p ∙ s)

-- L1: a reset gives none, also of a section that read free
pub reset_gives_none : (x : Axles) (e : Said) → e.kind ≡ reset_axles → axles_reading (axles_after x e) ≡ reads_none
reset_gives_none x e p = reset_by x e p (speaking x) refl

-- ---- a reset while a head is silent, which is refused (35)

module _ (x : Axles) (e : Said) (p : e.kind ≡ 14) (s : speaking x ≡ false) where
  -- it does not count
  refused_resets_not : resets x e ≡ false
  unfolding resets
  refused_resets_not = second_fails _ _ s

  -- it tells nothing
  refused_told : told x e ≡ x
  unfolding told sum_after proof_after when◌then◌else◌
  refused_told = rw (refused_resets_not, reset_head x.head0 0 e p, reset_head x.head1 1 e p)

  -- and with a head silent no number proves anything
  refused_proves_not : proves x ≡ false
  unfolding proves occupies
  refused_proves_not = second_fails _ _ (first_fails _ _ s)

  -- L1: so it changes nothing, and a log may have it or not
  pub refused_leaves : axles_after x e ≡ x
  unfolding axles_after judged
  refused_leaves = ap judged refused_told ∙ passed_over _ _ x refused_proves_not
