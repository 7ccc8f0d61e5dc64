-- A refusal is told of one answer alone: its number says which reason it is, and its detail of what.
use Prim.Native.Nat.{ℕ}
use mathlib.Core.Path.{◌≡◌, refl, sym, ap, ◌∙◌}
use Rattle.std.specs.Prelude.{Result, Ok, Err}
use lib.Dec.{eqb}
use Rattle.laws.specs.Choice.{when◌then◌else◌}
use Rattle.reasons.specs.declared.answers.Reason.{Reason}
use Rattle.reasons.specs.declared.answers.Reason.TheVariants.{UnknownKind, NoSuchObject, WrongNumber, RouteLocked, RouteConflicts, PointNotPlaced, SectionOccupied, SectionReadsNone, LineNotSecured, BlockHeld, BlockBarred, LineSecured, RouteNotLocked, RouteCancelling, PointInRoute, PointInLine, ExitLocked, Unsound, NoHeads, SignalDark, HasHeads, HeadSilent}
use Rattle.reasons.specs.Refusal.{Refusal, refused, no_refusal}
use Rattle.reasons.specs.Told.{told, number_of, detail_of}

-- the answer of which a number and a detail are told; a number that no reason has is read as none
answer_of : ℕ → ℕ → Result Unit Reason
answer_of n d =
    when eqb n 1 then Err UnknownKind else
    when eqb n 2 then Err (NoSuchObject d) else
    when eqb n 3 then Err WrongNumber else
    when eqb n 4 then Err (RouteLocked d) else
    when eqb n 5 then Err (RouteConflicts d) else
    when eqb n 6 then Err (PointNotPlaced d) else
    when eqb n 7 then Err (SectionOccupied d) else
    when eqb n 8 then Err (SectionReadsNone d) else
    when eqb n 9 then Err (LineNotSecured d) else
    when eqb n 10 then Err (BlockHeld d) else
    when eqb n 11 then Err (BlockBarred d) else
    when eqb n 12 then Err (LineSecured d) else
    when eqb n 13 then Err (RouteNotLocked d) else
    when eqb n 14 then Err (RouteCancelling d) else
    when eqb n 15 then Err (PointInRoute d) else
    when eqb n 16 then Err (PointInLine d) else
    when eqb n 17 then Err (ExitLocked d) else
    when eqb n 18 then Err Unsound else
    when eqb n 30 then Err (NoHeads d) else
    when eqb n 31 then Err (SignalDark d) else
    when eqb n 34 then Err (HasHeads d) else
    when eqb n 35 then Err (HeadSilent d) else Ok tt

-- it is the answer that was told
answer_told : (r : Result Unit Reason) → answer_of (told r).number (told r).detail ≡ r
unfolding refused no_refusal when◌then◌else◌ answer_of
answer_told (Ok u) = refl
answer_told (Err UnknownKind) = refl
answer_told (Err (NoSuchObject a)) = refl
answer_told (Err WrongNumber) = refl
answer_told (Err (RouteLocked r)) = refl
answer_told (Err (RouteConflicts r)) = refl
answer_told (Err (PointNotPlaced p)) = refl
answer_told (Err (SectionOccupied g)) = refl
answer_told (Err (SectionReadsNone g)) = refl
answer_told (Err (LineNotSecured l)) = refl
answer_told (Err (BlockHeld g)) = refl
answer_told (Err (BlockBarred g)) = refl
answer_told (Err (LineSecured w)) = refl
answer_told (Err (RouteNotLocked r)) = refl
answer_told (Err (RouteCancelling r)) = refl
answer_told (Err (PointInRoute r)) = refl
answer_told (Err (PointInLine l)) = refl
answer_told (Err (ExitLocked r)) = refl
answer_told (Err Unsound) = refl
answer_told (Err (NoHeads g)) = refl
answer_told (Err (SignalDark x)) = refl
answer_told (Err (HasHeads g)) = refl
answer_told (Err (HeadSilent g)) = refl

-- two answers of which one refusal is told are one
pub told_once : (r q : Result Unit Reason) {x : Refusal} → told r ≡ x → told q ≡ x → r ≡ q
told_once r q e d = sym (answer_told r) ∙ ap (λ (x : Refusal). answer_of x.number x.detail) (e ∙ sym d) ∙ answer_told q

-- no reason has the number 0, of which no refusal is told
pub number_given : (e : Reason) → number_of e ≡ 0 → ⊥
unfolding refused no_refusal when◌then◌else◌ answer_of
number_given e h = let z : Ok tt ≡ Err e = ap (λ n. answer_of n (detail_of e)) (sym h) ∙ answer_told (Err e) in absurd (cc)
