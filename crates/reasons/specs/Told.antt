-- A refusal as the code answers it: `Ok` where there is none, else a reason, which has a number and a detail.
use Rattle.std.specs.Prelude.{ℕ, Result, Ok, Err}
use Rattle.reasons.specs.declared.answers.Reason.{Reason}
use Rattle.reasons.specs.declared.answers.Reason.TheVariants.{UnknownKind, NoSuchObject, WrongNumber, RouteLocked, RouteConflicts, PointNotPlaced, SectionOccupied, SectionReadsNone, LineNotSecured, BlockHeld, BlockBarred, LineSecured, RouteNotLocked, RouteCancelling, PointInRoute, PointInLine, ExitLocked, Unsound, NoHeads, SignalDark, HasHeads, HeadSilent}
use Rattle.reasons.specs.Refusal.{Refusal, refused, no_refusal}

-- the number of a reason
abbrev pub number_of : Reason → ℕ
number_of UnknownKind = 1
number_of (NoSuchObject a) = 2
number_of WrongNumber = 3
number_of (RouteLocked r) = 4
number_of (RouteConflicts r) = 5
number_of (PointNotPlaced p) = 6
number_of (SectionOccupied g) = 7
number_of (SectionReadsNone g) = 8
number_of (LineNotSecured l) = 9
number_of (BlockHeld g) = 10
number_of (BlockBarred g) = 11
number_of (LineSecured w) = 12
number_of (RouteNotLocked r) = 13
number_of (RouteCancelling r) = 14
number_of (PointInRoute r) = 15
number_of (PointInLine l) = 16
number_of (ExitLocked r) = 17
number_of Unsound = 18
number_of (NoHeads g) = 30
number_of (SignalDark x) = 31
number_of (HasHeads g) = 34
number_of (HeadSilent g) = 35

-- its detail, 0 where it has none
abbrev pub detail_of : Reason → ℕ
detail_of UnknownKind = 0
detail_of (NoSuchObject a) = a
detail_of WrongNumber = 0
detail_of (RouteLocked r) = r
detail_of (RouteConflicts r) = r
detail_of (PointNotPlaced p) = p
detail_of (SectionOccupied g) = g
detail_of (SectionReadsNone g) = g
detail_of (LineNotSecured l) = l
detail_of (BlockHeld g) = g
detail_of (BlockBarred g) = g
detail_of (LineSecured w) = w
detail_of (RouteNotLocked r) = r
detail_of (RouteCancelling r) = r
detail_of (PointInRoute r) = r
detail_of (PointInLine l) = l
detail_of (ExitLocked r) = r
detail_of Unsound = 0
detail_of (NoHeads g) = g
detail_of (SignalDark x) = x
detail_of (HasHeads g) = g
detail_of (HeadSilent g) = g

-- the refusal that is answered
abbrev pub told : Result Unit Reason → Refusal
told (Ok u) = no_refusal
told (Err e) = refused (number_of e) (detail_of e)
