-- The whole piece from where it began is the rest of it, after what was told until now; the bytes left fall.
use Prim.Native.Nat.{◌-◌}
use mathlib.Core.Path.{◌≡◌}
use lib.ListN.{length}
use Rattle.fitted.specs.Pieces.{piece_of}
use Rattle.fitted.proofs.tell_piece.Given as goal

abbrev pub invariant-loop-at : goal.invariant-loop-at
invariant-loop-at l = piece_of l.sections l.last l.bytes l.t l.at ≡ piece_of l.sections l.last l.bytes l.fn.told l.from

abbrev pub decreases-loop-at : goal.decreases-loop-at
decreases-loop-at l = length l.bytes - l.at
