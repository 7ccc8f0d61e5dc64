-- The turns so far are done.
use Prim.Native.Nat.{◌*◌, ◌≤◌}
use Rattle.laws.specs.Tables.{iter}
use Rattle.number_text.specs.Lines.{begun, turn_of}
use Rattle.number_text.specs.Pieces.{in_numbers, Went}
use Rattle.number_text.proofs.unpack.unpack_piece.Given as goal

abbrev pub invariant-loop : goal.invariant-loop
invariant-loop l = (l.counter ≤ l.end) × Went l.fn.out 0 (7 * l.counter) l.out (in_numbers l.p) (iter (λ k. turn_of l.per l.fn.bytes) l.counter (begun l.fn.column l.fn.at))
