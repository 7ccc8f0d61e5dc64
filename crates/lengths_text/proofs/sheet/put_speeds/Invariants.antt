-- The speeds of the columns so far are written.
use Prim.Native.Nat.{◌*◌, ◌≤◌}
use lib.ListN.{get_or}
use Rattle.numerals.specs.Writes.{Put}
use Rattle.block_lengths.specs.Paper.{speeds}
use Rattle.lengths_text.specs.Sheet.{side_by_side}
use Rattle.lengths_text.proofs.sheet.put_speeds.Given as goal

abbrev pub invariant-loop-column : goal.invariant-loop-column
invariant-loop-column l = (l.column ≤ 6) × Put l.fn.out l.at (side_by_side l.column (λ k. get_or speeds k 0)) (8 * l.column) l.out l.next
