-- The lengths of the columns so far are written.
use Prim.Native.Nat.{◌*◌, ◌≤◌}
use Rattle.numerals.specs.Writes.{Put}
use Rattle.block_lengths.specs.Paper.{entry}
use Rattle.lengths_text.specs.Sheet.{table_of, side_by_side}
use Rattle.lengths_text.proofs.sheet.put_entries.Given as goal

abbrev pub invariant-loop-column : goal.invariant-loop-column
invariant-loop-column l = (l.column ≤ 6) × Put l.fn.out l.at (side_by_side l.column (entry (table_of l.stopping) l.row)) (8 * l.column) l.out l.next
