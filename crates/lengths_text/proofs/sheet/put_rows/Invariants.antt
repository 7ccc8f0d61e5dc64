-- The rows so far are written.
use Prim.Native.Nat.{◌*◌, ◌≤◌}
use Rattle.laws.specs.Tables.{join}
use Rattle.numerals.specs.Writes.{Put}
use Rattle.lengths_text.specs.Sheet.{row_text}
use Rattle.lengths_text.proofs.sheet.put_rows.Given as goal

abbrev pub invariant-loop-row : goal.invariant-loop-row
invariant-loop-row l = (l.row ≤ 9) × Put l.fn.out l.at (join l.row (row_text l.stopping)) (60 * l.row) l.out l.next
