-- The first bytes are written.
use Prim.Native.Nat.{◌*◌, ◌≤◌}
use Rattle.event_file.specs.Lines.{spaced}
use Rattle.numerals.specs.Writes.{Put}
use Rattle.event_file.proofs.lines.put_bytes.Given as goal

abbrev pub invariant-loop-i : goal.invariant-loop-i
invariant-loop-i l = (l.i ≤ l.n) × Put l.fn.out l.at (spaced l.i l.bytes) (4 * l.i) l.out l.next
