-- The bytes of the first l lines are written, and the next place is three further on for each of their blocks.
use Prim.Native.Nat.{◌+◌, ◌*◌, ◌≤◌}
use mathlib.Core.Path.{◌≡◌}
use lib.ListN.{length}
use Rattle.laws.specs.Tables.{join}
use Rattle.panel.specs.Panel.{blocks, line_bytes}
use Rattle.panel.specs.Writes.{Wrote}
use Rattle.panel.proofs.lines.put_lines.Given as goal

abbrev pub invariant-loop-l : goal.invariant-loop-l
invariant-loop-l l =
    (l.l ≤ l.n) × (l.next ≡ l.at + 3 * blocks l.l l.ls) × (length l.buffer ≡ length l.initial.buffer)
    × Wrote l.initial.buffer l.at (join l.l (line_bytes l.ls l.t.direction.now l.t.point.now l.t.stage.now l.t.bar.now)) l.buffer l.next
