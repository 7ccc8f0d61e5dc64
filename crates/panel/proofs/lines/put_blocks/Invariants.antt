-- The bytes of the first i blocks are written, and the next place is three further on for each.
use Prim.Native.Nat.{◌+◌, ◌*◌, ◌≤◌}
use mathlib.Core.Path.{◌≡◌}
use lib.ListN.{length}
use Rattle.laws.specs.Tables.{join}
use Rattle.panel.specs.Writes.{Wrote, block_by}
use Rattle.panel.proofs.lines.put_blocks.Given as goal

abbrev pub invariant-loop-i : goal.invariant-loop-i
invariant-loop-i l =
    (l.i ≤ l.s.blocks) × (l.next ≡ l.at + 3 * l.i) × (length l.buffer ≡ length l.initial.buffer)
    × Wrote l.initial.buffer l.at (join l.i (block_by l.t.stage.now l.t.bar.now l.s.blocks l.s.way l.s.placed l.l)) l.buffer l.next
