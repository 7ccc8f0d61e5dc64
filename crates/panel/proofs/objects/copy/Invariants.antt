-- The first i bytes are written, and the next place is i further on.
use Prim.Native.Nat.{◌+◌, ◌≤◌}
use mathlib.Core.Path.{◌≡◌}
use lib.ListN.{length, get_or}
use Rattle.laws.specs.Tables.{table}
use Rattle.panel.specs.Writes.{Wrote}
use Rattle.panel.proofs.objects.copy.Given as goal

abbrev pub invariant-loop-i : goal.invariant-loop-i
invariant-loop-i l =
    (l.i ≤ l.n) × (l.next ≡ l.at + l.i) × (length l.buffer ≡ length l.initial.buffer)
    × Wrote l.initial.buffer l.at (table l.i (λ k. get_or l.from k 0)) l.buffer l.next
