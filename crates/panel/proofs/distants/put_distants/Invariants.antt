-- The bytes of the first d distants are written, and the next place is d further on.
use Prim.Native.Nat.{◌+◌, ◌≤◌}
use mathlib.Core.Path.{◌≡◌}
use lib.ListN.{length, get_or}
use Rattle.laws.specs.Tables.{table}
use Rattle.signals.specs.Shows.{number_shown_by}
use Rattle.signals.specs.Distants.{distant_shows}
use Rattle.panel.specs.Writes.{Wrote}
use Rattle.panel.proofs.distants.put_distants.Given as goal

abbrev pub invariant-loop-d : goal.invariant-loop-d
invariant-loop-d l =
    (l.d ≤ l.count) × (l.next ≡ l.at + l.d) × (length l.buffer ≡ length l.initial.buffer)
    × Wrote l.initial.buffer l.at (table l.d (λ k. distant_shows (number_shown_by l.s.mains l.s.lines l.s.line.now l.s.main.now l.s.tables.direction.now l.s.tables.point.now l.s.tables.stage.now l.s.tables.bar.now) (get_or l.carriers k 0) (get_or l.announced k 0))) l.buffer l.next
