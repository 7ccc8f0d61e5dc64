-- The run came as far as the turns so far, and did not stop; its state is held in three parts.
use Prim.Native.Nat.{◌≤◌}
use mathlib.Core.Path.{◌≡◌}
use lib.ListN.{length}
use Rattle.laws.specs.Tables.{iter}
use Rattle.track.specs.Sizes.{most_sections}
use Rattle.interlocking.specs.Parts.{whole}
use Rattle.step_facts.specs.Run.{box_in_run}
use Rattle.event_file.specs.Lines.{shown_in_run}
use Rattle.event_file.specs.Run.{turn_run, start, turns, so_far, Went}
use Rattle.event_file.proofs.pieces.run_piece.Given as goal

abbrev pub invariant-loop : goal.invariant-loop
invariant-loop l =
    (l.counter ≤ turns) × (length l.axles ≡ most_sections)
    × Went l.fn.out 0 (length l.fn.out) l.out (so_far (whole l.core l.axles l.lamps) l.count l.at l.written)
    (iter (λ k. turn_run (box_in_run l.layout) l.panel (shown_in_run l.layout) l.last l.bytes (length l.fn.out)) l.counter
    (start (whole l.initial.core l.initial.axles l.initial.lamps) l.initial.count l.initial.at))
