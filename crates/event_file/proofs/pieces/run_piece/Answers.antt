-- Each turn answers the event that stands there, and its state is held in three parts.
use mathlib.Core.Path.{◌≡◌, refl, sym, subst}
use mathlib.Core.Bool.{true}
use native.Mathlib.Omega.{arith}
use borrow.Author.Rules.{rules}
use lib.ListN.{length}
use Rattle.laws.proofs.Arrays.{length_mapped}
use Rattle.track.specs.Sizes.{most_sections}
use Rattle.interlocking.specs.Parts.{whole, together}
use Rattle.interlocking.proofs.Lifted.{place_small}
use Rattle.std.specs.Prelude.{Some}
use Rattle.event_file.specs.Run.{no_event, halted, so_far}
use Rattle.event_file.proofs.PanelText.{most_panel, most_plain, line_plain, line_panel}
use Rattle.event_file.proofs.Reading.{next_same, next_none, next_some}
use Rattle.event_file.proofs.Turns.{runs, run_full, run_halted, run_taken, run_done}
use Rattle.event_file.proofs.Parted.{from_parts, so_far_whole, so_far_tables, line_of_whole, run_together, heads_kept}
use Rattle.event_file.proofs.pieces.run_piece.Goals.{then-panel, else-panel, then-kind-ge-AXLES_IN, else-kind-ge-AXLES_IN}
use Rattle.event_file.proofs.pieces.run_piece.Goals as goal

-- no turn is made yet, and the table of heads is as long as its array
pub loop-init : goal.loop-init
loop-init c =
    let start = c in
    (omega arith, search (rules, length_mapped, start.well_formed.1.1.0.1.1.1.1.1.1.1.1.1.1.1.0), search runs)

-- no room for another line
pub returns-then-out-written : goal.returns-then-out-written
unfolding so_far halted
returns-then-out-written c =
    let asked = c in
    let turn = asked in
    rw c.came.ensures (from_parts _ _ _ _ _ _ _ _ _ _ _ _ _ turn.core_of-core.ensures
    (run_full _ _ _ _ _ _ _ _ _ _ _ _ _ _ _ turn.loop.invariant.2 asked.loop-test.true _ asked.most_line.ensures
    (so_far (whole c.loop.core c.loop.axles c.loop.lamps) c.loop.count c.loop.at c.loop.written) _ asked.if-out-written.true
    (so_far_whole _ _ _ _ _ _ refl refl) refl))

-- nothing stands at the next place
pub returns-in-Ok-None : goal.returns-in-Ok-None
unfolding so_far halted
returns-in-Ok-None c =
    let asked = c in
    let turn = asked in
    let ran = so_far (whole c.loop.core c.loop.axles c.loop.lamps) c.loop.count c.loop.at c.loop.written in
    rw c.came-in-Ok-None.ensures (from_parts _ _ _ _ _ _ _ _ _ _ _ _ _ turn.core_of-core.ensures
    (run_halted _ _ _ _ _ _ _ _ _ _ _ _ _ _ _ turn.loop.invariant.2 asked.loop-test.true _ asked.most_line.ensures _ asked.if-out-written.false
    (next_none _ _ c.in-Ok-None.field-0-is c.in-Ok-None.ensures) ran _ tt (so_far_whole _ _ _ _ _ _ refl refl) (c.end_by-end.ensures ran refl)))

-- or a fault
pub returns-in-Err : goal.returns-in-Err
unfolding so_far halted
returns-in-Err c =
    let asked = c in
    let turn = asked in
    let ran = so_far (whole c.loop.core c.loop.axles c.loop.lamps) c.loop.count c.loop.at c.loop.written in
    rw c.came-in-Err.ensures (from_parts _ _ _ _ _ _ _ _ _ _ _ _ _ turn.core_of-core.ensures
    (run_halted _ _ _ _ _ _ _ _ _ _ _ _ _ _ _ turn.loop.invariant.2 asked.loop-test.true _ asked.most_line.ensures _ asked.if-out-written.false
    (next_same (no_event (Some c.in-Err.fault)) _ c.in-Err.ensures) ran _ tt (so_far_whole _ _ _ _ _ _ refl refl) (c.end_by-end-in-Err.ensures ran refl)))

-- all turns are made
pub returns : goal.returns
unfolding so_far
returns c =
    let turn = c in
    rw c.came-2.ensures (from_parts _ _ _ _ _ _ _ _ _ _ _ _ _ turn.core_of-core.ensures
    (run_done _ _ _ _ _ _ _ _ _ _ _ (so_far (whole c.loop.core c.loop.axles c.loop.lamps) c.loop.count c.loop.at c.loop.written) _ turn.loop.invariant.2
    (so_far_whole _ _ _ _ _ _ refl refl) turn.loop.invariant.0 (omega (arith, c.loop-test.false))))

-- a line that has room, with the panel
pub put_panel_line-written-requires : goal.put_panel_line-written-requires
put_panel_line-written-requires c =
    let asked = c in
    omega (arith, asked.if-out-written.false, asked.most_line.ensures, most_panel _ c.if-panel.true, most_panel true refl)

-- without it
pub put_line-written-requires : goal.put_line-written-requires
put_line-written-requires c =
    let asked = c in
    omega (arith, asked.if-out-written.false, asked.most_line.ensures, most_plain _ c.if-panel.false)

-- the event that stands there is answered, the heads that it leaves and the lamp that it reports are stored, and its line is written, with the panel or without
pub loop-preserved : goal.loop-preserved
unfolding together
loop-preserved c =
    let answered = c in
    let named = answered in
    let found = named in
    let turn = found in
    let less = found.loop-test.true in
    let kept = heads_kept _ _ _ _ _ _ _ _ _ _ _ _ turn.loop.invariant.1 named.head_place-place.ensures refl answered.step_in_run-a.ensures in
    let stored : c.if-kind-ge-AXLES_IN.axles ≡ _ = elim c.if-kind-ge-AXLES_IN.branch [ then-kind-ge-AXLES_IN w ↦ w.axles-is | else-kind-ge-AXLES_IN w ↦ kept w.if-kind-ge-AXLES_IN.false w.axles-is ] in (
      omega (arith, less),
      subst (λ zs. length zs ≡ most_sections) (sym stored) (search (rules, turn.loop.invariant.1)),
      so_far_tables _ _ _ _ _ _ _ _ _ _ _ stored c.lamps_then.ensures
          (run_taken _ _ _ _ _ _ _ _ _ _ _ _ _ _ _ turn.loop.invariant.2 less _ found.most_line.ensures _ found.if-out-written.false
          (next_some _ _ found.in-Ok-Some.field-0-is found.in-Ok-Some.ensures) _ _ _ _ _ _ _ _ refl
          (run_together _ _ _ _ _ _ _ _ _ _ _ turn.loop.invariant.1 named.head_place-place.ensures refl answered.step_in_run-a.ensures) c.next_count-count.ensures
          (elim c.if-panel.branch [
            | then-panel w ↦ line_panel _ _ _ _ _ _ _ _ _ _ _ w.if-panel.true w.out-is w.written-is (line_of_whole _ _ _ _ _ _ _ _ _ _ _ w.put_panel_line-written.ensures)
            | else-panel w ↦ line_plain _ _ _ _ _ _ _ _ _ _ _ w.if-panel.false w.out-is w.written-is w.put_line-written.ensures
          ])),
    )

-- what is written lies in the buffer
pub overflow_sub-out : goal.overflow_sub-out
overflow_sub-out c = search runs

-- the place of the heads is one of the sections'
pub offset_bounds-axles-place : goal.offset_bounds-axles-place
offset_bounds-axles-place c = search (rules, place_small _ _ _ c.head_place-place.ensures)

pub bounds-axles-place : goal.bounds-axles-place
bounds-axles-place c = search (rules, place_small _ _ _ c.head_place-place.ensures)

pub offset_bounds-axles-place-then-kind-ge-AXLES_IN : goal.offset_bounds-axles-place-then-kind-ge-AXLES_IN
offset_bounds-axles-place-then-kind-ge-AXLES_IN c = search (rules, place_small _ _ _ c.head_place-place.ensures)

pub bounds-axles-place-then-kind-ge-AXLES_IN : goal.bounds-axles-place-then-kind-ge-AXLES_IN
bounds-axles-place-then-kind-ge-AXLES_IN c = search (rules, place_small _ _ _ c.head_place-place.ensures)
