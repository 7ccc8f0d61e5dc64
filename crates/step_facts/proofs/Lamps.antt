-- Lamps after an event (L3): a report puts the one that it names, and any other event leaves them all.
use Prim.Native.Nat.{ℕ}
use mathlib.Core.Path.{◌≡◌}
use mathlib.Core.Logic.{◌≢◌, ◌⊎◌, inl, inr}
use mathlib.Core.List.{List}
use native.Mathlib.Omega.{arith}
use Rattle.laws.specs.Tables.{put}
use Rattle.track.specs.Codes.{report_lamp}
use Rattle.track.specs.Sizes.{most_lamps}
use Rattle.tables.specs.Readings.{recorded}
use Rattle.layout.specs.declared.Layout.{Layout}
use Rattle.interlocking.specs.declared.State.{State}
use Rattle.interlocking.specs.State.{with_sections, with_points, with_routes, with_lines, with_bars, with_axles, with_lamps}
use Rattle.interlocking.specs.Own.{own_section, own_point, own_throw, own_lock, own_cancel, own_secure, own_manual, own_bar, own_heads, own_lamp}
use Rattle.interlocking.specs.Settle.{signals, far_sections, routes_by, routes, arrivals, line_release, settle}
use Rattle.interlocking.specs.Rows.{Row, section_row, point_row, throw_row, set_row, cancel_row, secure_row, manual_row, bar_row, second_row, head_row, count_row, silent_row, reset_row, lamp_row, no_row}
use Rattle.interlocking.specs.Step.{own, after}
use Rattle.interlocking.proofs.Departure.{set_lines}
use Rattle.interlocking.proofs.Rows.{OfKind, section_row_kind, point_row_kind, throw_row_kind, set_row_kind, cancel_row_kind, secure_row_kind, manual_row_kind, bar_row_kind, unbar_row, second_row_kind, count_row_kind, silent_row_kind, reset_row_kind, lamp_row_kind, no_row_kind, row_kind_of}
use Rattle.step_facts.specs.Run.{Event}
use Rattle.step_facts.proofs.Within.{end}

-- what an event leaves of the lamps xs
pub data LampCase (e : Event) (xs : List ℕ) : List ℕ → Type 0 where
  reported : e.kind ≡ report_lamp → LampCase e xs (put most_lamps xs e.first (recorded e.second))
  left : e.kind ≢ report_lamp → LampCase e xs xs

-- by its row; nothing that follows touches lamps
pub lamps_of : (L : Layout) (s : State) (e : Event) → LampCase e s.lamp (end L s e).lamp
unfolding after settle line_release with_lines arrivals routes routes_by with_routes far_sections signals own
    section_row point_row throw_row set_row cancel_row secure_row manual_row bar_row second_row head_row count_row silent_row reset_row lamp_row no_row
    own_section own_point own_throw own_lock own_cancel own_secure own_manual own_bar own_heads own_lamp with_sections with_points with_bars with_axles with_lamps
lamps_of L s e = go (row_kind_of L s e.kind e.first e.second)
  where
    go : {row : Row} → OfKind L s e.first e.second e.kind row → LampCase e s.lamp row.does.lamp
    go (section_row_kind q) = left (omega arith)
    go (point_row_kind q) = left (omega arith)
    go (throw_row_kind q) = left (omega arith)
    go (set_row_kind q) = rw (set_lines L.route s e.first) (left (omega arith))
    go (cancel_row_kind q) = left (omega arith)
    go (secure_row_kind q) = left (omega arith)
    go (manual_row_kind q) = left (omega arith)
    go (bar_row_kind q) = left (omega arith)
    go (unbar_row q) = left (omega arith)
    go (second_row_kind q) = left (omega arith)
    go (count_row_kind q) = left (counted q)
      where
        counted : (e.kind ≡ 11) ⊎ (e.kind ≡ 12) → e.kind ≢ report_lamp
        counted (inl k) = omega arith
        counted (inr k) = omega arith
    go (silent_row_kind q) = left (omega arith)
    go (reset_row_kind q) = left (omega arith)
    go (lamp_row_kind q) = reported q
    go (no_row_kind u) = left u.others.no_lamp
