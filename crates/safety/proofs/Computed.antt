-- What a run on branch T is computed with, and besides one with heads (L1).
use Prim.Native.Nat.{ℕ}
use Rattle.laws.specs.Choice.{when◌then◌else◌}
use Rattle.laws.specs.Tests.{◌and◌, ◌or◌, implies, every, all_below, any_below, lowest_from, lowest}
use Rattle.laws.specs.Tables.{iter, table_from, table, read, each_from, each, put, join}
use Rattle.laws.specs.Totals.{bit}
use Rattle.sets.specs.Sets.{holds, joined, merged_set, add_entry, set_of}
use Rattle.tables.specs.Readings.{recorded, given, reading, block_given, block_reading, point_reading, all_free, in_position, line_placed, route_placed}
use Rattle.track.specs.Codes.{leaving}
use Rattle.track.specs.Objects.{nearest}
use Rattle.track.specs.Signal.{has_signal}
use Rattle.track.specs.SignalNumbers.{line_signals, block_signals, all_signals, signal_count, signal_of, number_of}
use Rattle.track.specs.Blocks.{in_block, facing, block_detail, line_sections}
use Rattle.tables.specs.Blocks.{place, stage_of, is_open, unbarred}
use Rattle.signals.specs.Signals.{enterable_by, enterable, lets_out, clear, fallen, route_proceeds, main_proceeds, block_proceeds}
use Rattle.signals.specs.MainSignals.{proceed_shown, shown_by, shown_for, main_shows}
use Rattle.signals.specs.BlockSignals.{light_shown, block_shows}
use Rattle.signals.specs.Shows.{shows_with, shows, number_shows}
use Rattle.signals.specs.Distants.{warning, stop_or_dark, carrier_darkens, distant_shows}
use Rattle.passage.specs.Passage.{free_stage, own_stage, departure, arrival, beyond, section_at, signal_at, from_arrival, far_section, far_signal, far_stage}
use Rattle.lamps.specs.Lamps.{lamp_of, reports_none, far_lamp, far_stop_lit}
use Rattle.line_block.specs.OwnReadings.{own_given, own_stage_at, given_stages, own_stages}
use Rattle.line_block.specs.PassingBack.{goes_open, no_opening, released_entrance_by, arrives, no_arrival, opens_beyond, waited_stage, waited_stage_at, passed_back}
use Rattle.line_block.specs.FarSections.{drops, far_moved, far_stage_at, far_stages}
use Rattle.line_block.specs.LineRelease.{last_block, passable, was_passed, ends_by, direction_after, directions_after}
use Rattle.release.specs.Release.{watched_section, watched_block, exit_pair, path_pair, watched_pair, steps_after, to_vacate, end_reading, vacated, seconds_after, goes, locking_after}
use Rattle.fields.specs.Fields.{none_or_reference}
use Rattle.file_objects.specs.Distants.{no_distants, distant_turn, distants_from}
use Rattle.rules.specs.Rules.{announces_carrier}
use Rattle.layout.specs.Layout.{carrier_of, announced_by, is_fitted}
use Rattle.layout_facts.specs.Plain.{inner_section, entrance_signal, nearest_block, path, overlap, route_point, route_position, line_point, line_position}
use Rattle.layout_facts.specs.Plain as plain
use Rattle.layout_facts.proofs.BranchT.{computed}
use Rattle.fitted.specs.Fitted.{any_of, is_told, lacks, told_by, with_told, equipped}
use Rattle.reasons.specs.Refusal.{refused, no_refusal, refused_if, found, first_of}
use Rattle.reasons.specs.Searches.{unfree, misplaced, route_locks, line_locks, failing}
use Rattle.tables.specs.Locks.{locked, locked_exit_by, locked_exit, departs}
use Rattle.reasons.specs.Reasons.{not_free, not_placed, conflicting, by_route, by_line, exit_locked, block_barred, block_held, arrival_dark, no_heads, has_heads}
use Rattle.refusals.specs.Orders.{throw_refusal, way_refusal, exit_refusal, route_refusal, set_refusal, cancel_refusal, secure_refusal, manual_refusal}
use Rattle.refusals.specs.Events.{numbers_refusal}
use Rattle.interlocking.specs.State.{cold, codes, routes_and_lines_in_range, in_range, heads_at, with_sections, with_points, with_routes, with_lines, with_bars, with_axles, with_lamps}
use Rattle.interlocking.specs.Own.{own_section, own_point, throw_reading, own_throw, own_lock, secure_first, own_set, own_cancel, own_secure, open_at, own_manual, own_bar, head_section, heads_of, heads_by, own_heads, own_lamp}
use Rattle.interlocking.specs.Parts.{is_of_heads}
use Rattle.interlocking.specs.Settle.{fallen_at, signals, proceeds_in, far_sections, locking_of, route_after, unless_idle, routes_by, routes, arrivals, line_release, settle}
use Rattle.interlocking.specs.Rows.{nothing, gives_reading, a_second, section_row, point_row, throw_row, set_row, cancel_row, secure_row, manual_row, bar_row, second_row, head_row, count_row, silent_row, reset_row, still_silent, lamp_row, no_row, row_with, row_of}
use Rattle.interlocking.specs.Step.{row_refusal, answered_by, step_where, step, asked_in_run, step_in_run, refusal, own, gives, after}
use Rattle.axles.specs.Rounds.{around, signed}
use Rattle.axles.specs.Heads.{silent_head, cold_heads, speaks, speaking, head_after, net, number, reading_of, occupies, resets, sum_after, proof_after, with_proof, proves, judged, axles_after, known, axles_reading}
use Rattle.axles.specs.Heads as heads
use Rattle.axles.specs.HeadLog.{says, has_told, last_told, both_speak, net_told, is_reset, resets_in, net_at_reset, number_told, occupies_told, was_reset, proved_told, reading_told}
use Rattle.panel.specs.Panel.{blocks, route_byte, signal_shows, distant_byte, block_bytes, line_bytes, image, panel_length, drawn_where, drawn}
use Rattle.panel.specs.Panel as panels
use Rattle.step_facts.specs.Run.{box, box_in_run, state_after, answers, from_cold}
use Rattle.panel.specs.Shown.{section_shown, point_shown, signal_shown, route_shown, distant_shown, line_shown, block_shown}
use Rattle.safety.specs.Said.{named, of_heads, said_of, takes_effect}
use Rattle.safety.specs.History.{gave_by_reading, gave_by_heads, head_log, gave_section, reads, lamp_told, shown, moment, goes_on, history}
use Rattle.safety.specs.Locked.{gave_first, gave_second, seconds_since}
use Rattle.safety.specs.Lights.{position}

-- whoever unfolds this unfolds all that a run, its history and what shows in it are made of
unfoldable pub run_computed : ℕ
unfolding computed
    when◌then◌else◌ ◌and◌ ◌or◌ implies every all_below any_below lowest_from lowest iter table_from table read each_from each put holds joined merged_set add_entry set_of
    recorded reading point_reading all_free in_position line_placed route_placed place stage_of nearest is_open unbarred enterable enterable_by lets_out clear fallen route_proceeds main_proceeds block_proceeds
    in_block facing block_detail line_sections block_reading block_given
    free_stage own_stage departure arrival beyond section_at signal_at from_arrival far_section far_signal far_stage drops far_moved far_stage_at far_stages
    line_signals block_signals all_signals signal_count number_of lamp_of reports_none far_lamp far_stop_lit
    goes_open no_opening released_entrance_by arrives no_arrival opens_beyond waited_stage waited_stage_at passed_back
    given watched_section watched_block exit_pair path_pair watched_pair steps_after to_vacate end_reading vacated seconds_after goes locking_after
    inner_section entrance_signal nearest_block
    refused no_refusal refused_if found first_of unfree not_free misplaced not_placed locked conflicting by_route by_line exit_locked block_barred block_held arrival_dark has_heads
    route_locks line_locks failing locked_exit_by locked_exit
    throw_refusal secure_refusal departs leaving way_refusal exit_refusal route_refusal set_refusal cancel_refusal manual_refusal
    cold codes routes_and_lines_in_range in_range with_sections with_points with_routes with_lines with_bars with_lamps
    own_given own_stage_at given_stages own_stages own_section own_point throw_reading own_throw own_lock secure_first own_set own_cancel own_secure open_at own_manual own_bar own_lamp
    fallen_at signals proceeds_in far_sections locking_of route_after unless_idle routes_by routes arrivals
    last_block passable was_passed ends_by direction_after directions_after line_release settle
    numbers_refusal nothing gives_reading a_second section_row point_row throw_row set_row cancel_row secure_row manual_row bar_row second_row lamp_row no_row row_with row_of
    row_refusal answered_by step_where step asked_in_run step_in_run refusal own gives after
    join blocks proceed_shown shown_by shown_for main_shows route_byte has_signal light_shown block_shows block_bytes line_bytes image panel_length panels.refused panels.answer_where panels.answer drawn_where drawn
    box box_in_run state_after answers from_cold shows_with shows section_shown point_shown signal_shown route_shown distant_shown line_shown block_shown is_fitted gave_by_reading gave_section reads lamp_told shown moment goes_on history
    gave_first gave_second seconds_since position plain.own_section path overlap route_point route_position line_point line_position
run_computed = 0

-- whoever unfolds this besides unfolds all that distants are made of (L2)
unfoldable pub distants_computed : ℕ
unfolding none_or_reference no_distants distant_turn distants_from announces_carrier carrier_of announced_by signal_of
    number_shows warning stop_or_dark carrier_darkens distant_shows signal_shows distant_byte
distants_computed = 0

-- whoever unfolds this besides unfolds all that fitted sections, heads and the logs of them are made of (L1)
unfoldable pub heads_computed : ℕ
unfolding equipped with_told told_by is_told lacks any_of bit around signed
    silent_head cold_heads speaks speaking head_after net number reading_of occupies resets sum_after proof_after heads.told with_proof proves judged axles_after known axles_reading
    says has_told last_told both_speak net_told is_reset resets_in net_at_reset number_told occupies_told was_reset proved_told reading_told
    heads_at with_axles is_of_heads head_section heads_of heads_by own_heads no_heads head_row count_row silent_row reset_row still_silent
    named of_heads said_of takes_effect gave_by_heads head_log
heads_computed = 0
