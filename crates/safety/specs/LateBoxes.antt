-- Boxes that never do what they should, or do it late, and some that do it too soon where demand 3 asks nothing: exactness refuses them. A run of each
-- shows it.
use Rattle.std.specs.Prelude.{ℕ, ◌<◌, ◌*◌, ◌/◌, ◌%◌, ◌≢◌, ◌⊎◌, ◌≡◌, List, [], ◌∷◌, ◌++◌, eqb, replicate}
use Rattle.laws.specs.Choice.{when◌then◌else◌}
use Rattle.laws.specs.Tests.{◌and◌}
use Rattle.laws.specs.Tables.{each, put}
use Rattle.track.specs.Codes.{free, occupied, neutral, a_to_b, b_to_a, open_block, stage0, stage2, at_stop, throw_point, set_route, release_line, one_second}
use Rattle.track.specs.Sizes.{most_lines, most_blocks, most_routes}
use Rattle.track.specs.Objects.{line}
use Rattle.tables.specs.Readings.{block_reading}
use Rattle.passage.specs.Passage.{own_stage}
use Rattle.layout.specs.declared.Layout.{Layout}
use Rattle.layout.specs.Layout.{line_in}
use Rattle.interlocking.specs.State.{with_points, with_routes, with_lines}
use Rattle.interlocking.specs.Settle.{signals, far_sections, routes, arrivals, line_release}
use Rattle.step_facts.specs.Run.{event}
use Rattle.safety.specs.Cases.{p4}
use Rattle.safety.specs.History.{History, section_reads, shown}
use Rattle.safety.specs.Lights.{position}
use Rattle.safety.specs.Exact.{BlockExact, LineExact, RouteExact, MainSignalExact, BlockSignalExact}
use Rattle.safety.specs.WrongBoxes.{Box, step_by, refuses, does, read_by, stop_lit, reads_by, refuses_none, waits89}
use Rattle.safety.specs.WrongPanels.{lit_by, never_lit}
use Rattle.safety.specs.WrongRuns.{Run, readings, released, opened, let_out, gone, on_t, drawn_by, brought_back, overlap_kept, wrongly_ended}

-- ---- points

-- a throw leaves what the point reads
abbrev throws_blindly : Box
throws_blindly =
    step_by refuses (λ L s e. when eqb e.kind throw_point then with_points (does L s e) s.point (does L s e).order else does L s e)
    signals far_sections routes arrivals line_release

-- ---- blocks

-- occupied leaves a block in stage 0
abbrev never_enters : Box
never_enters = reads_by (λ v lit was. when eqb v occupied then stage0 else own_stage v lit was)

-- far sections are left out
abbrev never_passes : Box
never_passes = step_by refuses does signals (λ L before s. s) routes arrivals line_release

-- the free reading that closes a passage opens nothing
abbrev never_opens : Box
never_opens = reads_by (λ v lit was. when eqb v free and eqb was stage2 then stage0 else own_stage v lit was)

-- the block opens with the next second only
abbrev opens_late : Box
opens_late =
    step_by refuses (λ L s e. when eqb e.kind one_second then with_lines (does L s e) s.direction
    (each (most_blocks * L.lines) (λ k was.
    when eqb was stage2 and eqb (block_reading s.section (line L.line (k / most_blocks)) (k % most_blocks)) free then open_block else was) s.stage)
    else read_by stop_lit (λ v lit was. when eqb v free and eqb was stage2 then stage2 else own_stage v lit was) L s e)
    signals far_sections routes arrivals line_release

-- a manual release makes the line neutral and opens nothing
abbrev hand_opens_nothing : Box
hand_opens_nothing =
    step_by refuses (λ L s e. when eqb e.kind release_line then with_lines s (put most_lines s.direction e.first neutral) s.stage else does L s e)
    signals far_sections routes arrivals line_release

-- ---- routes and signals

-- a route is never let go
abbrev never_lets_go : Box
never_lets_go = step_by refuses does signals far_sections (λ L s g. s) arrivals line_release

-- the signal of a route that is set stays at stop
abbrev never_clears : Box
never_clears =
    step_by refuses (λ L s e. when eqb e.kind set_route then with_routes (does L s e) (put most_routes s.phase e.first at_stop) s.steps s.seconds else does L s e)
    signals far_sections routes arrivals line_release

-- ---- what is not exact

-- a part of what shows
pub data Part : Type 0 where
  a_section : Part
  a_point : Part
  a_block : Part
  a_line : Part
  a_route : Part
  a_main : Part
  a_block_signal : Part

-- one of its objects does not show what the history tells
abbrev pub Inexact : Part → Layout → History → Type 0
Inexact a_section L h = (g : ℕ) × (g < L.sections) × ((shown L h).section g ≢ section_reads L g h)
Inexact a_point L h = (p : ℕ) × (p < L.points) × ((shown L h).point p ≢ position p h)
Inexact a_block L h = (l i : ℕ) × (l < L.lines) × (i < (line_in L l).blocks) × ¬ BlockExact L h l i
Inexact a_line L h = (l : ℕ) × (l < L.lines) × ¬ LineExact L h l
Inexact a_route L h = (r : ℕ) × (r < L.routes) × ¬ RouteExact L h r
Inexact a_main L h = (x : ℕ) × (x < L.signals) × ¬ MainSignalExact L h x
Inexact a_block_signal L h =
    (l i w : ℕ) × (l < L.lines) × (i < (line_in L l).blocks) × ((w ≡ a_to_b) ⊎ (w ≡ b_to_a)) × ¬ BlockSignalExact L h l i w

-- the runs, by what is not exact after them
abbrev pub late : Part → List Run
late a_section =
    -- section 9: code 0 refused, the stored free kept
    on_t refuses_none (readings ++ (event 1 1 0 ∷ []))
    ∷ []
late a_point =
    -- a throw leaves the reading: point 0 is thrown to the right and still shows left
    on_t throws_blindly (readings ++ (event 3 0 2 ∷ []))
    ∷ []
late a_block =
    -- own reading: occupied does not take the block: P3
    on_t never_enters gone
    -- far section left out: the train arrives at B
    ∷ on_t never_passes (gone ++ (event 1 2 2 ∷ []))
    -- own reading: free after a passage does not open the block: P4
    ∷ on_t never_opens (gone ++ p4)
    -- it opens it one second late: P4
    ∷ on_t opens_late (gone ++ p4)
    -- manual release opens nothing
    ∷ on_t hand_opens_nothing released
    ∷ []
late a_line = wrongly_ended
late a_route =
    -- section 9: the cancel wait ends at 89
    on_t waits89 (let_out ++ (event 5 0 0 ∷ replicate 89 (event 10 0 0)))
    -- a route is never let go: P3
    ∷ on_t never_lets_go gone
    -- its overlap must read free
    ∷ overlap_kept
    ∷ []
late a_main =
    -- section 9: a cleared bar brings back a fallen exit signal
    brought_back
    -- the signal of a route that is set stays at stop
    ∷ on_t never_clears let_out
    ∷ []
late a_block_signal =
    -- panel: block signals are dark always
    drawn_by (lit_by never_lit) opened
    ∷ []
