-- Boxes that are wrong in one thing of a stop that isn't shown (L3): the lamp of a block's far signal, stage 3 and what opens it, or 31. Each has a short run.
-- `proofs/WrongLamps` proves that with the box's own parts they are the step of a run.
use Rattle.std.specs.Prelude.{ℕ, ◌-◌, ◌*◌, ◌/◌, ◌%◌, Bool, true, not, List, [], ◌∷◌, ◌++◌, eqb, replicate}
use Rattle.laws.specs.Choice.{when◌then◌else◌}
use Rattle.laws.specs.Tests.{◌and◌, ◌or◌, any_below}
use Rattle.laws.specs.Tables.{each}
use Rattle.track.specs.Codes.{free, open_block, stage3, entrance_route, secure_line, report_lamp, lamp_stop, lamp_other, lamp_none}
use Rattle.track.specs.Sizes.{most_blocks, most_places, most_lamps}
use Rattle.track.specs.Objects.{route}
use Rattle.tables.specs.Blocks.{stage_of, is_open}
use Rattle.tables.specs.Locks.{locked}
use Rattle.passage.specs.Passage.{own_stage, departure, arrival, from_arrival}
use Rattle.lamps.specs.Lamps.{far_lamp}
use Rattle.line_block.specs.PassingBack.{no_opening, opens_beyond, passed_back}
use Rattle.layout.specs.declared.Layout.{Layout}
use Rattle.layout.specs.Layout.{line_in}
use Rattle.layout.specs.Load.{load}
use Rattle.refusals.specs.Orders.{secure_refusal}
use Rattle.interlocking.specs.declared.State.{State}
use Rattle.interlocking.specs.State.{tables_of, with_routes, with_lines, with_lamps}
use Rattle.interlocking.specs.Settle.{signals, far_sections, routes, arrivals, line_release}
use Rattle.step_facts.specs.Run.{Event, event}
use Rattle.safety.specs.OtherLayouts.{two_blocks, both_ends}
use Rattle.safety.specs.WrongBoxes.{Box, step_by, refuses, does, read_by, stop_lit, reads_by, secured}
use Rattle.safety.specs.WrongOrders.{refuses_by}
use Rattle.safety.specs.WrongRuns.{Run, released, gone, arrived_with, waiting, opened_by_route, both_opened, on_t, cold_run}

-- ---- the lamp

-- the box in which the lamp of a block's far signal counts as at stop by this test
abbrev lamps_by : (Layout → State → ℕ → ℕ → Bool) → Box
lamps_by lit = step_by refuses (read_by lit own_stage) signals far_sections routes arrivals line_release

-- what that lamp reports
abbrev far_code : Layout → State → ℕ → ℕ → ℕ
far_code L s l i = far_lamp L.signals L.line s.lamp l i (secured s l)

-- the lamp is not asked: a block that reads free in stage 2 opens
abbrev asks_no_lamp : Box
asks_no_lamp = lamps_by (λ L s l i. true)

-- a lamp that reports 2, another light lit, is taken for stop
abbrev takes_other : Box
takes_other = lamps_by (λ L s l i. stop_lit L s l i or eqb (far_code L s l i) lamp_other)

-- a lamp that reports none is taken for stop
abbrev takes_dark : Box
takes_dark = lamps_by (λ L s l i. stop_lit L s l i or eqb (far_code L s l i) lamp_none)

-- the next block after block i of line l is open: the one before it as blocks are counted from the arrival end
abbrev next_open : Layout → State → ℕ → ℕ → Bool
next_open L s l i =
    let d : ℕ = from_arrival (line_in L l) (secured s l) i in
    not (eqb d 0) and is_open s.stage l (from_arrival (line_in L l) (secured s l) (d - 1))

-- the next block being open already opens a block at once
abbrev opens_beside : Box
opens_beside = lamps_by (λ L s l i. stop_lit L s l i or next_open L s l i)

-- ---- stage 3

-- another free reading opens a block in stage 3
abbrev opens_again : Box
opens_again = reads_by (λ v lit was. when eqb v free and eqb was stage3 then open_block else own_stage v lit was)

-- a block in stage 3 waits on when it is given occupied or none
abbrev keeps_waiting : Box
keeps_waiting = reads_by (λ v lit was. when eqb was stage3 then stage3 else own_stage v lit was)

-- the blocks in stage 3 whose far signal's lamp reports stop are open
abbrev open_lit : Layout → State → State
open_lit L s =
    with_lines s s.direction
    (each (most_blocks * L.lines) (λ k was. when eqb was stage3 and stop_lit L s (k / most_blocks) (k % most_blocks) then open_block else was) s.stage)

-- a lamp that reports stop later opens a block in stage 3
abbrev opens_later : Box
opens_later =
    step_by refuses (λ L s e. when eqb e.kind report_lamp then open_lit L (does L s e) else does L s e) signals far_sections routes arrivals line_release

-- a state as it is seen where stage 3 is taken for open
abbrev as_open : State → State
as_open s = with_lines s s.direction (each most_places (λ k was. when eqb was stage3 then open_block else was) s.stage)

-- the box that sees the state so where it refuses and where exit signals fall
abbrev pub sees_by : (State → State) → Box
sees_by see =
    step_by (λ L s e. refuses L (see s) e) does (λ L s. with_routes s (signals L (see s)).phase s.steps s.seconds) far_sections routes arrivals line_release

-- stage 3 is not counted as held, by orders and by exit signals
abbrev takes_waiting : Box
takes_waiting = sees_by as_open

-- ---- what opens it

-- blocks that wait, where a block opens by the first, and an entrance route of the arrival end is released by the second
abbrev pub arrive_by : (Layout → State → State → ℕ → ℕ → Bool) → (Layout → State → State → ℕ → ℕ → Bool) → Layout → State → State → State
arrive_by opened arrived L before s =
    with_lines s s.direction (passed_back L.lines L.line s.direction (opened L before s) (arrived L before s) s.stage)

-- the box in which they open so
abbrev arrives_by : (Layout → State → State → ℕ → ℕ → Bool) → (Layout → State → State → ℕ → ℕ → Bool) → Box
arrives_by opened arrived = step_by refuses does signals far_sections routes (arrive_by opened arrived) line_release

-- one of the line's entrance routes at the end to which a direction goes was released
abbrev pub gone_at : (ℕ → ℕ) → Layout → State → State → ℕ → ℕ → Bool
gone_at end L before s l w =
    any_below L.routes (λ r. (locked before.phase r and not (locked s.phase r))
    and (eqb (route L.route r).kind entrance_route and (eqb (route L.route r).line l and eqb (route L.route r).end (end w))))

-- an entrance route of the departure end opens the last block
abbrev opens_behind : Box
opens_behind = arrives_by (λ L before s. no_opening) (gone_at departure)

-- an open block lets the opening through: what lies beyond it opens
abbrev through_open : Layout → State → State → ℕ → ℕ → Bool
through_open L before s l i =
    is_open s.stage l i and opens_beyond (line_in L l) s.stage no_opening (gone_at arrival L before s) l (secured s l) (from_arrival (line_in L l) (secured s l) i)

-- the passing back skips an open block
abbrev skips_open : Box
skips_open = arrives_by through_open (gone_at arrival)

-- an entrance route that is released opens nothing
abbrev never_arrives : Box
never_arrives = step_by refuses does signals far_sections routes (λ L before s. s) line_release

-- an opening does not pass back: an entrance route that is released opens the last block alone
abbrev opens_last_alone : Box
opens_last_alone =
    step_by refuses does signals far_sections routes
    (λ L before s. with_lines s s.direction
    (each (most_blocks * L.lines) (λ k was.
    when eqb (from_arrival (line_in L (k / most_blocks)) (secured s (k / most_blocks)) (k % most_blocks)) 0 then stage_of (arrivals L before s).stage (k / most_blocks) (k % most_blocks) else was) s.stage))
    line_release

-- ---- 31

-- 31 is not asked: as if every lamp reported stop
abbrev asks_no31 : Box
asks_no31 = refuses_by secure_line (λ L s l w. secure_refusal L (tables_of (with_lamps s (replicate most_lamps lamp_stop))) l w)

-- 31 is asked of the departure end: as if the line were secured the other way
abbrev asks_departure : Box
asks_departure = refuses_by secure_line (λ L s l w. secure_refusal L (tables_of s) l (3 - w))

-- ---- the runs

-- the lamp reports stop, the line is secured again, and route 0 set for another train
abbrev another : List Event
another = event 15 2 1 ∷ event 6 0 1 ∷ event 4 0 0 ∷ []

-- a train in the first of two blocks goes on to the second and arrives at B; the second reads free, and then the first, whose far lamp has reported nothing
abbrev out_of_order : List Event
out_of_order = gone ++ (event 1 2 2 ∷ event 1 3 2 ∷ event 1 2 1 ∷ event 1 1 1 ∷ [])

-- the runs after which a signal shows proceed into a block that was not cleared
abbrev pub let_in_waiting : List Run
let_in_waiting =
    -- the lamp is not asked: it reports none as the train arrives, and another is let into the block
    on_t asks_no_lamp (waiting ++ another)
    -- 2 is taken for stop: the entrance signal shows another light as the train arrives
    ∷ on_t takes_other (arrived_with 2 ++ another)
    -- none is taken for stop
    ∷ on_t takes_dark (waiting ++ another)
    -- the lamp reports stop once the block waits
    ∷ on_t opens_later (waiting ++ another)
    -- the block reads free once more
    ∷ on_t opens_again (waiting ++ (event 1 1 1 ∷ another))
    -- the first of two blocks waits, is entered again and reads free with no passage; the second opens
    ∷ cold_run keeps_waiting (load two_blocks).layout
    (gone ++ (event 1 2 2 ∷ event 1 1 1 ∷ event 1 1 2 ∷ event 1 1 1 ∷ event 1 3 2 ∷ event 1 2 1 ∷ event 6 0 1 ∷ event 4 0 0 ∷ []))
    -- the second of two blocks is open when the first reads free
    ∷ cold_run opens_beside (load two_blocks).layout (out_of_order ++ (event 4 0 0 ∷ []))
    -- a train comes in at A by route 2 while the block waits
    ∷ cold_run opens_behind (load both_ends).layout (waiting ++ (event 4 2 0 ∷ event 1 0 2 ∷ event 1 4 2 ∷ event 1 0 1 ∷ another))
    -- the train leaves its route in at B: the second block is open, and the first waits
    ∷ cold_run skips_open (load two_blocks).layout (out_of_order ++ (event 1 4 2 ∷ event 1 3 1 ∷ event 4 0 0 ∷ []))
    -- a train is let into the first of two blocks, which waits
    ∷ cold_run takes_waiting (load two_blocks).layout (gone ++ (event 1 2 2 ∷ event 1 1 1 ∷ event 4 0 0 ∷ []))
    ∷ []

-- the runs after which a block does not show what the history tells: it still waits
abbrev pub left_waiting : List Run
left_waiting =
    -- nothing opens by an entrance route: the train's route in at B is released
    on_t never_arrives opened_by_route
    -- the last block alone opens: both of two blocks wait, their far lamps being dark, and the train's route in at B is released
    ∷ cold_run opens_last_alone (load two_blocks).layout both_opened
    ∷ []

-- ---- runs whose last event is accepted and should not have been

-- 31 is not asked: the line is secured before any lamp has reported
abbrev pub secured_dark : Run
secured_dark = on_t asks_no31 (released ++ (event 6 0 1 ∷ []))

-- 31 is asked of the departure end: the lamp at A reports stop, the one at B nothing, and the line is secured from A to B
abbrev pub secured_behind : Run
secured_behind = on_t asks_departure (released ++ (event 15 1 1 ∷ event 6 0 1 ∷ []))
