-- Boxes that are wrong in one thing, for demand 3 to refuse: the step of a run with one of its parts done another way, as an error that looks reasonable
-- would (section 9), or with one guard left out. `proofs/WrongBoxes` proves that with the step's own parts they are the step of a run, so each differs from
-- it in that alone; `WrongRuns` has a run of each that shows it. `WrongOrders` has the boxes that are wrong in what they refuse of an order, `WrongHeads` those
-- that are wrong in axle counters, `WrongLamps` those that are wrong in lamps and stage 3,
-- `WrongDepartures` those that are wrong in one order for departure.
use Rattle.std.specs.Prelude.{ℕ, ◌*◌, ◌/◌, ◌%◌, Bool, true, false, not, List, [], ◌∷◌, eqb, replicate}
use Rattle.laws.specs.Choice.{when◌then◌else◌}
use Rattle.laws.specs.Tests.{◌and◌, every, all_below, any_below}
use Rattle.laws.specs.Tables.{each, put}
use Rattle.track.specs.Codes.{free, occupied, reads_none, exit_route, neutral, a_to_b, open_block, stage0, stage1, stage2, at_proceed, at_stop, read_section, cancel_route, release_line, unbar_block}
use Rattle.track.specs.Sizes.{most_sections, most_blocks, most_places, most_train_routes}
use Rattle.track.specs.Objects.{line, route}
use Rattle.tables.specs.Readings.{recorded, all_free}
use Rattle.tables.specs.Blocks.{stage_of, is_open, unbarred}
use Rattle.passage.specs.Passage.{own_stage, far_stage}
use Rattle.tables.specs.declared.Gives.{Gives}
use Rattle.layout.specs.declared.Layout.{Layout}
use Rattle.reasons.specs.Refusal.{Refusal, refused_if, first_of}
use Rattle.tables.specs.Locks.{direction, phase, locked_exit}
use Rattle.lamps.specs.Lamps.{far_stop_lit}
use Rattle.line_block.specs.OwnReadings.{own_given}
use Rattle.line_block.specs.PassingBack.{goes_open, no_arrival, passed_back}
use Rattle.line_block.specs.LineRelease.{last_block, passable, was_passed, direction_after}
use Rattle.interlocking.specs.declared.State.{State}
use Rattle.interlocking.specs.declared.Answer.{Answer}
use Rattle.interlocking.specs.State.{cold, with_sections, with_routes, with_lines}
use Rattle.interlocking.specs.Settle.{signals, far_sections, routes, arrivals, line_release}
use Rattle.interlocking.specs.Step.{asked_in_run, refusal, own, gives}
use Rattle.step_facts.specs.Run.{Event}
use Rattle.step_facts.specs.FarInState.{far_reading, far_proceeds, far_dropped}

-- ---- a step from its parts: what is refused; what the event does itself; then signals, far sections, routes, blocks that wait (L3), line release (section 5)

-- a box: in each state, for each event, an answer with the next state
abbrev pub Box : Type 0
Box = Layout → State → Event → Answer

-- a refusal leaves the state as it was; else there is a next one
abbrev pub answers_by : (Layout → State → Event → Refusal) → (Layout → State → Event → State) → Box
answers_by refuse next L s e =
    when eqb (refuse L s e).number 0 then record { number = 0; detail = 0; next = next L s e }
    else record { number = (refuse L s e).number; detail = (refuse L s e).detail; next = s }

-- which is made by one part after the other
abbrev pub step_by : (Layout → State → Event → Refusal) → (Layout → State → Event → State) → (Layout → State → State) → (Layout → State → State → State)
    → (Layout → State → Gives → State) → (Layout → State → State → State) → (Layout → State → State → State) → Box
step_by refuse act light move free arrive end =
    answers_by refuse (λ L s e. end L s (arrive L s (free L (move L s (light L (act L s e))) (gives L s e.kind e.first e.second))))

-- what is refused, soundness being asked before the first event
abbrev pub refuses : Layout → State → Event → Refusal
refuses L s e = refusal (asked_in_run L) L s e.kind e.first e.second

-- what an event does itself
abbrev pub does : Layout → State → Event → State
does L s e = own L s e.kind e.first e.second

-- ---- what is refused

-- section 9: code 0 is refused, and the stored reading kept
abbrev pub refuses_none : Box
refuses_none = step_by (λ L s e. first_of (refused_if (eqb e.kind read_section and eqb e.second 0) 3 0 ∷ refuses L s e ∷ [])) does signals far_sections routes arrivals line_release

-- ---- a block's own reading

-- what a reading gives
abbrev pub given_by : Event → Gives
given_by e = record { section = e.first; reading = recorded e.second; tick = 0 }

-- the stages of all blocks by what a reading gives them: where the far signal's lamp of a block counts as at stop (L3) by the test, the stage of the block
-- becomes this
abbrev stages_by : (Layout → State → ℕ → ℕ → Bool) → (ℕ → Bool → ℕ → ℕ) → Layout → State → Event → List ℕ
stages_by lit stage L s e =
    each (most_blocks * L.lines)
    (λ k was. stage (own_given (given_by e) (line L.line (k / most_blocks)) (k % most_blocks)) (lit L s (k / most_blocks) (k % most_blocks)) was) s.stage

-- what an event does itself, where a reading takes blocks so from stage to stage; an opening passes back
abbrev pub read_by : (Layout → State → ℕ → ℕ → Bool) → (ℕ → Bool → ℕ → ℕ) → Layout → State → Event → State
read_by lit stage L s e =
    when eqb e.kind read_section then with_sections (does L s e) (does L s e).section
    (passed_back L.lines L.line s.direction (goes_open s.stage (stages_by lit stage L s e)) no_arrival (stages_by lit stage L s e))
    else does L s e

-- that lamp reports stop
abbrev pub stop_lit : Layout → State → ℕ → ℕ → Bool
stop_lit L s l i = far_stop_lit L.signals L.line s.lamp l i (direction s.direction l)

-- the box that reads so
abbrev pub reads_by : (ℕ → Bool → ℕ → ℕ) → Box
reads_by stage = step_by refuses (read_by stop_lit stage) signals far_sections routes arrivals line_release

-- section 9: a block opens because it reads free again
abbrev pub opens_free : Box
opens_free = reads_by (λ v lit was. when eqb v free then open_block else own_stage v lit was)

-- section 5: none of the block is passed over, so that a passage is counted with a none between
abbrev pub passes_none : Box
passes_none = reads_by (λ v lit was. when eqb v reads_none then was else own_stage v lit was)

-- none is taken as occupied
abbrev pub takes_none : Box
takes_none = reads_by (λ v lit was. own_stage (when eqb v reads_none then occupied else v) lit was)

-- free leaves stage 1 as it is
abbrev pub keeps_stage1 : Box
keeps_stage1 = reads_by (λ v lit was. when eqb v free and eqb was stage1 then stage1 else own_stage v lit was)

-- ---- far sections (section 5)

-- far sections, where a line has this direction, and in it the stage of its block i becomes that
abbrev pub move_by : (State → ℕ → ℕ) → (Layout → State → State → ℕ → ℕ → ℕ → ℕ → ℕ) → Layout → State → State → State
move_by way stage L before s =
    with_lines s s.direction
    (each (most_blocks * L.lines) (λ k was. when eqb (way s (k / most_blocks)) neutral then was else stage L before s (k / most_blocks) (k % most_blocks) (way s (k / most_blocks)) was) s.stage)

-- the box that moves its blocks so
abbrev moves_by : (State → ℕ → ℕ) → (Layout → State → State → ℕ → ℕ → ℕ → ℕ → ℕ) → Box
moves_by way stage = step_by refuses does signals (move_by way stage) routes arrivals line_release

-- the direction that the line is secured in
abbrev pub secured : State → ℕ → ℕ
secured s l = direction s.direction l

-- section 9: a signal already at stop counts as changed to stop
abbrev pub counts_stopped : Box
counts_stopped = moves_by secured (λ L before s l i w was. far_stage (far_reading L s l i w) (not (far_proceeds L s l i w)) was)

-- the far signal is not asked
abbrev pub asks_no_signal : Box
asks_no_signal = moves_by secured (λ L before s l i w was. far_stage (far_reading L s l i w) true was)

-- the far section need not read occupied
abbrev pub asks_no_arrival : Box
asks_no_arrival = moves_by secured (λ L before s l i w was. far_stage (when eqb (far_reading L s l i w) reads_none then reads_none else occupied) (far_dropped L before s l i w) was)

-- none of the far section is passed over
abbrev pub passes_far_none : Box
passes_far_none = moves_by secured (λ L before s l i w was. far_stage (when eqb (far_reading L s l i w) reads_none then free else far_reading L s l i w) (far_dropped L before s l i w) was)

-- a block in stage 0 goes to 2 as well as one in stage 1
abbrev pub asks_no_entry : Box
asks_no_entry = moves_by secured (λ L before s l i w was.
    when eqb was stage0 and eqb (far_stage (far_reading L s l i w) (far_dropped L before s l i w) stage1) stage2 then stage2
    else far_stage (far_reading L s l i w) (far_dropped L before s l i w) was)

-- the direction that a line is secured in, and A to B in neutral
abbrev up_in_neutral : State → ℕ → ℕ
up_in_neutral s l = when eqb (secured s l) neutral then a_to_b else secured s l

-- in neutral far section and far signal are those of A to B
abbrev pub moves_in_neutral : Box
moves_in_neutral =
    step_by refuses (read_by (λ L s l i. far_stop_lit L.signals L.line s.lamp l i (up_in_neutral s l)) own_stage) signals
    (move_by up_in_neutral (λ L before s l i w was. far_stage (far_reading L s l i w) (far_dropped L before s l i w) was)) routes arrivals line_release

-- ---- signals and manual release

-- section 4: a signal never falls
abbrev pub never_falls : Box
never_falls = step_by refuses does (λ L s. s) far_sections routes arrivals line_release

-- every fallen exit signal is at proceed again
abbrev raised : Layout → State → State
raised L s =
    with_routes s (each L.routes (λ r was. when eqb was at_stop and eqb (route L.route r).kind exit_route then at_proceed else was) s.phase) s.steps s.seconds

-- section 9: a cleared bar brings back a fallen exit signal, where it has all that keeps it at proceed
abbrev pub brings_back : Box
brings_back = step_by refuses (λ L s e. when eqb e.kind unbar_block then raised L (does L s e) else does L s e) signals far_sections routes arrivals line_release

-- section 3: a manual release opens the blocks of every line
abbrev pub releases_all : Box
releases_all =
    step_by refuses (λ L s e. when eqb e.kind release_line then with_lines (does L s e) (does L s e).direction (replicate most_places open_block) else does L s e)
    signals far_sections routes arrivals line_release

-- ---- letting a route go (section 6)

-- cancel is granted, and the signal stays as it is
abbrev pub never_cancels : Box
never_cancels = step_by refuses (λ L s e. when eqb e.kind cancel_route then s else does L s e) signals far_sections routes arrivals line_release

-- route r has waited one second
abbrev counted : State → ℕ → State
counted s r = with_routes s s.phase s.steps (put most_train_routes s.seconds r 1)

-- section 9: the cancel wait ends at 89: the cancel counts as a second
abbrev pub waits89 : Box
waits89 = step_by refuses (λ L s e. when eqb e.kind cancel_route then counted (does L s e) e.first else does L s e) signals far_sections routes arrivals line_release

-- the second step is not asked: a route that has done the first goes on as from the second
abbrev pub asks_no_second : Box
asks_no_second =
    step_by refuses does signals far_sections
    (λ L s g. routes L (with_routes s s.phase (each L.routes (λ r was. when eqb was 1 then 2 else was) s.steps) s.seconds) g) arrivals line_release

-- the overlap of route r reads free
abbrev overlap_free : Layout → State → ℕ → Bool
overlap_free L s r = all_free s.section (route L.route r).overlaps (route L.route r).overlap

-- a route whose overlap does not read free is not let go
abbrev pub keeps_overlap : Box
keeps_overlap =
    step_by refuses does signals far_sections
    (λ L s g. with_routes s (each L.routes (λ r was. when overlap_free L s r then phase (routes L s g).phase r else was) s.phase) (routes L s g).steps (routes L s g).seconds)
    arrivals line_release

-- ---- line release (section 5)

-- line release, where a secured line becomes neutral if this holds
abbrev pub end_by : (Layout → State → State → ℕ → ℕ → Bool) → Layout → State → State → State
end_by ended L before s =
    with_lines s (each L.lines (direction_after (ended L before s)) s.direction) s.stage

-- the box that releases lines so
abbrev ends_where : (Layout → State → State → ℕ → ℕ → Bool) → Box
ends_where ended = step_by refuses does signals far_sections routes arrivals (end_by ended)

-- no exit route of the line is locked
abbrev unlocked : Layout → State → ℕ → Bool
unlocked L s l = not (any_below L.routes (locked_exit L.route s.phase l))

-- line release is left out
abbrev pub never_ends : Box
never_ends = ends_where (λ L before s l w. false)

-- a locked exit route is not asked
abbrev pub ends_locked : Box
ends_locked = ends_where (λ L before s l w. was_passed before.stage (line L.line l) l w and all_below (line L.line l).blocks (passable s.stage s.bar l))

-- a held block is not asked, but for the last in travel
abbrev pub ends_held : Box
ends_held =
    ends_where (λ L before s l w. every (
    was_passed before.stage (line L.line l) l w
    ∷ is_open s.stage l (last_block (line L.line l) w)
    ∷ all_below (line L.line l).blocks (unbarred s.bar l)
    ∷ unlocked L s l
    ∷ []))

-- a bar is not asked
abbrev pub ends_barred : Box
ends_barred =
    ends_where (λ L before s l w. every (was_passed before.stage (line L.line l) l w ∷ all_below (line L.line l).blocks (is_open s.stage l) ∷ unlocked L s l ∷ []))

-- it is not asked that the last block in travel went from stage 2 or 3 to open
abbrev pub ends_unpassed : Box
ends_unpassed = ends_where (λ L before s l w. all_below (line L.line l).blocks (passable s.stage s.bar l) and unlocked L s l)

-- a last block that opens from stage 3 does not count (L3)
abbrev pub ends_from_stage2 : Box
ends_from_stage2 =
    ends_where (λ L before s l w. every (
    eqb (stage_of before.stage l (last_block (line L.line l) w)) stage2
    ∷ all_below (line L.line l).blocks (passable s.stage s.bar l)
    ∷ unlocked L s l
    ∷ []))

-- ---- the cold start (sections 1 and 5)

-- blocks are open
abbrev pub cold_open : State
cold_open = with_lines cold cold.direction (replicate most_places open_block)

-- sections read free
abbrev pub cold_free : State
cold_free = with_sections cold (replicate most_sections free) cold.stage
