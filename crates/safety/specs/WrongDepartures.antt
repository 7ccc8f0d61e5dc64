-- Boxes that are wrong in one order for departure (L5): in what is asked of a neutral line, or in what becomes of it. Each has a short run.
use Rattle.std.specs.Prelude.{◌-◌, [], ◌∷◌, ◌++◌, eqb, replicate}
use Rattle.laws.specs.Choice.{when◌then◌else◌}
use Rattle.laws.specs.Tests.{◌and◌}
use Rattle.track.specs.declared.Route.{Route}
use Rattle.track.specs.Codes.{leaving, set_route, secure_line, lamp_stop}
use Rattle.track.specs.Sizes.{most_lamps}
use Rattle.track.specs.Objects.{route}
use Rattle.tables.specs.Locks.{departs}
use Rattle.layout.specs.declared.Layout.{Layout}
use Rattle.layout.specs.Load.{load}
use Rattle.refusals.specs.Orders.{set_refusal}
use Rattle.interlocking.specs.declared.State.{State}
use Rattle.interlocking.specs.declared.Answer.{Answer}
use Rattle.interlocking.specs.State.{tables_of, with_lamps}
use Rattle.interlocking.specs.Own.{own_secure, own_lock, secure_first}
use Rattle.interlocking.specs.Settle.{signals, far_sections, routes, arrivals, line_release}
use Rattle.step_facts.specs.Run.{Event, event, box_in_run}
use Rattle.safety.specs.OtherLayouts.{two_blocks}
use Rattle.safety.specs.WrongBoxes.{Box, step_by, refuses, does}
use Rattle.safety.specs.WrongOrders.{refuses_by}
use Rattle.safety.specs.WrongRuns.{Run, released, on_t, cold_run}

-- the route that an event names
abbrev named : Layout → Event → Route
named L e = route L.route e.first

-- ---- what becomes of the line

-- secures and then refuses: the first half is done by itself, and stays when the second is refused
abbrev stays_secured : Box
stays_secured L s e =
    let first : Answer = box_in_run L s (event secure_line (named L e).line (leaving (named L e).end)) in
    let second : Answer = box_in_run L first.next e in
    when eqb e.kind set_route and departs s.direction (named L e) then (when eqb first.number 0 then second else box_in_run L s e) else box_in_run L s e

-- the box in which a route locks on this state
abbrev pub sets_on : (State → Route → State) → Box
sets_on first =
    step_by refuses (λ L s e. when eqb e.kind set_route then own_lock (first s (named L e)) e.first else does L s e) signals far_sections routes arrivals line_release

-- it secures the line the other way
abbrev secures_other : Box
secures_other = sets_on (λ s a. when departs s.direction a then own_secure s a.line (3 - leaving a.end) else s)

-- it leaves the line neutral
abbrev leaves_neutral : Box
leaves_neutral = sets_on (λ s a. s)

-- ---- what is asked

-- on a neutral line only the block entered is asked: as if the line were secured that way already
abbrev asks_entered : Box
asks_entered = refuses_by set_route (λ L s r b. set_refusal L (tables_of (secure_first s (route L.route r))) r)

-- 31 is not asked: as if every lamp reported stop
abbrev asks_no_lamp : Box
asks_no_lamp = refuses_by set_route (λ L s r b. set_refusal L (tables_of (with_lamps s (replicate most_lamps lamp_stop))) r)

-- ---- the runs

-- after which a line shows a direction in which it is not secured: a train stands on the path of route 0, which is refused by 7
abbrev pub left_secured : Run
left_secured = on_t stays_secured (released ++ (event 15 2 1 ∷ event 1 0 2 ∷ event 4 0 0 ∷ []))

-- after which a signal shows proceed into a block of a line that does not show its way
abbrev pub other_way : Run
other_way = on_t secures_other (released ++ (event 15 2 1 ∷ event 4 0 0 ∷ []))

abbrev pub no_way : Run
no_way = on_t leaves_neutral (released ++ (event 15 2 1 ∷ event 4 0 0 ∷ []))

-- whose last event is accepted and should not have been: the second of two blocks was occupied and reads free again, and is held; the lamp at B reports nothing
abbrev pub into_held_line : Run
into_held_line = cold_run asks_entered (load two_blocks).layout (released ++ (event 15 2 1 ∷ event 1 2 2 ∷ event 1 2 1 ∷ event 4 0 0 ∷ []))

abbrev pub set_dark : Run
set_dark = on_t asks_no_lamp (released ++ (event 4 0 0 ∷ []))
