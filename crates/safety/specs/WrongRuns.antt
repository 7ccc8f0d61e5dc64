-- For each wrong box a short run that shows it, so that demand 3 is seen to refuse what it should: most break one of its clauses; some break none, and
-- show another panel than the box.
use Rattle.std.specs.Prelude.{ℕ, ◌≢◌, List, [], ◌∷◌, ◌++◌, replicate}
use Rattle.layout.specs.declared.Layout.{Layout}
use Rattle.layout.specs.Load.{load, whole}
use Rattle.layout_facts.specs.BranchT.{layout_t}
use Rattle.interlocking.specs.declared.State.{State}
use Rattle.interlocking.specs.declared.Answer.{Answer}
use Rattle.interlocking.specs.State.{cold}
use Rattle.panel.specs.Panel.{image}
use Rattle.step_facts.specs.Run.{Event, event, box_in_run, state_after}
use Rattle.safety.specs.Cases.{p3, p4, p5}
use Rattle.safety.specs.History.{History}
use Rattle.safety.specs.Broken.{Clause, apart, exits, directions, backed, secured, shows_secured, alone, is_free, cleared}
use Rattle.safety.specs.OtherLayouts.{two_blocks, two_lines, two_exits, with_overlap, inner_is_block, shared_block, shared_second, shared_entrance, inner_passed_by, unlisted_exits}
use Rattle.safety.specs.WrongBoxes.{Box, refuses_none, opens_free, passes_none, takes_none, keeps_stage1, counts_stopped, asks_no_signal, asks_no_arrival, passes_far_none, asks_no_entry, moves_in_neutral, never_falls, brings_back, releases_all, never_cancels, waits89, asks_no_second, keeps_overlap, never_ends, ends_locked, ends_held, ends_barred, ends_unpassed, ends_from_stage2, cold_open, cold_free}
use Rattle.safety.specs.WrongOrders.{releases_locked, releases_taken, secures_anew, asks_no_conflict, asks_lower, sets_unsecured, asks_no_overlap, throws_locked}
use Rattle.safety.specs.WrongPanels.{Image, lit_by, both_ways, in_neutral, all_secured}

-- A run asks soundness before its first event (`box_in_run`; step_facts proves `asked-once`: on an accepted layout it is the box). A rule is off where the
-- layout is taken as the file tells it, whatever loading answers.

-- ---- events

-- sections 0 .. 4 read free, so far as there are; point 0 reads left
abbrev pub readings : List Event
readings = event 1 0 1 ∷ event 1 1 1 ∷ event 1 2 1 ∷ event 1 3 1 ∷ event 1 4 1 ∷ event 2 0 1 ∷ []

-- the line is released by hand
abbrev pub released : List Event
released = readings ++ (event 7 0 1 ∷ [])

-- and secured from A to B, the lamp of signal x, the entrance signal at B, reporting stop (L3)
abbrev opened_by : ℕ → List Event
opened_by x = released ++ (event 15 x 1 ∷ event 6 0 1 ∷ [])

-- it is signal 2 on most layouts
abbrev pub opened : List Event
opened = opened_by 2

-- signals at A and B at proceed: a route in at B, a route out at A
abbrev pub let_out : List Event
let_out = opened ++ (event 4 1 0 ∷ event 4 0 0 ∷ [])

-- a train leaves A for the block, and route 0 is released: P3
abbrev pub gone : List Event
gone = let_out ++ p3

-- the block reads free; the line is secured again, and route 0 set again
abbrev again : List Event
again = event 1 1 1 ∷ event 6 0 1 ∷ event 4 0 0 ∷ []

-- the line is secured from B to A, and route 1, in at B, is set; route 2, out at B, conflicts with it
abbrev let_in : List Event
let_in = released ++ (event 15 1 1 ∷ event 6 0 2 ∷ event 4 1 0 ∷ [])

-- a train in the first of two blocks goes on to the second, the lamp of the signal between reporting stop, and route 0 is set for another behind it
abbrev followed : List Event
followed = gone ++ (event 15 3 1 ∷ event 1 2 2 ∷ event 1 1 1 ∷ event 4 0 0 ∷ [])

-- the lamp of the entrance signal at B reports this code, the train arrives there, and the block reads free (L3)
abbrev pub arrived_with : ℕ → List Event
arrived_with code = gone ++ (event 15 2 code ∷ event 1 2 2 ∷ event 1 1 1 ∷ [])

-- where the lamp is dark the block waits
abbrev pub waiting : List Event
waiting = arrived_with 0

-- the train goes on, and its route in at B is released; where there are two blocks the same events leave both waiting, no far lamp reporting stop
abbrev pub opened_by_route : List Event
opened_by_route = waiting ++ (event 1 3 2 ∷ event 1 2 1 ∷ [])

-- and there the route is released by these
abbrev pub both_opened : List Event
both_opened = opened_by_route ++ (event 1 4 2 ∷ event 1 3 1 ∷ [])

-- ---- the runs

-- a box on a layout, from a state through a list of events, with its panel
pub record Run : Type 0 where
  pub box : Box
  pub layout : Layout
  pub start : State
  pub draws : Image
  pub events : List Event

-- a history that goes on as `goes_on` says, with this panel
abbrev pub goes_on_by : Image → Layout → (State → Event → Answer) → State → History → List Event → History
goes_on_by draw L f s h [] = h
goes_on_by draw L f s h (e ∷ es) =
    goes_on_by draw L f (f s e).next (record { event = e; number = (f s e).number; detail = (f s e).detail; image = draw L (f s e).next } ∷ h) es

-- the history of a run
abbrev pub told : Run → History
told r = goes_on_by r.draws r.layout (r.box r.layout) r.start [] r.events

-- from the cold start
abbrev pub cold_run : Box → Layout → List Event → Run
cold_run wrong L events = record { box = wrong; layout = L; start = cold; draws = image; events = events }

-- on branch T
abbrev pub on_t : Box → List Event → Run
on_t wrong events = cold_run wrong layout_t events

-- on branch T from another state
abbrev from : State → List Event → Run
from s events = record { box = box_in_run; layout = layout_t; start = s; draws = image; events = events }

-- the box on the layout of two blocks, with another panel
abbrev pub drawn_by : Image → List Event → Run
drawn_by draw events = record { box = box_in_run; layout = (load two_blocks).layout; start = cold; draws = draw; events = events }

-- what is true of each run of a list
abbrev pub Each : (Run → Type 0) → List Run → Type 0
Each P [] = Unit {0}
Each P (r ∷ rs) = P r × Each P rs

-- the runs after which demand 3 is broken, by the clause that is broken
abbrev pub unsafe : Clause → List Run
unsafe apart =
    -- set route: 5 is not asked; asked of lower numbers only
    on_t asks_no_conflict (let_in ++ (event 4 2 0 ∷ []))
    ∷ on_t asks_lower (released ++ (event 15 1 1 ∷ event 6 0 2 ∷ event 4 2 0 ∷ event 4 1 0 ∷ []))
    -- section 9: the cancel wait ends at 89, and route 2 is set while route 1 is still locked
    ∷ on_t waits89 (let_in ++ (event 5 1 0 ∷ (replicate 89 (event 10 0 0) ++ (event 4 2 0 ∷ []))))
    -- letting a route go: the second step is not asked. A train stands in section 2 and goes back
    ∷ on_t asks_no_second (let_in ++ (event 1 2 2 ∷ event 1 2 1 ∷ event 4 2 0 ∷ []))
    ∷ []
unsafe exits =
    -- secure: 12 is not asked. A train has passed its exit signal, the line is turned, and another is let out against it
    on_t secures_anew (opened ++ (event 4 0 0 ∷ event 1 0 2 ∷ event 15 1 1 ∷ event 6 0 2 ∷ event 4 2 0 ∷ []))
    -- manual release: 17 is not asked. The same, the line being released by hand in between
    ∷ on_t releases_locked (opened ++ (event 4 0 0 ∷ event 1 0 2 ∷ event 7 0 1 ∷ event 15 1 1 ∷ event 6 0 2 ∷ event 4 2 0 ∷ []))
    ∷ []
unsafe directions =
    -- panel: a neutral line shows as secured from A to B
    drawn_by all_secured released
    ∷ []
unsafe backed =
    -- cancel leaves the signal at proceed
    on_t never_cancels (let_out ++ (event 5 0 0 ∷ []))
    -- signals never fall. The path of the route in at B is occupied
    ∷ on_t never_falls (let_out ++ (event 1 3 2 ∷ []))
    ∷ []
unsafe secured =
    -- manual release: 17 is not asked
    on_t releases_locked (let_out ++ (event 7 0 1 ∷ []))
    -- secure: 12 is not asked. The line is secured the other way under a set route
    ∷ on_t secures_anew (let_out ++ (event 15 1 1 ∷ event 6 0 2 ∷ []))
    -- set route: 9 is not asked. The line is secured the other way
    ∷ on_t sets_unsecured (released ++ (event 15 1 1 ∷ event 6 0 2 ∷ event 4 0 0 ∷ []))
    -- panel: block signals lit both ways; lit in neutral
    ∷ drawn_by (lit_by both_ways) opened
    ∷ drawn_by (lit_by in_neutral) released
    ∷ []
unsafe shows_secured =
    -- line release: a locked exit route is not asked. A train is let into the first of two blocks while one before it leaves the second
    cold_run ends_locked (load two_blocks).layout (followed ++ (event 1 3 2 ∷ event 1 2 1 ∷ []))
    ∷ []
unsafe alone =
    -- set route: 5 is not asked. Two signals at one end show proceed into the block
    cold_run asks_no_conflict (load two_exits).layout (opened ++ (event 4 0 0 ∷ event 4 1 0 ∷ []))
    -- rule 6 off: the same, where the two routes are not listed as conflicting
    ∷ cold_run box_in_run (whole unlisted_exits).layout (opened ++ (event 4 0 0 ∷ event 4 1 0 ∷ []))
    -- rule 1 off: one section is the block of two lines, and a train let into it by each
    ∷ cold_run box_in_run (whole shared_block).layout (opened_by 3 ++ (event 7 1 1 ∷ event 15 5 1 ∷ event 6 1 1 ∷ event 4 0 0 ∷ event 4 1 0 ∷ []))
    -- rule 1 off: it is the second block of both, and a block signal of each shows proceed into it
    ∷ cold_run box_in_run (whole shared_second).layout (opened_by 1 ++ (event 7 1 1 ∷ event 15 3 1 ∷ event 6 1 1 ∷ []))
    ∷ []
unsafe is_free =
    -- section 9: code 0 refused. The block's wire dies under a signal at proceed
    on_t refuses_none (let_out ++ (event 1 1 0 ∷ []))
    -- signals never fall. A wagon rolls into the block
    ∷ on_t never_falls (let_out ++ (event 1 1 2 ∷ []))
    -- manual release: 7 and 8 are not asked. The line is released over a train
    ∷ on_t releases_taken (gone ++ (event 7 0 1 ∷ event 6 0 1 ∷ event 4 0 0 ∷ []))
    -- the cold start open; free
    ∷ from cold_open (event 1 0 1 ∷ event 15 2 1 ∷ event 6 0 1 ∷ event 4 0 0 ∷ [])
    ∷ from cold_free (event 7 0 1 ∷ event 15 2 1 ∷ event 6 0 1 ∷ event 4 0 0 ∷ [])
    ∷ []
unsafe cleared =
    -- the cold start open: the block need only read free
    from cold_open (event 1 0 1 ∷ event 15 2 1 ∷ again)
    -- section 9: a block opens because it reads free again, under the train
    ∷ on_t opens_free (gone ++ (event 1 1 1 ∷ event 4 0 0 ∷ []))
    -- the same of the second of two blocks, into which a block signal shows proceed
    ∷ cold_run opens_free (load two_blocks).layout (opened ++ (event 1 2 2 ∷ event 1 2 1 ∷ []))
    -- section 9: a signal already at stop counts as dropped. No route in at B is set, and section 2 is occupied while the train is in the block
    ∷ on_t counts_stopped (opened ++ (event 4 0 0 ∷ (p3 ++ (event 1 2 2 ∷ again))))
    -- far section: the signal is not asked. The same
    ∷ on_t asks_no_signal (opened ++ (event 4 0 0 ∷ (p3 ++ (event 1 2 2 ∷ again))))
    -- far section: occupied is not asked. The route in at B is cancelled
    ∷ on_t asks_no_arrival (gone ++ (event 5 1 0 ∷ again))
    -- far section: none is passed over. The train arrives, and section 2 reads none before the block reads free
    ∷ on_t passes_far_none (gone ++ (event 1 2 2 ∷ event 1 2 0 ∷ again))
    -- far section: stage 1 is not asked. The block reads none and never occupied, then section 2 occupied
    ∷ on_t asks_no_entry (opened ++ (event 4 1 0 ∷ event 1 1 0 ∷ event 1 2 2 ∷ again))
    -- own reading: none is taken as occupied. The same
    ∷ on_t takes_none (opened ++ (event 4 1 0 ∷ event 1 1 0 ∷ event 1 2 2 ∷ again))
    -- own reading: free leaves stage 1 as it is. The block reads free again before section 2 is occupied
    ∷ on_t keeps_stage1 (gone ++ (event 1 1 1 ∷ event 1 2 2 ∷ again))
    -- far section: there is one in neutral. The block is occupied, then section 2, before the line is secured
    ∷ on_t moves_in_neutral (readings ++ (event 15 2 1 ∷ event 4 1 0 ∷ event 1 1 2 ∷ event 1 2 2 ∷ again))
    -- the passage is counted with a none of the block between: P5
    ∷ on_t passes_none (gone ++ (p5 ++ (event 6 0 1 ∷ event 4 0 0 ∷ [])))
    -- manual release: the blocks of every line open. The other line is released
    ∷ cold_run releases_all (load two_lines).layout (readings ++ (event 7 1 1 ∷ event 15 2 1 ∷ event 6 0 1 ∷ event 4 0 0 ∷ []))
    -- rule 1 off: the inner section is the block, so that one reading of it is a passage
    ∷ cold_run box_in_run (whole inner_is_block).layout (gone ++ again)
    -- rule 5 off: the inner section is occupied under a signal at proceed, which the block's own reading drops
    ∷ cold_run box_in_run (whole inner_passed_by).layout (let_out ++ (event 1 2 2 ∷ (p3 ++ again)))
    -- rule 2 off: the same, where the signal at proceed is the entrance signal of the other line too
    ∷ cold_run box_in_run (whole shared_entrance).layout (event 1 6 1 ∷ (let_out ++ (event 1 2 2 ∷ (p3 ++ again))))
    ∷ []

-- ---- wrong in another way: demand 3 asks nothing that these break. `LateBoxes`, `WrongGrants` and `WrongStories` have what refuses most of them

-- the panel image after a run
abbrev pub showing : Run → List ℕ
showing r = r.draws r.layout (state_after (r.box r.layout) r.start r.events)

-- the one that the box shows after its events
abbrev pub of_the_box : Run → List ℕ
of_the_box r = image r.layout (state_after (box_in_run r.layout) cold r.events)

-- they differ
abbrev pub Differs : Run → Type 0
Differs r = showing r ≢ of_the_box r

-- section 9: a cleared bar brings back a fallen exit signal
abbrev pub brought_back : Run
brought_back = on_t brings_back (let_out ++ (event 8 0 0 ∷ event 9 0 0 ∷ []))

-- letting a route go: the overlap must read free. A train goes in at B and stands over the end of its path
abbrev pub overlap_kept : Run
overlap_kept = cold_run keeps_overlap (load with_overlap).layout (let_out ++ (event 1 2 2 ∷ event 1 3 2 ∷ event 1 4 2 ∷ event 1 2 1 ∷ []))

-- throw: 15 is not asked. The point of route 1 is thrown under it
abbrev pub thrown_under : Run
thrown_under = on_t throws_locked (let_out ++ (event 3 0 2 ∷ []))

-- line release
abbrev pub wrongly_ended : List Run
wrongly_ended =
    -- left out: P4
    on_t never_ends (gone ++ p4)
    -- a held block is not asked. A second train is in the first of two blocks when one before it leaves the second
    ∷ cold_run ends_held (load two_blocks).layout (followed ++ (p3 ++ (event 1 3 2 ∷ event 1 2 1 ∷ [])))
    -- a bar is not asked
    ∷ on_t ends_barred (gone ++ (event 1 2 2 ∷ event 8 0 0 ∷ event 1 1 1 ∷ []))
    -- that the last block went from stage 2 or 3 to open is not asked. The line is neutral as soon as it is secured
    ∷ on_t ends_unpassed opened
    -- a last block that waited does not count (L3)
    ∷ on_t ends_from_stage2 opened_by_route
    ∷ []

-- the runs; the first is of a box that does not ask the overlap of a route that is set: it is occupied
abbrev pub unlike : List Run
unlike =
    cold_run asks_no_overlap (load with_overlap).layout (readings ++ (event 1 4 2 ∷ event 4 1 0 ∷ []))
    ∷ brought_back
    ∷ overlap_kept
    ∷ thrown_under
    ∷ wrongly_ended
