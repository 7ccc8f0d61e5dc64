-- Letting a route go (section 6).
use Rattle.std.specs.Prelude.{ℕ, ◌+◌, ◌-◌, Bool, List, eqb, ltb, leb, get_or}
use Rattle.laws.specs.Choice.{when◌then◌else◌}
use Rattle.laws.specs.Tests.{◌and◌, ◌or◌, implies}
use Rattle.track.specs.declared.Line.{Line}
use Rattle.track.specs.declared.Route.{Route}
use Rattle.track.specs.Codes.{free, occupied, reads_none, entrance_route, exit_route, idle, cancelling}
use Rattle.track.specs.Objects.{line, nearest, last_section}
use Rattle.tables.specs.Readings.{given, reading, block_given, block_reading, all_free}
use Rattle.signals.specs.Signals.{fallen}
use Rattle.tables.specs.declared.Gives.{Gives}
use Rattle.release.specs.declared.Locking.{Locking}
use Rattle.release.specs.declared.Settled.{Settled}
use Rattle.release.specs.declared.Watched.{Watched}
use Rattle.release.specs.declared.WatchedPair.{WatchedPair}

-- one of the watched pair that is a section: what the event gives it, and what it reads after the event
unfoldable pub watched_section : List ℕ → Gives → ℕ → Watched
watched_section sections e g = record { given = given e g; reads = reading sections g }

-- one that is block i of a line
unfoldable pub watched_block : List ℕ → Gives → Line → ℕ → Watched
watched_block sections e b i = record { given = block_given e b i; reads = block_reading sections b i }

-- the watched pair of an exit route: the last path section, then the block entered
unfoldable pub exit_pair : List Line → List ℕ → Route → Gives → WatchedPair
exit_pair ls sections a e =
    let b : Line = line ls a.line in
    record { first = watched_section sections e (last_section a); second = watched_block sections e b (nearest b a.end) }

-- the watched pair of any other route: the last but one and the last path section
unfoldable pub path_pair : List ℕ → Route → Gives → WatchedPair
path_pair sections a e = record { first = watched_section sections e (get_or a.path (a.paths - 2) 0); second = watched_section sections e (last_section a) }

-- the watched pair of a route
unfoldable pub watched_pair : List Line → List ℕ → Route → Gives → WatchedPair
watched_pair ls sections a e = when eqb a.kind exit_route then exit_pair ls sections a e else path_pair sections a e

-- the steps done after an event, from those done before it, 0 to 3: three steps, each in an event of its own
unfoldable pub steps_after : WatchedPair → ℕ → ℕ
steps_after w steps =
    -- step 3 stays done
    when eqb steps 3 then 3
    -- either reads none before step 3: it starts again
    else when eqb w.first.reads reads_none or eqb w.second.reads reads_none then 0
    -- step 3: the first is given free
    else when eqb steps 2 then (when eqb w.first.given free then 3 else 2)
    -- the first reads free before step 2: it starts again
    else when eqb steps 1 and eqb w.first.reads free then 0
    -- step 2: the second is given occupied while the first reads occupied
    else when eqb steps 1 then (when eqb w.second.given occupied and eqb w.first.reads occupied then 2 else 1)
    -- step 1: the first is given occupied
    else when eqb w.first.given occupied then 1
    else 0

-- how many path sections a train vacates: all, the last one excepted for kinds 0 and 1
unfoldable pub to_vacate : Route → ℕ
to_vacate a = when eqb a.kind exit_route then a.paths else a.paths - 1

-- what the block nearest a route's own end reads
unfoldable pub end_reading : List Line → List ℕ → Route → ℕ
end_reading ls sections a =
    let b : Line = line ls a.line in
    block_reading sections b (nearest b a.end)

-- the route is vacated: those read free and, for kind 1, the block nearest its end reads free
unfoldable pub vacated : List Line → List ℕ → Route → Bool
vacated ls sections a = all_free sections (to_vacate a) a.path and implies (eqb a.kind entrance_route) (eqb (end_reading ls sections a) free)

-- the seconds counted of a cancelling route after the event, never more than 89: the 90th releases it (`goes`)
unfoldable pub seconds_after : Gives → ℕ → ℕ → ℕ
seconds_after e phase seconds = when eqb phase cancelling and eqb e.tick 1 then (when ltb seconds 89 then seconds + 1 else seconds) else seconds

-- the route is released by the 90th second of its cancelling, before which 89 were counted, or, the third step done, at the end of the first event
-- (that one included) at which it is vacated
unfoldable pub goes : List Line → List ℕ → Route → Gives → Locking → ℕ → Bool
goes ls sections a e h steps = (eqb h.phase cancelling and (eqb e.tick 1 and leb 89 h.seconds)) or (eqb steps 3 and vacated ls sections a)

-- what becomes of a locked route
unfoldable pub locking_after : List Line → List ℕ → Route → Gives → Locking → Locking
locking_after ls sections a e h =
    let steps : ℕ = steps_after (watched_pair ls sections a e) h.steps in
    when goes ls sections a e h steps then record { phase = idle; steps = 0; seconds = 0 }
    else record { phase = h.phase; steps = steps; seconds = seconds_after e h.phase h.seconds }

-- ---- as the code walks the routes, a route's signal and its release in one turn

-- the phase after the signals, and what then becomes of the route
unfoldable pub settled_from : ℕ → Locking → Settled
settled_from p h = record { fallen = p; phase = h.phase; steps = h.steps; seconds = h.seconds }

-- a locked route: its signal falls or stays, and then the route stays or goes
unfoldable pub settled : List Line → List ℕ → List ℕ → List ℕ → List ℕ → Route → Gives → Locking → Settled
settled ls sections points stages bars a e h =
    let p : ℕ = fallen ls sections points stages bars a h.phase in
    settled_from p (locking_after ls sections a e (record { phase = p; steps = h.steps; seconds = h.seconds }))
