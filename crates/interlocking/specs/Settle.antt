-- What follows an event: signals, far sections, routes, blocks that waited for an entrance route (L3), line release, in that order (sections 4 to 6).
use Rattle.std.specs.Prelude.{ℕ, Bool, List, eqb}
use Rattle.laws.specs.Choice.{when◌then◌else◌}
use Rattle.laws.specs.Tables.{each, read}
use Rattle.track.specs.declared.Line.{Line}
use Rattle.track.specs.declared.Route.{Route}
use Rattle.track.specs.Codes.{idle}
use Rattle.track.specs.Sizes.{most_train_routes}
use Rattle.track.specs.Objects.{route}
use Rattle.track.specs.Signal.{Signal, main, into}
use Rattle.tables.specs.declared.Gives.{Gives}
use Rattle.tables.specs.Locks.{phase}
use Rattle.signals.specs.Signals.{fallen, main_proceeds, block_proceeds}
use Rattle.release.specs.declared.Locking.{Locking}
use Rattle.release.specs.Release.{locking_after}
use Rattle.line_block.specs.FarSections.{far_stages}
use Rattle.line_block.specs.PassingBack.{no_opening, arrives, passed_back}
use Rattle.line_block.specs.LineRelease.{directions_after}
use Rattle.layout.specs.declared.Layout.{Layout}
use Rattle.interlocking.specs.declared.State.{State}
use Rattle.interlocking.specs.State.{with_routes, with_lines}

-- ---- signals (section 4)

-- the phase of route r: its signal falls, and stays fallen
unfoldable pub fallen_at : List Line → List Route → State → ℕ → ℕ → ℕ
fallen_at ls rs s r was = fallen ls s.section s.point s.stage s.bar (route rs r) was

-- the signals of all routes
unfoldable pub signals : Layout → State → State
signals L s = with_routes s (each L.routes (fallen_at L.line L.route s) s.phase) s.steps s.seconds

-- ---- far sections (section 5)

-- signal x shows proceed in a state (section 4)
unfoldable pub proceeds_in : Layout → State → Signal → Bool
proceeds_in L s (main x) = main_proceeds L.routes L.route s.phase x
proceeds_in L s (into l i w) = block_proceeds L.line s.direction s.point s.stage s.bar l i w

-- the stages of all blocks, by the signals that showed proceed in the state before
unfoldable pub far_sections : Layout → State → State → State
far_sections L before s =
    with_lines s s.direction (far_stages L.lines L.line s.direction s.section (proceeds_in L before) (proceeds_in L s) s.stage)

-- ---- routes (section 6)

-- what the state holds of route r
unfoldable pub locking_of : State → ℕ → Locking
locking_of s r = record { phase = phase s.phase r; steps = read most_train_routes 0 s.steps r; seconds = read most_train_routes 0 s.seconds r }

-- what becomes of it
unfoldable pub route_after : List Line → List Route → State → Gives → ℕ → Locking
route_after ls rs s e r = locking_after ls s.section (route rs r) e (locking_of s r)

-- a route that is not idle takes what becomes of it; an idle one stays as it is
unfoldable pub unless_idle : State → ℕ → ℕ → ℕ → ℕ
unless_idle s r was x = when eqb (phase s.phase r) idle then was else x

-- n routes: phase, step and seconds
unfoldable pub routes_by : List Line → List Route → ℕ → State → Gives → State
routes_by ls rs n s e =
    with_routes s
    (each n (λ r was. unless_idle s r was (route_after ls rs s e r).phase) s.phase)
    (each n (λ r was. unless_idle s r was (route_after ls rs s e r).steps) s.steps)
    (each n (λ r was. unless_idle s r was (route_after ls rs s e r).seconds) s.seconds)

-- all routes
unfoldable pub routes : Layout → State → Gives → State
routes L s e = routes_by L.line L.route L.routes s e

-- ---- blocks that wait (L3)

-- the last block in travel opens from stage 3 by an entrance route of the arrival end that was locked in the state before and no longer is, and that
-- passes back
unfoldable pub arrivals : Layout → State → State → State
arrivals L before s =
    with_lines s s.direction
    (passed_back L.lines L.line s.direction no_opening (arrives L.routes L.route before.phase s.phase) s.stage)

-- ---- line release (section 5)

-- the directions of all lines, by the stages that blocks were in before
unfoldable pub line_release : Layout → State → State → State
line_release L before s =
    with_lines s (directions_after L.lines L.line L.routes L.route before.stage s.stage s.bar s.phase s.direction) s.stage

-- ---- within one event, after the event's own effect: signals, far sections, routes, blocks that wait, line release
unfoldable pub settle : Layout → State → State → Gives → State
settle L before s e = line_release L before (arrivals L before (routes L (far_sections L before (signals L s)) e))
