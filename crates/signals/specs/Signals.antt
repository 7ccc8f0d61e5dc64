-- When a signal may show proceed and when it falls (section 4), over the tables of a state: what sections and points read, phases of routes,
-- directions of lines, stages and bars of blocks. What each then shows stands in MainSignals and BlockSignals.
use Rattle.std.specs.Prelude.{ℕ, Bool, List, [], ◌∷◌, eqb}
use Rattle.laws.specs.Choice.{when◌then◌else◌}
use Rattle.laws.specs.Tests.{◌and◌, implies, every, any_below}
use Rattle.track.specs.declared.Line.{Line}
use Rattle.track.specs.declared.Route.{Route}
use Rattle.track.specs.Codes.{exit_route, at_proceed, at_stop}
use Rattle.track.specs.Objects.{line, route, nearest}
use Rattle.tables.specs.Readings.{all_free, line_placed, route_placed}
use Rattle.tables.specs.Blocks.{is_open, unbarred}
use Rattle.tables.specs.Locks.{direction, phase}

-- section 4: a train may be let into block i of line l, which is b: it is open, not barred, and the line's points are in position; the same of a line
-- by its number
unfoldable pub enterable_by : Line → List ℕ → List ℕ → List ℕ → ℕ → ℕ → Bool
enterable_by b points stages bars l i = every (is_open stages l i ∷ unbarred bars l i ∷ line_placed points b ∷ [])

unfoldable pub enterable : List Line → List ℕ → List ℕ → List ℕ → ℕ → ℕ → Bool
enterable ls points stages bars l i = enterable_by (line ls l) points stages bars l i

-- the same of the block that an exit route enters
unfoldable pub lets_out : List Line → List ℕ → List ℕ → List ℕ → Route → Bool
lets_out ls points stages bars a = enterable ls points stages bars a.line (nearest (line ls a.line) a.end)

-- section 4: what keeps a route's signal at proceed: path and overlap sections free, points in position; for an exit route also the line's points,
-- and that the block it enters is neither held nor barred
unfoldable pub clear : List Line → List ℕ → List ℕ → List ℕ → List ℕ → Route → Bool
clear ls sections points stages bars a = every (
    all_free sections a.paths a.path
    ∷ all_free sections a.overlaps a.overlap
    ∷ route_placed points a
    ∷ implies (eqb a.kind exit_route) (lets_out ls points stages bars a)
    ∷ [])

-- a route's phase: its signal falls, and a fallen signal stays so
unfoldable pub fallen : List Line → List ℕ → List ℕ → List ℕ → List ℕ → Route → ℕ → ℕ
fallen ls sections points stages bars a was = when eqb was at_proceed then (when clear ls sections points stages bars a then at_proceed else at_stop) else was

-- route r starts at signal x and its signal is at proceed
unfoldable pub route_proceeds : List ℕ → ℕ → Route → ℕ → Bool
route_proceeds phases r a x = eqb (phase phases r) at_proceed and eqb a.entry x

-- a main signal shows proceed: for one of the n routes
unfoldable pub main_proceeds : ℕ → List Route → List ℕ → ℕ → Bool
main_proceeds n rs phases x = any_below n (λ r. route_proceeds phases r (route rs r) x)

-- the block signal into block i of line l for direction w shows proceed, where there is one
unfoldable pub block_proceeds : List Line → List ℕ → List ℕ → List ℕ → List ℕ → ℕ → ℕ → ℕ → Bool
block_proceeds ls directions points stages bars l i w = eqb (direction directions l) w and enterable ls points stages bars l i
