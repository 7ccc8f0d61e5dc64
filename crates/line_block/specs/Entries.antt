-- Which signals show proceed (section 4), as the code asks for it: main signals by a table of the signals at which routes start, where
-- signals/specs/Signals goes by the routes' records; blocks that wait (L3); and a number of lines that is no more than the tables hold.
use Rattle.std.specs.Prelude.{ℕ, Bool, not, List, eqb, leb, get_or}
use Rattle.laws.specs.Choice.{when◌then◌else◌}
use Rattle.laws.specs.Tests.{◌and◌, any_below, all_below}
use Rattle.laws.specs.Tables.{read}
use Rattle.track.specs.declared.Line.{Line}
use Rattle.track.specs.Codes.{stage3, at_proceed}
use Rattle.track.specs.Sizes.{most_lines, most_train_routes, most_places}
use Rattle.track.specs.Signal.{Signal, main, into}
use Rattle.tables.specs.Locks.{phase}
use Rattle.signals.specs.Signals.{block_proceeds}

-- route r starts at signal x, which is at proceed for it
unfoldable pub entry_proceeds : List ℕ → List ℕ → ℕ → ℕ → Bool
entry_proceeds entries phases x r = eqb (phase phases r) at_proceed and eqb (read most_train_routes 0 entries r) x

-- a main signal shows proceed: for one of the n routes
unfoldable pub main_proceeds_by : ℕ → List ℕ → List ℕ → ℕ → Bool
main_proceeds_by n entries phases x = any_below n (entry_proceeds entries phases x)

-- a signal shows proceed, by the tables of a state
unfoldable pub proceeds_by : List Line → ℕ → List ℕ → List ℕ → List ℕ → List ℕ → List ℕ → List ℕ → Signal → Bool
proceeds_by ls n entries phases directions points stages bars (main x) = main_proceeds_by n entries phases x
proceeds_by ls n entries phases directions points stages bars (into l i w) = block_proceeds ls directions points stages bars l i w

-- no block waits in stage 3 (L3)
unfoldable pub none_waits : List ℕ → Bool
none_waits stages = all_below most_places (λ k. not (eqb (get_or stages k 0) stage3))

-- so many lines, but no more than the tables hold
unfoldable pub few_lines : ℕ → ℕ
few_lines m = when leb m most_lines then m else most_lines
