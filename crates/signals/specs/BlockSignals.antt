-- What a block signal shows (section 4). Block signals stand between blocks, one each way, and each belongs to the block it leads into.
use Rattle.std.specs.Prelude.{ℕ, Bool, List, [], ◌∷◌, eqb}
use Rattle.laws.specs.Choice.{when◌then◌else◌}
use Rattle.laws.specs.Tests.{◌and◌, every}
use Rattle.track.specs.declared.Line.{Line}
use Rattle.track.specs.Objects.{line}
use Rattle.track.specs.Signal.{has_signal}
use Rattle.tables.specs.Blocks.{is_open, unbarred}
use Rattle.tables.specs.Locks.{direction}
use Rattle.signals.specs.Aspects.{dark, stop, proceed}
use Rattle.signals.specs.Signals.{enterable}

-- section 4: a signal that is lit shows 22 if the block entered may be entered, else 20; any other is dark
unfoldable pub light_shown : Bool → Bool → ℕ
light_shown lit may_enter = when lit then (when may_enter then proceed else stop) else dark

-- section 4: what the signal into block i of line l for direction w shows: on a secured line those of the secured direction are lit
unfoldable pub block_shows : List Line → List ℕ → List ℕ → List ℕ → List ℕ → ℕ → ℕ → ℕ → ℕ
block_shows ls directions points stages bars l i w =
    light_shown (eqb (direction directions l) w and has_signal (line ls l).blocks i w) (enterable ls points stages bars l i)

-- ---- as the code asks for it

-- the same from what is known of the line: n blocks, secured in direction way, points in position or not
unfoldable pub block_shown_where : List ℕ → List ℕ → ℕ → ℕ → Bool → ℕ → ℕ → ℕ → ℕ
block_shown_where stages bars n way placed l i w =
    light_shown (eqb way w and has_signal n i w) (every (is_open stages l i ∷ unbarred bars l i ∷ placed ∷ []))
