-- How the code writes bytes into the lent buffer. What the image is stands in Panel.
use Rattle.std.specs.Prelude.{ℕ, ◌+◌, ◌≤◌, Bool, ◌≡◌, List, [], ◌∷◌, ◌++◌, length}
use Rattle.std.proofs.lemmas.List.Edits.{sets}
use Rattle.laws.specs.Tables.{table, read, join}
use Rattle.track.specs.declared.Line.{Line}
use Rattle.track.specs.Codes.{a_to_b, b_to_a, stage0}
use Rattle.track.specs.Sizes.{most_sections, most_points, most_signals, most_lines, most_places, most_distants, most_train_routes}
use Rattle.tables.specs.Readings.{reading, point_reading, line_placed}
use Rattle.tables.specs.Blocks.{place}
use Rattle.tables.specs.Locks.{direction, phase}
use Rattle.signals.specs.MainSignals.{main_shows}
use Rattle.signals.specs.BlockSignals.{block_shown_where}
use Rattle.signals.specs.Shows.{number_shown_by}
use Rattle.signals.specs.Distants.{distant_shows}
use Rattle.layout.specs.declared.Layout.{Layout}
use Rattle.layout.specs.Layout.{carrier_of, announced_by}
use Rattle.interlocking.specs.declared.State.{State}
use Rattle.panel.specs.Panel.{route_byte, distant_byte}

-- the bytes xs were written into a buffer from a place on: what the buffer is then, and the next place
pub record Wrote (before : List ℕ) (at : ℕ) (xs after : List ℕ) (next : ℕ) : Type 0 where
  pub buffer : after ≡ sets before at xs
  pub place : next ≡ at + length xs

-- a block's three bytes from what is known of its line: n blocks, direction way, points in position or not
unfoldable pub block_by : List ℕ → List ℕ → ℕ → ℕ → Bool → ℕ → ℕ → List ℕ
block_by stages bars n way placed l i =
    read most_places stage0 stages (place l i)
    ∷ block_shown_where stages bars n way placed l i a_to_b
    ∷ block_shown_where stages bars n way placed l i b_to_a
    ∷ []

-- the bytes of line l, which is b
unfoldable pub line_by : Line → List ℕ → List ℕ → List ℕ → List ℕ → ℕ → List ℕ
line_by b directions points stages bars l = join b.blocks (block_by stages bars b.blocks (direction directions l) (line_placed points b) l)

-- distant d, by the table of what each main signal shows (L2)
unfoldable pub distant_by : Layout → State → List ℕ → ℕ → ℕ
distant_by L s mains d =
    distant_shows (number_shown_by L.signals L.lines L.line mains s.direction s.point s.stage s.bar) (carrier_of L d) (announced_by L d)

-- section and point readings
unfoldable pub reading_bytes : Layout → State → List ℕ
reading_bytes L s = table L.sections (reading s.section) ++ table L.points (point_reading s.point)

-- signals, routes, distants (L2), lines
unfoldable pub object_bytes : Layout → State → List ℕ
object_bytes L s =
    table L.signals (main_shows L.routes L.route s.phase)
    ++ table L.routes (λ r. route_byte (phase s.phase r))
    ++ table L.distants (distant_byte L s)
    ++ table L.lines (direction s.direction)

-- a layout's objects are no more than the tables of a state hold
pub record FitsTables (L : Layout) : Type 0 where
  pub sections : L.sections ≤ most_sections
  pub points : L.points ≤ most_points
  pub signals : L.signals ≤ most_signals
  pub routes : L.routes ≤ most_train_routes
  pub distants : L.distants ≤ most_distants
  pub lines : L.lines ≤ most_lines
