-- Far sections (section 5): what becomes of the stage of a block by its far section and its far signal, by what sections read and by which signals
-- show proceed before an event and after it.
use Rattle.std.specs.Prelude.{ℕ, ◌*◌, ◌/◌, ◌%◌, Bool, not, List, eqb}
use Rattle.laws.specs.Choice.{when◌then◌else◌}
use Rattle.laws.specs.Tests.{◌and◌}
use Rattle.laws.specs.Tables.{each}
use Rattle.track.specs.declared.Line.{Line}
use Rattle.track.specs.Codes.{neutral}
use Rattle.track.specs.Sizes.{most_blocks}
use Rattle.track.specs.Objects.{line}
use Rattle.track.specs.Signal.{Signal}
use Rattle.tables.specs.Readings.{reading}
use Rattle.tables.specs.Locks.{direction}
use Rattle.passage.specs.Passage.{far_section, far_signal, far_stage}

-- a signal goes from proceed to stop
unfoldable pub drops : (Signal → Bool) → (Signal → Bool) → Signal → Bool
drops before after x = before x and not (after x)

-- the stage of block i of line l, which is b: in direction w its far section and its far signal decide; in neutral there is no far section
unfoldable pub far_moved : Line → List ℕ → (Signal → Bool) → (Signal → Bool) → ℕ → ℕ → ℕ → ℕ → ℕ
far_moved b sections before after l i w was =
    when eqb w neutral then was else far_stage (reading sections (far_section b i w)) (drops before after (far_signal b l i w)) was

-- the same of the block at place k, block k % 8 of line k / 8, in the direction of its line
unfoldable pub far_stage_at : List Line → List ℕ → List ℕ → (Signal → Bool) → (Signal → Bool) → ℕ → ℕ → ℕ
far_stage_at ls directions sections before after k was =
    far_moved (line ls (k / most_blocks)) sections before after (k / most_blocks) (k % most_blocks) (direction directions (k / most_blocks)) was

-- the stages of the blocks of n lines
unfoldable pub far_stages : ℕ → List Line → List ℕ → List ℕ → (Signal → Bool) → (Signal → Bool) → List ℕ → List ℕ
far_stages n ls directions sections before after stages = each (most_blocks * n) (far_stage_at ls directions sections before after) stages
