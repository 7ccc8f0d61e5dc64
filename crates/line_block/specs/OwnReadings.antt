-- Own readings (section 5, L3): what becomes of the stages of all blocks by what an event gives them, and by what the lamps of their far signals report.
use Rattle.std.specs.Prelude.{ℕ, ◌*◌, ◌/◌, ◌%◌, List, ltb}
use Rattle.laws.specs.Choice.{when◌then◌else◌}
use Rattle.laws.specs.Tables.{each}
use Rattle.track.specs.declared.Line.{Line}
use Rattle.track.specs.Sizes.{most_blocks}
use Rattle.track.specs.Objects.{line}
use Rattle.tables.specs.declared.Gives.{Gives}
use Rattle.tables.specs.Readings.{block_given}
use Rattle.tables.specs.Locks.{direction}
use Rattle.passage.specs.Passage.{own_stage}
use Rattle.lamps.specs.Lamps.{far_stop_lit}
use Rattle.line_block.specs.PassingBack.{goes_open, no_arrival, passed_back}

-- what an event gives block i of a line: nothing where the line has no such block
unfoldable pub own_given : Gives → Line → ℕ → ℕ
own_given e b i = when ltb i b.blocks then block_given e b i else 0

-- the stage at place k, that of block k % 8 of line k / 8, after what an event gives that block; there are m main signals
unfoldable pub own_stage_at : ℕ → List Line → List ℕ → List ℕ → Gives → ℕ → ℕ → ℕ
own_stage_at m ls directions lamps e k was =
    own_stage (own_given e (line ls (k / most_blocks)) (k % most_blocks))
    (far_stop_lit m ls lamps (k / most_blocks) (k % most_blocks) (direction directions (k / most_blocks))) was

-- the stages of the blocks of n lines
unfoldable pub given_stages : ℕ → ℕ → List Line → List ℕ → List ℕ → Gives → List ℕ → List ℕ
given_stages n m ls directions lamps e stages = each (most_blocks * n) (own_stage_at m ls directions lamps e) stages

-- and an opening passes back (L3)
unfoldable pub own_stages : ℕ → ℕ → List Line → List ℕ → List ℕ → Gives → List ℕ → List ℕ
own_stages n m ls directions lamps e stages =
    passed_back n ls directions (goes_open stages (given_stages n m ls directions lamps e stages)) no_arrival (given_stages n m ls directions lamps e stages)
