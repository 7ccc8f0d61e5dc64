-- Stage 3 (L3): a block that waits there opens when the next block opens, or, for the last block in travel, when an entrance route of the arrival end is
-- released. So an opening passes back through all stage 3 blocks before it in the same event.
use Rattle.std.specs.Prelude.{ℕ, zero, suc, ◌*◌, ◌/◌, ◌%◌, ◌<◌, ◌≡◌, Bool, false, not, List, eqb, ltb, length, get_or}
use Rattle.laws.specs.Choice.{when◌then◌else◌}
use Rattle.laws.specs.Tests.{◌and◌, ◌or◌, any_below}
use Rattle.laws.specs.Tables.{each}
use Rattle.track.specs.declared.Line.{Line}
use Rattle.track.specs.declared.Route.{Route}
use Rattle.track.specs.Codes.{neutral, open_block, stage2, stage3, entrance_route}
use Rattle.track.specs.Sizes.{most_blocks, most_lines}
use Rattle.track.specs.Objects.{line, route}
use Rattle.tables.specs.Blocks.{stage_of}
use Rattle.tables.specs.Locks.{direction, locked}
use Rattle.passage.specs.Passage.{arrival, from_arrival}

-- ---- what opens

-- by its own reading block i of line l goes from stage 2 to open
unfoldable pub goes_open : List ℕ → List ℕ → ℕ → ℕ → Bool
goes_open before stages l i = eqb (stage_of before l i) stage2 and eqb (stage_of stages l i) open_block

-- no block does
unfoldable pub no_opening : ℕ → ℕ → Bool
no_opening l i = false

-- route r, which is a, is an entrance route of the arrival end of line l in direction w, and was released: locked before, and no longer
unfoldable pub released_entrance_by : List ℕ → List ℕ → Route → ℕ → ℕ → ℕ → Bool
released_entrance_by before phases a l w r =
    (locked before r and not (locked phases r)) and (eqb a.kind entrance_route and (eqb a.line l and eqb a.end (arrival w)))

-- so one of n routes
unfoldable pub arrives : ℕ → List Route → List ℕ → List ℕ → ℕ → ℕ → Bool
arrives n rs before phases l w = any_below n (λ r. released_entrance_by before phases (route rs r) l w r)

-- no route was
unfoldable pub no_arrival : ℕ → ℕ → Bool
no_arrival l w = false

-- what lies beyond the block of line l, which is b, that is counted d from the arrival end of direction w opens in this event: beyond the last block an
-- entrance route is released; beyond another the next block opens, by its own reading, or because it waits in stage 3 and what lies beyond it opens
unfoldable pub opens_beyond : Line → List ℕ → (ℕ → ℕ → Bool) → (ℕ → ℕ → Bool) → ℕ → ℕ → ℕ → Bool
opens_beyond b stages opened arrived l w zero = arrived l w
opens_beyond b stages opened arrived l w (suc d) =
    opened l (from_arrival b w d) or (eqb (stage_of stages l (from_arrival b w d)) stage3 and opens_beyond b stages opened arrived l w d)

-- ---- the stages then

-- block i of line l, which is b, in direction w: from stage 3 to open where what lies beyond it opens; in neutral nothing lies beyond
unfoldable pub waited_stage : Line → List ℕ → (ℕ → ℕ → Bool) → (ℕ → ℕ → Bool) → ℕ → ℕ → ℕ → ℕ → ℕ
waited_stage b stages opened arrived l i w was =
    when (eqb was stage3 and ltb i b.blocks) and (not (eqb w neutral) and opens_beyond b stages opened arrived l w (from_arrival b w i)) then open_block else was

-- the same of the block at place k, block k % 8 of line k / 8, in the direction of its line
unfoldable pub waited_stage_at : List Line → List ℕ → (ℕ → ℕ → Bool) → (ℕ → ℕ → Bool) → List ℕ → ℕ → ℕ → ℕ
waited_stage_at ls directions opened arrived stages k was =
    waited_stage (line ls (k / most_blocks)) stages opened arrived (k / most_blocks) (k % most_blocks) (direction directions (k / most_blocks)) was

-- the stages of the blocks of n lines
unfoldable pub passed_back : ℕ → List Line → List ℕ → (ℕ → ℕ → Bool) → (ℕ → ℕ → Bool) → List ℕ → List ℕ
passed_back n ls directions opened arrived stages = each (most_blocks * n) (waited_stage_at ls directions opened arrived stages) stages

-- ---- as the code tells which entrance routes were released

-- by a table, which tells each line at whose arrival end one was
unfoldable pub Arrived : ℕ → List Route → List ℕ → List ℕ → List ℕ → List Bool → Type 0
Arrived n rs before phases directions table =
    (length table ≡ most_lines) × ((l : ℕ) → l < most_lines → get_or table l false ≡ arrives n rs before phases l (direction directions l))
