-- Line release (section 5): when the last block in travel goes from stage 2, or (L3) 3, to open, the line becomes neutral if every block is open, no exit
-- route of the line is locked and no block is barred.
use Rattle.std.specs.Prelude.{ℕ, Bool, not, List, [], ◌∷◌, eqb}
use Rattle.laws.specs.Choice.{when◌then◌else◌}
use Rattle.laws.specs.Tests.{◌and◌, ◌or◌, every, all_below, any_below}
use Rattle.laws.specs.Tables.{each}
use Rattle.track.specs.declared.Line.{Line}
use Rattle.track.specs.declared.Route.{Route}
use Rattle.track.specs.Codes.{neutral, stage2, stage3}
use Rattle.track.specs.Objects.{line, nearest}
use Rattle.tables.specs.Blocks.{stage_of, is_open, unbarred}
use Rattle.tables.specs.Locks.{locked_exit}
use Rattle.passage.specs.Passage.{arrival}

-- the last block in travel: the one nearest the arrival end
unfoldable pub last_block : Line → ℕ → ℕ
last_block b w = nearest b (arrival w)

-- block i of line l is open and not barred
unfoldable pub passable : List ℕ → List ℕ → ℕ → ℕ → Bool
passable stages bars l i = is_open stages l i and unbarred bars l i

-- the last block in travel was in stage 2 or 3 before the event
unfoldable pub was_passed : List ℕ → Line → ℕ → ℕ → Bool
was_passed before b l w = eqb (stage_of before l (last_block b w)) stage2 or eqb (stage_of before l (last_block b w)) stage3

-- of line l, which is b: the last block in travel went from stage 2 or 3 to open, every block is open, no block is barred, no exit route of the line, of
-- n routes, is locked
unfoldable pub ends_by : Line → ℕ → List Route → List ℕ → List ℕ → List ℕ → List ℕ → ℕ → ℕ → Bool
ends_by b n rs before stages bars phases l w = every (
    was_passed before b l w
    ∷ all_below b.blocks (passable stages bars l)
    ∷ not (any_below n (locked_exit rs phases l))
    ∷ [])

-- the direction of line l: neutral where the line is released, else as it was
unfoldable pub direction_after : (ℕ → ℕ → Bool) → ℕ → ℕ → ℕ
direction_after ended l was = when eqb was neutral then was else when ended l was then neutral else was

-- the directions of m lines
unfoldable pub directions_after : ℕ → List Line → ℕ → List Route → List ℕ → List ℕ → List ℕ → List ℕ → List ℕ → List ℕ
directions_after m ls n rs before stages bars phases directions =
    each m (λ l was. direction_after (ends_by (line ls l) n rs before stages bars phases) l was) directions
