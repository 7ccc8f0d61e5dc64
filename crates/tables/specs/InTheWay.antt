-- What stands in the way of an order, as a set in one word: sections that do not read free, points that are not read in position, the sections of blocks that
-- are held or barred (L4). So the code searches; what is refused is said in `reasons`.
use Rattle.std.specs.Prelude.{ℕ, Bool, not, List, eqb, ltb}
use Rattle.laws.specs.Tests.{◌and◌}
use Rattle.laws.specs.Tables.{read}
use Rattle.sets.specs.Lowest.{joined_if, set_where}
use Rattle.track.specs.declared.Line.{Line}
use Rattle.track.specs.Blocks.{block_detail}
use Rattle.track.specs.Codes.{free}
use Rattle.track.specs.Sizes.{most_points, most_listed}
use Rattle.tables.specs.Readings.{reading, point_reading}
use Rattle.tables.specs.Blocks.{untaken}

-- the set with section g in it where it does not read free
unfoldable pub with_unfree : List ℕ → ℕ → ℕ → ℕ
with_unfree sections set g = joined_if (not (eqb (reading sections g) free)) set g

-- of the first n of a list of eight sections, those that do not read free
unfoldable pub unfree_of : List ℕ → ℕ → List ℕ → ℕ
unfree_of sections n xs = set_where n (λ i. not (eqb (reading sections (read most_listed 0 xs i)) free)) (read most_listed 0 xs)

-- of the sections of a line's blocks, those that do not read free
unfoldable pub unfree_blocks : List ℕ → Line → ℕ
unfree_blocks sections b = unfree_of sections b.blocks b.block

-- p is a point's number, and the point is not read in position w
unfoldable pub is_misplaced : List ℕ → ℕ → ℕ → Bool
is_misplaced points p w = ltb p most_points and not (eqb (point_reading points p) w)

-- of the first n of a list of eight points, those that are not read in position
unfoldable pub misplaced_of : List ℕ → ℕ → List ℕ → List ℕ → ℕ
misplaced_of points n ps ws = set_where n (λ j. is_misplaced points (read most_listed 0 ps j) (read most_listed 0 ws j)) (read most_listed 0 ps)

-- of the sections that stand for the blocks of line l in a refusal's detail, those whose block a table of blocks has held or barred
unfoldable pub taken_of : List ℕ → Line → ℕ → ℕ
taken_of table b l = set_where b.blocks (λ i. not (untaken table l i)) (block_detail b)
