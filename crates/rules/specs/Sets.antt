-- The sets of sections and points that the code tests the rules with. What the rules say stands in Rules; here is only how it is kept in 64 bits.
use Rattle.std.specs.Prelude.{ℕ, Bool, not, List, eqb, get_or}
use Rattle.laws.specs.Choice.{when◌then◌else◌}
use Rattle.laws.specs.Tests.{◌or◌}
use Rattle.laws.specs.Tables.{iter}
use Rattle.sets.specs.Sets.{joined, merged_set, set_of, common}
use Rattle.track.specs.declared.Line.{Line}
use Rattle.track.specs.declared.Route.{Route}
use Rattle.track.specs.Codes.{left, right}
use Rattle.track.specs.Objects.{line}
use Rattle.track.specs.Blocks.{line_sections}
use Rattle.rules.specs.declared.Reach.{Reach}

-- the sections of the blocks of line l with those before it; those of the first n lines
unfoldable pub line_blocks : List Line → ℕ → ℕ → ℕ
line_blocks ls l set = merged_set set (line_sections (line ls l))

unfoldable pub block_set : ℕ → List Line → ℕ
block_set n ls = iter (line_blocks ls) n 0

-- the inner sections of line l with those before it; those of the first n lines
unfoldable pub inner_turn : List Line → ℕ → ℕ → ℕ
inner_turn ls l set = joined (joined set (line ls l).innera) (line ls l).innerb

unfoldable pub inner_set : ℕ → List Line → ℕ
inner_set n ls = iter (inner_turn ls) n 0

-- no path section of the route is in the set
unfoldable pub off_blocks : ℕ → Route → Bool
off_blocks blocks a = not (common blocks (set_of a.paths a.path))

-- the i-th of these points with those before it, if its position is that way; all points of a route that lie so
unfoldable pub side_with : ℕ → List ℕ → List ℕ → ℕ → ℕ → ℕ
side_with w point position i set = when eqb (get_or position i 0) w then joined set (get_or point i 0) else set

unfoldable pub side_set : ℕ → Route → ℕ
side_set w a = iter (side_with w a.point a.position) a.points 0

-- what rule 6 asks of a route
unfoldable pub reach_of : Route → Reach
reach_of a = record { entry = a.entry; path = set_of a.paths a.path; left = side_set left a; right = side_set right a }

-- and of two
unfoldable pub clashing : Reach → Reach → Bool
clashing a b =
    eqb a.entry b.entry or (common a.path b.path or (common a.left b.right or common a.right b.left))
