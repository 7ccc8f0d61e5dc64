-- What is searched for: to which sections, points, routes, lines and blocks a reason of section 3 applies.
use Rattle.std.specs.Prelude.{ℕ, Bool, not, List, eqb, get_or, ltb, Option, Some, None}
use Rattle.laws.specs.Choice.{when◌then◌else◌}
use Rattle.laws.specs.Tests.{◌and◌, any_below, lowest}
use Rattle.laws.specs.Tables.{read}
use Rattle.sets.specs.Sets.{holds}
use Rattle.track.specs.declared.Line.{Line}
use Rattle.track.specs.declared.Route.{Route}
use Rattle.track.specs.Codes.{free, neutral}
use Rattle.track.specs.Sizes.{most_pairs}
use Rattle.track.specs.Objects.{line, route}
use Rattle.track.specs.Lists.{among}
use Rattle.track.specs.Blocks.{block_detail}
use Rattle.pairs.specs.Pairs.{place_of}
use Rattle.tables.specs.Readings.{reading, point_reading}
use Rattle.tables.specs.Locks.{direction, locked}

-- section g is in the set and does not read free
unfoldable pub unfree : List ℕ → ℕ → ℕ → Bool
unfree sections set g = holds set g and not (eqb (reading sections g) free)

-- point p is one of the first n and is not read in its position
unfoldable pub misplaced : List ℕ → ℕ → List ℕ → List ℕ → ℕ → Bool
misplaced points n ps ws p = any_below n (λ j. eqb (get_or ps j 0) p and not (eqb (point_reading points p) (get_or ws j 0)))

-- route r is locked and lists point p; line l is secured and lists it
unfoldable pub route_locks : List Route → List ℕ → ℕ → ℕ → Bool
route_locks rs phases p r = locked phases r and among (route rs r).points (route rs r).point p

unfoldable pub line_locks : List Line → List ℕ → ℕ → ℕ → Bool
line_locks ls directions p l = not (eqb (direction directions l) neutral) and among (line ls l).points (line ls l).point p

-- section g stands for one of the blocks of a line of which the test, by a block's number, fails
unfoldable pub failing : (ℕ → Bool) → Line → ℕ → Bool
failing test b g = any_below b.blocks (λ i. eqb (block_detail b i) g and not (test i))

-- ---- as the code searches

-- the lowest of 0 .. n - 1 to which a test applies; none where it applies to none of them
unfoldable pub lowest_found : ℕ → (ℕ → Bool) → Option ℕ
lowest_found n p = when ltb (lowest n p) n then Some (lowest n p) else None

-- route q is locked, and the table of conflicts has it with r
unfoldable pub conflicts_with : List ℕ → List ℕ → ℕ → ℕ → Bool
conflicts_with conflicts phases r q = locked phases q and eqb (read most_pairs 0 conflicts (place_of r q)) 1
