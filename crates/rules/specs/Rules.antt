-- The rules of section 2, as they bear on one line, on one route, on two routes and on one distant.
use Rattle.std.specs.Prelude.{ℕ, ◌+◌, Bool, not, List, [], ◌∷◌, eqb, leb, get_or}
use Rattle.laws.specs.Tests.{◌and◌, ◌or◌, implies, every, any_below}
use Rattle.track.specs.declared.Line.{Line}
use Rattle.track.specs.declared.Route.{Route}
use Rattle.track.specs.Codes.{left, right, entrance_route, exit_route}
use Rattle.track.specs.Sizes.{most_sections}
use Rattle.track.specs.Objects.{line, inner, entrance, last_section}
use Rattle.track.specs.Lists.{among, all_differ}
use Rattle.track.specs.Blocks.{in_block, blocks_differ}

-- some section, or some point, passes both tests; there are at most 64 of either
unfoldable pub share : (ℕ → Bool) → (ℕ → Bool) → Bool
share p q = any_below most_sections (λ g. p g and q g)

-- section g is in a block of line l; of one of the first n lines
unfoldable pub has_block : List Line → ℕ → ℕ → Bool
has_block ls g l = any_below (line ls l).blocks (λ i. in_block (line ls l) i g)

unfoldable pub is_block : ℕ → List Line → ℕ → Bool
is_block n ls g = any_below n (has_block ls g)

-- section g is an inner section of line l; of one of the first n lines
unfoldable pub has_inner : List Line → ℕ → ℕ → Bool
has_inner ls g l = eqb (line ls l).innera g or eqb (line ls l).innerb g

unfoldable pub is_inner : ℕ → List Line → ℕ → Bool
is_inner n ls g = any_below n (has_inner ls g)

-- section g is in the route's path
unfoldable pub in_path : Route → ℕ → Bool
in_path a g = among a.paths a.path g

-- signal x is an entrance signal of line l; of one of the first n lines
unfoldable pub has_entrance : List Line → ℕ → ℕ → Bool
has_entrance ls x l = eqb (line ls l).entrancea x or eqb (line ls l).entranceb x

unfoldable pub is_entrance : ℕ → List Line → ℕ → Bool
is_entrance n ls x = any_below n (has_entrance ls x)

-- rule 1, a section is a block at most once: the sections of the blocks of line l differ, and none is in a block of a line before it
unfoldable pub once : List Line → ℕ → Bool
once ls l = blocks_differ (line ls l) and not (share (λ g. has_block ls g l) (is_block l ls))

-- rule 2, line l: its two inner sections differ; its entrance signals differ from each other and from those of the lines before
unfoldable pub line_ends : List Line → ℕ → Bool
line_ends ls l = every (
    not (eqb (line ls l).innera (line ls l).innerb)
    ∷ not (eqb (line ls l).entrancea (line ls l).entranceb)
    ∷ not (is_entrance l ls (line ls l).entrancea)
    ∷ not (is_entrance l ls (line ls l).entranceb)
    ∷ [])

-- rule 3, the points of line l differ
unfoldable pub line_points : List Line → ℕ → Bool
line_points ls l = all_differ (line ls l).points (line ls l).point

-- rule 3, the sections of a path differ, the points of a route differ
unfoldable pub route_lists : Route → Bool
route_lists a = all_differ a.paths a.path and all_differ a.points a.point

-- rule 4, kinds 0 and 1 have at least two path sections
unfoldable pub route_length : Route → Bool
route_length a = eqb a.kind exit_route or leb 2 a.paths

-- rule 5: an entrance route starts at its end's entrance signal and its first path section is that inner section;
-- an exit route's last path section is its end's inner section; kinds 0 and 2 start at no entrance signal
unfoldable pub route_ends : ℕ → List Line → Route → Bool
route_ends n ls a = every (
    implies (eqb a.kind entrance_route)
    (eqb a.entry (entrance (line ls a.line) a.end) and eqb (get_or a.path 0 0) (inner (line ls a.line) a.end))
    ∷ implies (eqb a.kind exit_route) (eqb (last_section a) (inner (line ls a.line) a.end))
    ∷ (eqb a.kind entrance_route or not (is_entrance n ls a.entry))
    ∷ [])

-- point p is one of the route's, in position w
unfoldable pub has_point : ℕ → Route → ℕ → Bool
has_point w a p = any_below a.points (λ i. eqb (get_or a.position i 0) w and eqb (get_or a.point i 0) p)

-- rule 6, two routes with the same entry signal, a common path section, or a common point in different positions
unfoldable pub clashes : Route → Route → Bool
clashes a b =
    eqb a.entry b.entry or (share (in_path a) (in_path b) or (share (has_point left a) (has_point right b) or share (has_point right a) (has_point left b)))

-- rule 7 (L2), a distant announces its own carrier; the carrier is 0 if it is free-standing, else the carrying signal plus 1
unfoldable pub announces_carrier : ℕ → ℕ → Bool
announces_carrier carrier announced = eqb carrier (announced + 1)
