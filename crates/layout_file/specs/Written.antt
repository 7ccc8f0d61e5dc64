-- The numbers of a layout file in the order of section 2, told from the layout and not from how a file is read.
use Rattle.std.specs.Prelude.{ℕ, eqb, ltb, length, get_or}
use mathlib.Core.List.{List, [], ◌∷◌, flatten, flat_map}
use Rattle.laws.specs.Choice.{when◌then◌else◌}
use Rattle.laws.specs.Tests.{◌and◌}
use Rattle.laws.specs.Tables.{join}
use Rattle.numbers.specs.Form.{encode}
use Rattle.track.specs.declared.Line.{Line}
use Rattle.track.specs.declared.Route.{Route}
use Rattle.track.specs.Codes.{inner_route}
use Rattle.file_objects.specs.Distants.{lists_none}
use Rattle.pairs.specs.declared.Pair.{Pair}
use Rattle.layout.specs.declared.Layout.{Layout}
use Rattle.layout.specs.Layout.{line_in, route_in, conflict}

-- ---- lists

-- a list of the file: how many there are, then the numbers of each
unfoldable pub listing : ℕ → (ℕ → List ℕ) → List ℕ
listing n each = n ∷ join n each

-- a list of so many objects by their numbers
unfoldable pub item_numbers : ℕ → List ℕ → List ℕ
item_numbers n items = listing n (λ i. get_or items i 0 ∷ [])

-- points as (point, position)
unfoldable pub point_numbers : ℕ → List ℕ → List ℕ → List ℕ
point_numbers n points positions = listing n (λ i. get_or points i 0 ∷ get_or positions i 0 ∷ [])

-- ---- lines, distants and routes

-- a line: blocks and their sections from end A to end B, inner section at A, at B, entrance signal at A, at B, points
unfoldable pub line_numbers : Line → List ℕ
line_numbers a = flatten (
    item_numbers a.blocks a.block
    ∷ (a.innera ∷ a.innerb ∷ a.entrancea ∷ a.entranceb ∷ [])
    ∷ point_numbers a.points a.point a.position
    ∷ [])

-- distants (L2), from version 2 on: each 0 if free-standing or the carrying signal plus 1, then the signal announced
unfoldable pub distant_numbers : ℕ → ℕ → List ℕ → List ℕ → List ℕ
distant_numbers version n carriers announced =
    when lists_none version then [] else listing n (λ d. get_or carriers d 0 ∷ get_or announced d 0 ∷ [])

-- for kinds 1 and 2 the line and the end
unfoldable pub end_numbers : Route → List ℕ
end_numbers a = when eqb a.kind inner_route then [] else a.line ∷ a.end ∷ []

-- a route: entry signal, kind, line and end, diverging, path sections in order of travel, overlap sections, points
unfoldable pub route_numbers : Route → List ℕ
route_numbers a = flatten (
    (a.entry ∷ a.kind ∷ [])
    ∷ end_numbers a
    ∷ (a.diverging ∷ [])
    ∷ item_numbers a.paths a.path
    ∷ item_numbers a.overlaps a.overlap
    ∷ point_numbers a.points a.point a.position
    ∷ [])

-- ---- conflicts

-- the routes r and q as a pair, smaller first, where they are listed as conflicting
unfoldable pub pair_at : Layout → ℕ → ℕ → List Pair
pair_at L r q = when ltb r q and conflict L r q then record { first = r; second = q } ∷ [] else []

-- all pairs, strictly ascending
unfoldable pub pairs_of : Layout → List Pair
pairs_of L = join L.routes (λ r. join L.routes (pair_at L r))

-- the two numbers of each pair
unfoldable pub pair_numbers : List Pair → List ℕ
pair_numbers ps = flat_map (λ (p : Pair). p.first ∷ p.second ∷ []) ps

-- ---- the file

-- the parts of a file in their order: version and number of sections; points, each with its own section; number of signals; lines; distants (L2); routes;
-- conflicts. What a later version of the file adds is a part more, or more in one
unfoldable pub parts : Layout → List (List ℕ)
parts L =
    (L.version ∷ L.sections ∷ [])
    ∷ item_numbers L.points L.pointsection
    ∷ (L.signals ∷ [])
    ∷ listing L.lines (λ l. line_numbers (line_in L l))
    ∷ distant_numbers L.version L.distants L.carrier L.announced
    ∷ listing L.routes (λ r. route_numbers (route_in L r))
    ∷ (length (pairs_of L) ∷ pair_numbers (pairs_of L))
    ∷ []

-- the numbers of a layout, in the order of section 2
unfoldable pub written : Layout → List ℕ
written L = flatten (parts L)

-- numbers in the number form, one after another
unfoldable pub forms : List ℕ → List ℕ
forms ns = flat_map encode ns

-- the file of a layout
unfoldable pub file_of : Layout → List ℕ
file_of L = forms (written L)
