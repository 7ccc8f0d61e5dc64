-- Which records are layouts as section 2 has them, also those assembled by hand.
use Rattle.std.specs.Prelude.{ℕ, Bool, List, [], ◌∷◌, eqb, ltb, leb, get_or}
use Rattle.laws.specs.Tests.{◌and◌, every, all_below}
use Rattle.track.specs.Sizes.{most_sections, most_points, most_signals, most_lines, most_train_routes, last_version}
use Rattle.track.specs.Lists.{between}
use Rattle.track.specs.Ranges.{line_fits, distant_fits, route_fits}
use Rattle.file_objects.specs.Distants.{most_distants_of}
use Rattle.layout.specs.declared.Layout.{Layout}
use Rattle.layout.specs.Layout.{counts, line_in, signals_in, carrier_of, announced_by, route_in, entry_of}
use Rattle.layout.specs.Rules.{broken}

-- each of n points has a section that there is for its own
unfoldable pub sections_fit : ℕ → ℕ → List ℕ → Bool
sections_fit n sections own = all_below n (λ p. ltb (get_or own p 0) sections)

-- every count, code and reference is in its range: version 1 or 2, sections 1..64, points 0..32, signals 0..32, lines 0..8, distants 0..32 and in version 1
-- none (L2), routes 0..48; each section has heads or not, and none is told as fitted that there is not (L1)
unfoldable pub fits : Layout → Bool
fits L = every (
    between 1 last_version L.version
    ∷ between 1 most_sections L.sections
    ∷ leb L.points most_points
    ∷ sections_fit L.points L.sections L.pointsection
    ∷ leb L.signals most_signals
    ∷ leb L.lines most_lines
    ∷ all_below L.lines (λ l. line_fits (counts L) (line_in L l))
    ∷ leb L.distants (most_distants_of L.version)
    ∷ all_below L.distants (λ d. distant_fits (signals_in L) (carrier_of L d) (announced_by L d))
    ∷ leb L.routes most_train_routes
    ∷ all_below L.routes (λ r. route_fits (counts L) (route_in L r))
    ∷ all_below L.sections (λ g. leb (get_or L.fitted g 0) 1)
    ∷ eqb L.lacking 0
    ∷ [])

-- the table of conflicts says 0 or 1 of the routes r and q, and the same of q and r
unfoldable pub pair_mirrors : List ℕ → ℕ → ℕ → Bool
pair_mirrors m r q = leb (entry_of m r q) 1 and eqb (entry_of m r q) (entry_of m q r)

-- no route conflicts with itself, and each two conflict both ways or not at all
unfoldable pub row_mirrors : List ℕ → ℕ → Bool
row_mirrors m r = eqb (entry_of m r r) 0 and all_below r (pair_mirrors m r)

unfoldable pub mirrored : Layout → Bool
mirrored L = all_below L.routes (row_mirrors L.conflict)

-- in range, conflicts both ways, and no rule broken
unfoldable pub sound : Layout → Bool
sound L = every (fits L ∷ mirrored L ∷ eqb (broken L) 0 ∷ [])
