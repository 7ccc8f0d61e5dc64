-- The rules of section 2, in their order, over all lines, routes and distants of a layout.
use Rattle.std.specs.Prelude.{ℕ, suc, Bool, not, List, [], ◌∷◌}
use Rattle.laws.specs.Choice.{when◌then◌else◌}
use Rattle.laws.specs.Tests.{◌and◌, implies, every, all_below}
use Rattle.rules.specs.Rules.{share, is_block, is_inner, in_path, once, line_ends, line_points, route_lists, route_length, route_ends, clashes, announces_carrier}
use Rattle.layout.specs.declared.Layout.{Layout}
use Rattle.layout.specs.Layout.{route_in, conflict, carrier_of, announced_by}

-- 1: a section is a block at most once in all lines, and is then in no path and no inner section
unfoldable pub rule1 : Layout → Bool
rule1 L = every (
    all_below L.lines (once L.line)
    ∷ all_below L.routes (λ r. not (share (is_block L.lines L.line) (in_path (route_in L r))))
    ∷ not (share (is_block L.lines L.line) (is_inner L.lines L.line))
    ∷ [])

-- 2: a line's two inner sections differ; all entrance signals differ
unfoldable pub rule2 : Layout → Bool
rule2 L = all_below L.lines (line_ends L.line)

-- 3: the sections of a path differ; the points of a route or a line differ
unfoldable pub rule3 : Layout → Bool
rule3 L = all_below L.routes (λ r. route_lists (route_in L r)) and all_below L.lines (line_points L.line)

-- 4: kinds 0 and 1 have at least two path sections
unfoldable pub rule4 : Layout → Bool
rule4 L = all_below L.routes (λ r. route_length (route_in L r))

-- 5: an entrance route starts at its end's entrance signal and its first path section is that inner section; an exit route's last
-- path section is its end's inner section; kinds 0 and 2 start at no entrance signal
unfoldable pub rule5 : Layout → Bool
rule5 L = all_below L.routes (λ r. route_ends L.lines L.line (route_in L r))

-- 6: two routes with the same entry signal, a common path section, or a common point in different positions are listed as conflicting
unfoldable pub rule6 : Layout → Bool
rule6 L = all_below L.routes (λ r. all_below r (λ q. implies (clashes (route_in L r) (route_in L q)) (conflict L r q)))

-- 7 (L2): no distant announces its own carrier
unfoldable pub rule7 : Layout → Bool
rule7 L = all_below L.distants (λ d. not (announces_carrier (carrier_of L d) (announced_by L d)))

-- the number of the first test that fails, the first of the list having number k; 0 where none fails
unfoldable pub first_failed : ℕ → List Bool → ℕ
first_failed k [] = 0
first_failed k (b ∷ bs) = when b then first_failed (suc k) bs else k

-- the first broken rule's number; 0 where none is broken
unfoldable pub broken : Layout → ℕ
broken L = first_failed 1 (rule1 L ∷ rule2 L ∷ rule3 L ∷ rule4 L ∷ rule5 L ∷ rule6 L ∷ rule7 L ∷ [])
