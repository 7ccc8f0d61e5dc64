-- What is said of the answer to a layout file, and of a layout that was loaded (section 2).
use Rattle.std.specs.Prelude.{ℕ, ◌<◌, ◌≤◌, ◌≡◌, ◌⊎◌, get_or}
use Rattle.track.specs.Sizes.{most_routes}
use Rattle.track.specs.Objects.{no_line, no_route}
use Rattle.layout.specs.declared.Layout.{Layout}
use Rattle.layout.specs.Records.{Loaded}
use Rattle.layout.specs.Layout.{none_fitted, line_in, carrier_of, announced_by, route_in, entry_of}

-- the answer is 0 or one of 21 to 26; the detail of 0 is 0, and that of 25 is the number of one of the seven rules
pub record Answered (a : Loaded) : Type 0 where
  pub numbers : (a.number ≡ 0) ⊎ ((21 ≤ a.number) × (a.number ≤ 26))
  pub well : a.number ≡ 0 → a.detail ≡ 0
  pub rule : a.number ≡ 25 → (1 ≤ a.detail) × (a.detail ≤ 7)

-- no section is told as fitted: what a layout file cannot say (L1)
pub record NoneTold (L : Layout) : Type 0 where
  pub fitted : L.fitted ≡ none_fitted
  pub none_lacking : L.lacking ≡ 0

-- past each count there is nothing, and in the lists of a line, of distants (L2) or of a route 0
pub record ZeroPast (L : Layout) : Type 0 where
  pub sections : (p : ℕ) → L.points ≤ p → get_or L.pointsection p 0 ≡ 0
  pub lines : (l : ℕ) → L.lines ≤ l → line_in L l ≡ no_line
  pub blocks : (l k : ℕ) → (line_in L l).blocks ≤ k → get_or (line_in L l).block k 0 ≡ 0
  pub line_points : (l k : ℕ) → (line_in L l).points ≤ k → (get_or (line_in L l).point k 0 ≡ 0) × (get_or (line_in L l).position k 0 ≡ 0)
  pub distants : (d : ℕ) → L.distants ≤ d → (carrier_of L d ≡ 0) × (announced_by L d ≡ 0)
  pub routes : (r : ℕ) → L.routes ≤ r → route_in L r ≡ no_route
  pub path : (r k : ℕ) → (route_in L r).paths ≤ k → get_or (route_in L r).path k 0 ≡ 0
  pub overlap : (r k : ℕ) → (route_in L r).overlaps ≤ k → get_or (route_in L r).overlap k 0 ≡ 0
  pub route_points : (r k : ℕ) → (route_in L r).points ≤ k → (get_or (route_in L r).point k 0 ≡ 0) × (get_or (route_in L r).position k 0 ≡ 0)
  pub conflicts : (r q : ℕ) → r < most_routes → q < most_routes → L.routes ≤ r → (entry_of L.conflict r q ≡ 0) × (entry_of L.conflict q r ≡ 0)
