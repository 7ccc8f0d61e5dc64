-- A layout with nothing beside its objects (section 2): what a file cannot say is 0.
use Rattle.std.specs.Prelude.{ℕ, ◌≡◌, length}
use Rattle.track.specs.declared.Line.{Line}
use Rattle.track.specs.declared.Route.{Route}
use Rattle.track.specs.Codes.{end_a, inner_route}
use Rattle.track.specs.Sizes.{most_points, most_lines, most_distants, most_train_routes, most_pairs, most_listed}
use Rattle.layout.specs.declared.Layout.{Layout}
use Rattle.layout.specs.Layout.{line_in, route_in}
use Rattle.layout_facts.specs.Loaded.{NoneTold, ZeroPast}

-- the lists of a line, as long as the record has them
pub record LineTables (a : Line) : Type 0 where
  pub block : length a.block ≡ most_listed
  pub point : length a.point ≡ most_listed
  pub position : length a.position ≡ most_listed

-- the lists of a route
pub record RouteTables (a : Route) : Type 0 where
  pub path : length a.path ≡ most_listed
  pub overlap : length a.overlap ≡ most_listed
  pub point : length a.point ≡ most_listed
  pub position : length a.position ≡ most_listed

-- the tables of a layout, as every value of the record has them
pub record Tables (L : Layout) : Type 0 where
  pub pointsection : length L.pointsection ≡ most_points
  pub line : length L.line ≡ most_lines
  pub lines : (l : ℕ) → LineTables (line_in L l)
  pub carrier : length L.carrier ≡ most_distants
  pub announced : length L.announced ≡ most_distants
  pub route : length L.route ≡ most_train_routes
  pub routes : (r : ℕ) → RouteTables (route_in L r)
  pub conflict : length L.conflict ≡ most_pairs

-- past each count there is nothing, no section is told as fitted (L1), and a route of kind 0, which has no line and no end, says 0 for both
pub record Bare (L : Layout) : Type 0 where
  pub tables : Tables L
  pub past : ZeroPast L
  pub none_told : NoneTold L
  pub ends : (r : ℕ) → (route_in L r).kind ≡ inner_route → ((route_in L r).line ≡ 0) × ((route_in L r).end ≡ end_a)
