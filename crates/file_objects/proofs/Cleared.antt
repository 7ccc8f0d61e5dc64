-- Past a count there is nothing: in the points' own sections, in lines, distants and routes, and in the lists of each.
use Prim.Native.Nat.{ℕ, ◌≤◌}
use mathlib.Core.Path.{◌≡◌, refl}
use mathlib.Core.List.{List}
use lib.ListN.{get_or}
use Rattle.laws.proofs.Choice.{if_both}
use Rattle.laws.proofs.Arrays.{nothing_at}
use Rattle.laws.proofs.Stores.{turns_past, turns_all}
use Rattle.fields.specs.declared.Cursor.{Cursor}
use Rattle.fields.specs.Fields.{code, reference}
use Rattle.fields.proofs.Cleared.{items_past, points_past}
use Rattle.track.specs.declared.Counts.{Counts}
use Rattle.track.specs.declared.Line.{Line}
use Rattle.track.specs.declared.Route.{Route}
use Rattle.track.specs.Sizes.{most_points, most_lines, most_blocks, most_distants, most_train_routes, most_listed, most_overlap}
use Rattle.track.specs.Objects.{no_line, no_route, line, route}
use Rattle.file_objects.specs.declared.Owned.{Owned}
use Rattle.file_objects.specs.declared.Lines.{Lines}
use Rattle.file_objects.specs.declared.distants.Distants.{Distants}
use Rattle.file_objects.specs.declared.Routes.{Routes}
use Rattle.file_objects.specs.Sections.{section_turn, sections, no_sections}
use Rattle.file_objects.specs.Lines.{a_line, no_lines, line_turn, lines_from, lines}
use Rattle.file_objects.specs.Distants.{lists_none, no_distants, without_distants, carrier_read, announced_read, distant_turn, distants_from, distants}
use Rattle.file_objects.specs.Routes.{route_head, a_route, no_routes, route_turn, routes_from, routes}
use Rattle.file_objects.proofs.Ranges.{sections_count, lines_count, routes_count}
use Rattle.file_objects.proofs.DistantRanges.{from_count}

module _ (s : List ℕ) (c : Cursor) (objects : ℕ) where
  -- the points' own sections
  pub sections_past : (k : ℕ) → (sections s c objects).count ≤ k → get_or (sections s c objects).section k 0 ≡ 0
  unfolding sections section_turn no_sections
  sections_past k h =
      turns_past (λ (t : Owned). t.section) (λ t. (reference s t.cur objects).value) 0 (section_turn s objects) (λ i t. refl) _ _
      (nothing_at most_points 0) k (rw (sections_count s c objects) at h)

-- ---- lines

-- past the counts of a line there is 0
pub record LineCleared (a : Line) : Type 0 where
  pub blocks : (k : ℕ) → a.blocks ≤ k → get_or a.block k 0 ≡ 0
  pub points : (k : ℕ) → a.points ≤ k → (get_or a.point k 0 ≡ 0) × (get_or a.position k 0 ≡ 0)

-- a line of nothing
no_line_cleared : LineCleared no_line
unfolding no_line
no_line_cleared = record { blocks = λ k h. nothing_at most_listed 0 k; points = λ k h. (nothing_at most_listed 0 k, nothing_at most_listed 0 k) }

module _ (s : List ℕ) (n : Counts) where
  -- a line that was read
  line_past : (c : Cursor) → LineCleared (a_line s n c).line
  unfolding a_line
  line_past c = record { blocks = items_past s c 1 most_blocks n.sections; points = points_past s _ n.points }

  -- past their count there is none
  pub lines_past : (c : Cursor) (k : ℕ) → (lines s n c).count ≤ k → line (lines s n c).line k ≡ no_line
  unfolding lines lines_from line_turn no_lines line
  lines_past c k h =
      turns_past (λ (t : Lines). t.line) (λ t. (a_line s n t.cur).line) no_line (line_turn s n) (λ i t. refl) _ _
      (nothing_at most_lines no_line) k (rw (lines_count s n c) at h)

  -- past the counts of each line there is 0
  pub lines_cleared : (c : Cursor) (k : ℕ) → LineCleared (line (lines s n c).line k)
  unfolding lines lines_from line_turn no_lines line
  lines_cleared c =
      turns_all (λ (t : Lines). t.line) (λ t. (a_line s n t.cur).line) no_line (line_turn s n) (λ i t. refl) _ _
      LineCleared (λ t. line_past t.cur) (λ k. rw nothing_at no_line_cleared)

-- ---- distants

-- past their count there is none
pub distants_past : (s : List ℕ) (version signals : ℕ) (c : Cursor) (k : ℕ) → (distants s version signals c).count ≤ k
    → (get_or (distants s version signals c).carrier k 0 ≡ 0) × (get_or (distants s version signals c).announced k 0 ≡ 0)
unfolding distants without_distants distants_from distant_turn no_distants
distants_past s version signals c k =
    let d : Cursor = code s c 0 most_distants in
    if_both (λ (t : Distants). t.count ≤ k → (get_or t.carrier k 0 ≡ 0) × (get_or t.announced k 0 ≡ 0)) (lists_none version)
    (λ t h. (nothing_at most_distants 0 k, nothing_at most_distants 0 k))
    (λ t h. let l = rw (from_count s signals d) at h in (
      turns_past (λ (t : Distants). t.carrier) (λ t. (carrier_read s signals t.cur).value) 0 (distant_turn s signals) (λ i t. refl) _ _ (nothing_at most_distants 0) k l,
      turns_past (λ (t : Distants). t.announced) (λ t. (announced_read s signals t.cur).value) 0 (distant_turn s signals) (λ i t. refl) _ _
          (nothing_at most_distants 0) k l,
    ))

-- ---- routes

-- past the counts of a route there is 0
pub record RouteCleared (a : Route) : Type 0 where
  pub path : (k : ℕ) → a.paths ≤ k → get_or a.path k 0 ≡ 0
  pub overlap : (k : ℕ) → a.overlaps ≤ k → get_or a.overlap k 0 ≡ 0
  pub points : (k : ℕ) → a.points ≤ k → (get_or a.point k 0 ≡ 0) × (get_or a.position k 0 ≡ 0)

-- a route of nothing
no_route_cleared : RouteCleared no_route
unfolding no_route
no_route_cleared = record {
  path = λ k h. nothing_at most_listed 0 k;
  overlap = λ k h. nothing_at most_listed 0 k;
  points = λ k h. (nothing_at most_listed 0 k, nothing_at most_listed 0 k);
}

module _ (s : List ℕ) (n : Counts) where
  -- a route that was read
  route_past : (c : Cursor) → RouteCleared (a_route s n c).route
  unfolding a_route route_head
  route_past c = record { path = items_past s _ 1 most_listed n.sections; overlap = items_past s _ 0 most_overlap n.sections; points = points_past s _ n.points }

  -- past their count there is none
  pub routes_past : (c : Cursor) (k : ℕ) → (routes s n c).count ≤ k → route (routes s n c).route k ≡ no_route
  unfolding routes routes_from route_turn no_routes route
  routes_past c k h =
      turns_past (λ (t : Routes). t.route) (λ t. (a_route s n t.cur).route) no_route (route_turn s n) (λ i t. refl) _ _
      (nothing_at most_train_routes no_route) k (rw (routes_count s n c) at h)

  -- past the counts of each route there is 0
  pub routes_cleared : (c : Cursor) (k : ℕ) → RouteCleared (route (routes s n c).route k)
  unfolding routes routes_from route_turn no_routes route
  routes_cleared c =
      turns_all (λ (t : Routes). t.route) (λ t. (a_route s n t.cur).route) no_route (route_turn s n) (λ i t. refl) _ _
      RouteCleared (λ t. route_past t.cur) (λ k. rw nothing_at no_route_cleared)
