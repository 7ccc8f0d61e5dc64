-- A layout that was loaded has nothing beside its objects.
use Prim.Native.Nat.{ℕ}
use mathlib.Core.Path.{◌≡◌, refl, sym, subst}
use mathlib.Core.List.{List}
use borrow.Author.Tests.{eq-eqb}
use lib.ListN.{length, length-replicate}
use Rattle.laws.specs.Choice.{when◌then◌else◌}
use Rattle.laws.proofs.Choice.{if_both}
use Rattle.laws.proofs.Arrays.{nothing_at}
use Rattle.laws.proofs.Loops.{iter_keeps}
use Rattle.laws.proofs.Stores.{turns_all}
use Rattle.track.specs.declared.Counts.{Counts}
use Rattle.track.specs.declared.Route.{Route}
use Rattle.track.specs.Codes.{end_a, inner_route}
use Rattle.track.specs.Sizes.{most_points, most_lines, most_distants, most_train_routes, most_listed, most_pairs}
use Rattle.track.specs.Objects.{no_line, no_route, line, route}
use Rattle.fields.specs.declared.Cursor.{Cursor}
use Rattle.fields.specs.declared.Items.{Items}
use Rattle.fields.specs.declared.Points.{Points}
use Rattle.fields.specs.Fields.{code, reference}
use Rattle.fields.specs.Lists.{item_turn, items, point_turn, points}
use Rattle.file_objects.specs.declared.Owned.{Owned}
use Rattle.file_objects.specs.declared.Lines.{Lines}
use Rattle.file_objects.specs.declared.distants.Distants.{Distants}
use Rattle.file_objects.specs.declared.Routes.{Routes}
use Rattle.file_objects.specs.Sections.{section_turn, sections, no_sections}
use Rattle.file_objects.specs.Lines.{a_line, no_lines, line_turn, lines_from, lines}
use Rattle.file_objects.specs.Distants.{lists_none, no_distants, without_distants, carrier_read, announced_read, distant_turn, distants_from, distants}
use Rattle.file_objects.specs.Routes.{line_and_end, route_head, a_route, no_routes, route_turn, routes_from, routes}
use Rattle.pairs.specs.declared.Pairs.{Pairs}
use Rattle.pairs.specs.Pairs.{no_pairs, a_pair, pair_turn, pairs_from, named, pairs}
use Rattle.layout.specs.Layout.{line_in, route_in}
use Rattle.layout.specs.Load.{heading, whole, load}
use Rattle.layout_facts.proofs.Loaded.{loaded_whole}
use Rattle.layout_facts.proofs.LoadedCleared.{loaded_cleared, loaded_none_told}
use Rattle.layout_file.specs.Bare.{LineTables, RouteTables, Tables, Bare}
use Rattle.layout_file.proofs.Turns.{entries_long}
use Rattle.layout_file.proofs.Pairs.{listed_long}

-- ---- lists

module _ (s : List ℕ) (c : Cursor) where
  -- of numbers of objects
  items_long : (low high objects : ℕ) → length (items s c low high objects).item ≡ most_listed
  unfolding items item_turn
  items_long low high objects =
      entries_long (λ (t : Items). t.item) (λ t. (reference s t.cur objects).value) (item_turn s objects) (λ i t. refl) most_listed _ _ (length-replicate {A = ℕ} most_listed 0)

  -- of points
  point_long : (objects : ℕ) → length (points s c objects).point ≡ most_listed
  unfolding points point_turn
  point_long objects =
      entries_long (λ (t : Points). t.point) (λ t. (reference s t.cur objects).value) (point_turn s objects) (λ i t. refl) most_listed _ _ (length-replicate {A = ℕ} most_listed 0)

  -- and of their positions
  position_long : (objects : ℕ) → length (points s c objects).position ≡ most_listed
  unfolding points point_turn
  position_long objects =
      entries_long (λ (t : Points). t.position) (λ t. (code s (reference s t.cur objects) 1 2).value) (point_turn s objects) (λ i t. refl) most_listed _ _
      (length-replicate {A = ℕ} most_listed 0)

  -- the points' own sections
  sections_long : (objects : ℕ) → length (sections s c objects).section ≡ most_points
  unfolding sections section_turn no_sections
  sections_long objects =
      entries_long (λ (t : Owned). t.section) (λ t. (reference s t.cur objects).value) (section_turn s objects) (λ i t. refl) most_points _ _ (length-replicate {A = ℕ} most_points 0)

  -- the carriers of distants, and the signals that they announce
  distants_long : (version signals : ℕ) → (length (distants s version signals c).carrier ≡ most_distants) × (length (distants s version signals c).announced ≡ most_distants)
  unfolding distants without_distants distants_from distant_turn no_distants
  distants_long version signals =
      let none = length-replicate {A = ℕ} most_distants 0 in
      if_both (λ (t : Distants). (length t.carrier ≡ most_distants) × (length t.announced ≡ most_distants)) (lists_none version) (λ t. (none, none))
      (λ t. (
        entries_long (λ (t : Distants). t.carrier) (λ t. (carrier_read s signals t.cur).value) (distant_turn s signals) (λ i t. refl) most_distants _ _ none,
        entries_long (λ (t : Distants). t.announced) (λ t. (announced_read s signals t.cur).value) (distant_turn s signals) (λ i t. refl) most_distants _ _ none,
      ))

-- ---- lines and routes

-- a line and a route of nothing
pub no_line_tables : LineTables no_line
unfolding no_line
no_line_tables = record { block = refl; point = refl; position = refl }

pub no_route_tables : RouteTables no_route
unfolding no_route
no_route_tables = record { path = refl; overlap = refl; point = refl; position = refl }

-- a route of kind 0 says 0 for its line and its end
abbrev NoEnd : Route → Type 0
NoEnd a = a.kind ≡ inner_route → (a.line ≡ 0) × (a.end ≡ end_a)

-- as a route of nothing does
no_route_end : NoEnd no_route
unfolding no_route
no_route_end e = (refl, refl)

module _ (s : List ℕ) (n : Counts) (c : Cursor) where
  -- the table of lines
  lines_long : length (lines s n c).line ≡ most_lines
  unfolding lines lines_from line_turn no_lines
  lines_long = entries_long (λ (t : Lines). t.line) (λ t. (a_line s n t.cur).line) (line_turn s n) (λ i t. refl) most_lines _ _ (length-replicate most_lines no_line)

  -- the lists of each line
  lines_tables : (l : ℕ) → LineTables (line (lines s n c).line l)
  unfolding lines lines_from line_turn no_lines line a_line
  lines_tables =
      turns_all (λ (t : Lines). t.line) (λ t. (a_line s n t.cur).line) no_line (line_turn s n) (λ i t. refl) _ _ LineTables
      (λ t. record { block = items_long s _ _ _ _; point = point_long s _ _; position = position_long s _ _ }) (λ k. rw nothing_at no_line_tables)

  -- the table of routes
  routes_long : length (routes s n c).route ≡ most_train_routes
  unfolding routes routes_from route_turn no_routes
  routes_long =
      entries_long (λ (t : Routes). t.route) (λ t. (a_route s n t.cur).route) (route_turn s n) (λ i t. refl) most_train_routes _ _ (length-replicate most_train_routes no_route)

  -- the lists of each route
  routes_tables : (r : ℕ) → RouteTables (route (routes s n c).route r)
  unfolding routes routes_from route_turn no_routes route a_route
  routes_tables =
      turns_all (λ (t : Routes). t.route) (λ t. (a_route s n t.cur).route) no_route (route_turn s n) (λ i t. refl) _ _ RouteTables
      (λ t. record { path = items_long s _ _ _ _; overlap = items_long s _ _ _ _; point = point_long s _ _; position = position_long s _ _ }) (λ k. rw nothing_at no_route_tables)

-- for kind 0 no line and no end is read
no_end : (s : List ℕ) (c : Cursor) (m : ℕ) → c.value ≡ inner_route → ((line_and_end s c m).line ≡ 0) × ((line_and_end s c m).end ≡ end_a)
unfolding line_and_end when◌then◌else◌
no_end s c m e = rw (eq-eqb c.value inner_route e) (refl, refl)

module _ (s : List ℕ) (n : Counts) (c : Cursor) where
  -- so in each route
  routes_ends : (r : ℕ) → NoEnd (route (routes s n c).route r)
  unfolding routes routes_from route_turn no_routes route a_route route_head
  routes_ends =
      turns_all (λ (t : Routes). t.route) (λ t. (a_route s n t.cur).route) no_route (route_turn s n) (λ i t. refl) _ _ NoEnd
      (λ t. no_end s _ n.lines) (λ k. subst NoEnd (sym (nothing_at most_train_routes no_route k)) no_route_end)

-- ---- the layout

-- the table of conflicts
pairs_long : (s : List ℕ) (routes : ℕ) (c : Cursor) → length (pairs s routes c).conflict ≡ most_pairs
unfolding pairs pairs_from pair_turn a_pair no_pairs
pairs_long s routes c =
    iter_keeps (λ i (t : Pairs). length t.conflict ≡ most_pairs) (pair_turn s (named routes)) _ _ (length-replicate {A = ℕ} most_pairs 0)
    (λ i t l e. listed_long t.conflict _ e)

-- the tables of a whole file
whole_tables : (s : List ℕ) → Tables (whole s).layout
unfolding whole heading line_in route_in
whole_tables s = record {
  pointsection = sections_long s _ _;
  line = lines_long s _ _;
  lines = lines_tables s _ _;
  carrier = (distants_long s _ _ _).0;
  announced = (distants_long s _ _ _).1;
  route = routes_long s _ _;
  routes = routes_tables s _ _;
  conflict = pairs_long s _ _;
}

-- its routes of kind 0
whole_ends : (s : List ℕ) (r : ℕ) → NoEnd (route_in (whole s).layout r)
unfolding whole route_in
whole_ends s = routes_ends s _ _

-- a layout that loads with 0 has nothing beside its objects
pub loaded_bare : (s : List ℕ) → (load s).number ≡ 0 → Bare (load s).layout
loaded_bare s e = let p = loaded_whole s e in record { tables = rw p.2 (whole_tables s); past = loaded_cleared s e; none_told = loaded_none_told s; ends = rw p.2 (whole_ends s) }
