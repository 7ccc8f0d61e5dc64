-- The file of the full layout is the longest, and the layout has nothing beside its objects.
use Prim.Native.Nat.{ℕ, suc, ◌+◌, ◌-◌, ◌*◌, ◌<◌, ◌≤◌}
use mathlib.Core.Path.{◌≡◌, refl, sym, ◌∙◌}
use native.Mathlib.Decide.{dec_lt}
use native.Mathlib.Omega.{arith}
use borrow.Author.Tests.{ltb-true}
use lib.Dec.{ltb}
use lib.ListN.{length, get_or, replicate, length-replicate, get_or-eq_default}
use Rattle.laws.specs.Choice.{when◌then◌else◌}
use Rattle.laws.specs.Totals.{total, bit, count}
use Rattle.laws.proofs.Arrays.{nothing_at}
use Rattle.laws.proofs.Choice.{if_lt, if_ge}
use Rattle.laws.proofs.Tables.{length_table, table_at}
use Rattle.laws.proofs.Totals.{total_same, total_each, bit_all, count_above}
use Rattle.track.specs.declared.Line.{Line}
use Rattle.track.specs.declared.Route.{Route}
use Rattle.track.specs.Codes.{left, end_a, inner_route}
use Rattle.track.specs.Sizes.{most_points, most_lines, most_distants, most_train_routes, most_pairs, most_conflicts, most_listed}
use Rattle.track.specs.Objects.{no_line, no_route, line, route}
use Rattle.layout.specs.Layout.{line_in, carrier_of, announced_by, route_in, conflict}
use Rattle.layout_facts.specs.Plain.{Ranges}
use Rattle.layout_facts.specs.Loaded.{NoneTold, ZeroPast}
use Rattle.layout_facts.proofs.Sound.{sound_says}
use Rattle.layout_file.specs.Written.{route_numbers, pairs_of, file_of}
use Rattle.layout_file.specs.Bare.{LineTables, RouteTables, Tables, Bare}
use Rattle.layout_file.specs.Lengths.{line_span, route_span, longest}
use Rattle.layout_file.specs.Full.{up_from, all_left, full_lines, last_signal, full_line, full_route, full_conflict, full_layout}
use Rattle.layout_file.proofs.Loaded.{no_line_tables, no_route_tables}
use Rattle.layout_file.proofs.Sizes.{size, size_long}
use Rattle.layout_file.proofs.PartSizes.{pair_at_length, pairs_length, distant_bytes, distants_size, end_sized, route_sized, lines_size, routes_size, file_size}
use Rattle.layout_file.proofs.Full.{full_conflicts, full_route_law, full_distant, full_sound}

-- ---- its lines and routes

-- line l is the full line l where there is one
full_line_law : (l : ℕ) → l < full_lines → line_in full_layout l ≡ full_line l
unfolding line_in line full_layout
full_line_law l h = table_at most_lines _ no_line l (omega arith) ∙ sym (if_lt l full_lines (full_line l) no_line (full_line l) h refl)

-- there is no line past the last
full_line_past : (l : ℕ) → full_lines ≤ l → line_in full_layout l ≡ no_line
unfolding line_in line full_layout
full_line_past l h = one (dec_lt l most_lines)
  where
    one : Dec (l < most_lines) → line_in full_layout l ≡ no_line
    one (yes s) = table_at most_lines _ no_line l s ∙ sym (if_ge l full_lines (full_line l) no_line no_line h refl)
    one (no s) = get_or-eq_default full_layout.line no_line {n = l} (omega (arith, length_table most_lines (λ l. when ltb l full_lines then full_line l else no_line)))

-- there is no route past the last
full_route_past : (r : ℕ) → most_train_routes ≤ r → route_in full_layout r ≡ no_route
unfolding route_in route full_layout
full_route_past r h =
    get_or-eq_default (replicate most_train_routes full_route) no_route {n = r} (omega (arith, length-replicate most_train_routes full_route))

-- what holds of each full line and of no line holds of every line
each_line : (P : Line → Type 0) → ((l : ℕ) → P (full_line l)) → P no_line → (l : ℕ) → P (line_in full_layout l)
each_line P full none l = one (dec_lt l full_lines)
  where
    one : Dec (l < full_lines) → P (line_in full_layout l)
    one (yes h) = rw (full_line_law l h) (full l)
    one (no h) = rw (full_line_past l (omega arith)) none

-- and so for routes
each_route : (P : Route → Type 0) → P full_route → P no_route → (r : ℕ) → P (route_in full_layout r)
each_route P full none r = one (dec_lt r most_train_routes)
  where
    one : Dec (r < most_train_routes) → P (route_in full_layout r)
    one (yes h) = rw (full_route_law r h) full
    one (no h) = rw (full_route_past r (omega arith)) none

-- ---- its length

-- its numbers are in range
abbrev ranges : Ranges full_layout
ranges = (sound_says full_layout full_sound).ranges

-- the lines
full_lines_law : total full_lines (λ l. 6 + (line_in full_layout l).points * 2 + (line_in full_layout l).blocks) ≡ full_lines * line_span
unfolding full_line
full_lines_law = total_same full_lines _ (λ l. line_span) (λ l h. rw (full_line_law l h)) ∙ total_each full_lines line_span

-- the distants: two bytes for each of their numbers
full_bytes : total most_distants (distant_bytes full_layout) ≡ most_distants * 4
unfolding distant_bytes
full_bytes =
    total_same most_distants _ (λ d. 4) (λ d h.
    rw ((full_distant d h).0, (full_distant d h).1) (omega (arith, size_long (last_signal + 1) (omega arith) (omega arith), size_long (last_signal - 1) (omega arith) (omega arith))))
    ∙ total_each most_distants 4

-- the routes
full_sizes : total most_train_routes (λ r. size (route_numbers (route_in full_layout r))) ≡ most_train_routes * route_span
unfolding full_route full_layout
full_sizes =
    total_same most_train_routes _ (λ r. route_span) (λ r h.
    let e = full_route_law r h in
    let d : (route_in full_layout r).kind ≡ inner_route → ⊥ = rw e (λ z. omega arith) in
    (route_sized full_layout ranges r 2 h (end_sized full_layout ranges r h d)).bytes ∙ rw e)
    ∙ total_each most_train_routes route_span

-- the pairs: each two routes
full_pairs : length (pairs_of full_layout) ≡ most_conflicts
unfolding count total full_layout
full_pairs =
    pairs_length full_layout ∙ total_same most_train_routes _ (λ r. most_train_routes - suc r) (λ r h.
    total_same most_train_routes _ (λ q. bit (ltb r q)) (λ q l.
    pair_at_length full_layout r q ∙ bit_all (ltb r q) (conflict full_layout r q) (λ t. full_conflicts r q h l (λ e. omega (arith, ltb-true r q t))))
    ∙ count_above most_train_routes r)

-- all of it
pub full_length : length (file_of full_layout) ≡ longest
unfolding full_layout
full_length =
    omega (
      arith,
      file_size full_layout ranges,
      lines_size full_layout ranges,
      full_lines_law,
      distants_size full_layout (omega arith) (omega arith),
      full_bytes,
      routes_size full_layout ranges,
      full_sizes,
      full_pairs,
      size_long (length (pairs_of full_layout)) (omega (arith, full_pairs)) (omega (arith, full_pairs)),
    )

-- ---- nothing beside its objects

-- numbers from a number on have their length
up_long : (low n : ℕ) → length (up_from low n) ≡ most_listed
unfolding up_from
up_long low n = length_table most_listed _

-- and nothing past the last of them
up_past : (low n k : ℕ) → n ≤ k → get_or (up_from low n) k 0 ≡ 0
unfolding up_from
up_past low n k h = one (dec_lt k most_listed)
  where
    one : Dec (k < most_listed) → get_or (up_from low n) k 0 ≡ 0
    one (yes l) = table_at most_listed _ 0 k l ∙ sym (if_ge k n (low + k) 0 0 h refl)
    one (no l) = get_or-eq_default (up_from low n) 0 (omega (arith, up_long low n))

-- past eight entries there is nothing
past_eight : (k : ℕ) → most_listed ≤ k → get_or all_left k 0 ≡ 0
unfolding all_left
past_eight k h = get_or-eq_default (replicate most_listed left) 0 {n = k} (omega (arith, length-replicate most_listed left))

-- its tables are as long as they are to be
full_tables : Tables full_layout
unfolding full_layout full_line full_route all_left
full_tables = record {
  pointsection = length-replicate {A = ℕ} most_points 0;
  line = length_table most_lines _;
  lines = each_line LineTables (λ l. record { block = up_long _ _; point = up_long _ _; position = length-replicate most_listed left }) no_line_tables;
  carrier = length-replicate most_distants (last_signal + 1);
  announced = length-replicate most_distants (last_signal - 1);
  route = length-replicate most_train_routes full_route;
  routes = each_route RouteTables (record { path = up_long _ _; overlap = up_long _ _; point = up_long _ _; position = length-replicate most_listed left }) no_route_tables;
  conflict = length_table most_pairs full_conflict;
}

-- there is no distant past the last
full_distants_past : (d : ℕ) → most_distants ≤ d → (carrier_of full_layout d ≡ 0) × (announced_by full_layout d ≡ 0)
unfolding carrier_of announced_by full_layout
full_distants_past d h = (
  get_or-eq_default (replicate most_distants (last_signal + 1)) 0 {n = d} (omega (arith, length-replicate most_distants (last_signal + 1))),
  get_or-eq_default (replicate most_distants (last_signal - 1)) 0 {n = d} (omega (arith, length-replicate most_distants (last_signal - 1))),
)

-- past each count there is nothing
full_past : ZeroPast full_layout
unfolding full_layout full_line full_route no_line no_route
full_past = record {
  sections = λ p h. nothing_at most_points 0 p;
  lines = full_line_past;
  blocks = each_line (λ a. (k : ℕ) → a.blocks ≤ k → get_or a.block k 0 ≡ 0) (λ l k h. up_past _ _ k h) (λ k h. nothing_at most_listed 0 k);
  line_points = each_line (λ a. (k : ℕ) → a.points ≤ k → (get_or a.point k 0 ≡ 0) × (get_or a.position k 0 ≡ 0))
      (λ l k h. (up_past _ _ k h, past_eight k h)) (λ k h. (nothing_at most_listed 0 k, nothing_at most_listed 0 k));
  distants = full_distants_past;
  routes = full_route_past;
  path = each_route (λ a. (k : ℕ) → a.paths ≤ k → get_or a.path k 0 ≡ 0) (λ k h. up_past _ _ k h) (λ k h. nothing_at most_listed 0 k);
  overlap = each_route (λ a. (k : ℕ) → a.overlaps ≤ k → get_or a.overlap k 0 ≡ 0) (λ k h. up_past _ _ k h) (λ k h. nothing_at most_listed 0 k);
  route_points = each_route (λ a. (k : ℕ) → a.points ≤ k → (get_or a.point k 0 ≡ 0) × (get_or a.position k 0 ≡ 0))
      (λ k h. (up_past _ _ k h, past_eight k h)) (λ k h. (nothing_at most_listed 0 k, nothing_at most_listed 0 k));
  conflicts = λ r q h l m. absurd (omega arith);
}

-- no section is told as fitted
full_none_told : NoneTold full_layout
unfolding full_layout
full_none_told = record { fitted = refl; none_lacking = refl }

-- all of it
pub full_bare : Bare full_layout
unfolding full_route no_route
full_bare = record {
  tables = full_tables;
  past = full_past;
  none_told = full_none_told;
  ends = each_route (λ a. a.kind ≡ inner_route → (a.line ≡ 0) × (a.end ≡ end_a)) (λ e. absurd (omega arith)) (λ e. (refl, refl));
}
