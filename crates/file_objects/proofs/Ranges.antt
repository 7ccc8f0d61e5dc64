-- What a reading says of the points' sections, the lines and the routes: with no fault all is in range.
use Prim.Native.Nat.{ℕ, ◌<◌, ◌≤◌}
use mathlib.Core.Path.{◌≡◌, refl}
use mathlib.Core.Bool.{true}
use mathlib.Core.List.{List}
use native.Mathlib.Omega.{arith}
use borrow.Author.Tests.{lt-ltb, le-leb}
use lib.Dec.{eqb, ltb, leb}
use lib.ListN.{get_or, length-replicate}
use Rattle.laws.specs.Tests.{◌and◌, ◌or◌}
use Rattle.laws.proofs.Choice.{if_both}
use Rattle.laws.proofs.Tests.{and_both, or_left, or_right, every_one, every_more, all_from}
use Rattle.laws.proofs.Loops.{iter_keeps, iter_same}
use Rattle.laws.proofs.Arrays.{nothing_at}
use Rattle.laws.proofs.Stores.{turns_each, turns_all}
use Rattle.fields.specs.declared.Cursor.{Cursor}
use Rattle.fields.specs.declared.Points.{Points}
use Rattle.fields.specs.Fields.{code, reference}
use Rattle.fields.proofs.Ranges.{Known, code_known, code_most, code_in, reference_known, reference_in, items_known, items_count, items_in, PointsIn, points_known, points_in}
use Rattle.track.specs.declared.Counts.{Counts}
use Rattle.track.specs.declared.Line.{Line}
use Rattle.track.specs.Sizes.{most_points, most_lines, most_blocks, most_train_routes, most_listed, most_overlap}
use Rattle.track.specs.Objects.{no_line, no_route, line, route}
use Rattle.track.specs.Lists.{between, referring, positions}
use Rattle.track.specs.Ranges.{points_fit, line_fits, route_fits}
use Rattle.file_objects.specs.declared.Owned.{Owned}
use Rattle.file_objects.specs.declared.Lines.{Lines}
use Rattle.file_objects.specs.declared.End.{End}
use Rattle.file_objects.specs.declared.Routes.{Routes}
use Rattle.file_objects.specs.Sections.{section_turn, sections, no_sections}
use Rattle.file_objects.specs.Lines.{a_line, no_lines, line_turn, lines_from, lines}
use Rattle.file_objects.specs.Routes.{an_end, line_and_end, route_head, a_route, no_routes, route_turn, routes_from, routes}

-- ---- the tests of a line and of a route, from what was read

-- a number in its range
pub between_from : (low high x : ℕ) → low ≤ x → x ≤ high → between low high x ≡ true
unfolding between
between_from low high x l h = and_both _ _ (le-leb low x l) (le-leb x high h)

-- references to objects that there are
referring_from : (n objects : ℕ) (xs : List ℕ) → ((k : ℕ) → k < n → get_or xs k 0 < objects) → referring n objects xs ≡ true
unfolding referring
referring_from n objects xs h = all_from n _ (λ k l. lt-ltb _ objects (h k l))

-- points with positions
points_fit_from : (objects : ℕ) (t : Points) → PointsIn objects t → points_fit objects t.count t.point t.position ≡ true
unfolding points_fit positions
points_fit_from objects t p =
    every_more _ _ _ (le-leb _ most_listed p.most) (every_more _ _ _ (referring_from _ objects _ p.points)
    (every_one _ (all_from _ _ (λ k l. let w = p.positions k l in between_from 1 2 _ w.0 w.1))))

-- ---- the points' own sections

-- the count and the sections are in range
pub record OwnedIn (objects : ℕ) (t : Owned) : Type 0 where
  pub most : t.count ≤ most_points
  pub each : (k : ℕ) → k < t.count → get_or t.section k 0 < objects

module _ (s : List ℕ) (c : Cursor) (objects : ℕ) where
  -- their fault is known where the fault before is
  pub sections_known : Known c → Known (sections s c objects).cur
  unfolding sections section_turn
  sections_known p =
      iter_keeps (λ i (t : Owned). Known t.cur) (section_turn s objects) _ _ (code_known s c 0 most_points p) (λ i t l q. reference_known s t.cur objects q)

  -- their count is the number read first
  pub sections_count : (sections s c objects).count ≡ (code s c 0 most_points).value
  unfolding sections section_turn
  sections_count = iter_same (λ (t : Owned). t.count) (section_turn s objects) _ _ (λ i t. refl)

  -- with no fault they are in range
  pub sections_in : (sections s c objects).cur.fault ≡ 0 → (c.fault ≡ 0) × OwnedIn objects (sections s c objects)
  unfolding sections section_turn no_sections
  sections_in e =
      let n = sections_count in
      let m = code_most s c 0 most_points refl in
      let r = turns_each (λ (t : Owned). t.section) (λ t. (reference s t.cur objects).value) 0 (section_turn s objects) (λ i t. refl) _ _
      (λ v. v < objects) (λ (t : Owned). t.cur.fault ≡ 0) most_points (length-replicate {A = ℕ} most_points 0) m (λ i t. reference_in s t.cur objects) e in
      ((code_in s c 0 most_points r.0).0, record { most = omega arith; each = λ k l. r.1 k (omega arith) })

-- ---- a line

module _ (s : List ℕ) (n : Counts) (c : Cursor) where
  -- its fault is known where the fault before is
  line_known : Known c → Known (a_line s n c).cur
  unfolding a_line
  line_known k =
      points_known s _ _ (reference_known s _ _ (reference_known s _ _ (reference_known s _ _ (reference_known s _ _ (items_known s c 1 most_blocks n.sections k)))))

  -- with no fault it is in range
  line_in : (a_line s n c).cur.fault ≡ 0 → (c.fault ≡ 0) × (line_fits n (a_line s n c).line ≡ true)
  unfolding a_line line_fits
  line_in e =
      let p = points_in s _ n.points e in
      let entranceb = reference_in s _ n.signals p.0 in
      let entrancea = reference_in s _ n.signals entranceb.0 in
      let innerb = reference_in s _ n.sections entrancea.0 in
      let innera = reference_in s _ n.sections innerb.0 in
      let b = items_in s c 1 most_blocks n.sections (omega arith) innera.0 in (
        b.0,
        every_more _ _ _ (between_from 1 most_blocks _ b.1.least b.1.most) (every_more _ _ _ (referring_from _ _ _ b.1.each)
            (every_more _ _ _ (lt-ltb _ _ innera.1) (every_more _ _ _ (lt-ltb _ _ innerb.1) (every_more _ _ _ (lt-ltb _ _ entrancea.1)
            (every_more _ _ _ (lt-ltb _ _ entranceb.1) (every_one _ (points_fit_from n.points _ p.1))))))),
      )

-- ---- the lines

-- the count and the lines are in range
pub record LinesIn (n : Counts) (t : Lines) : Type 0 where
  pub most : t.count ≤ most_lines
  pub each : (k : ℕ) → k < t.count → line_fits n (line t.line k) ≡ true

module _ (s : List ℕ) (n : Counts) (c : Cursor) where
  -- their fault is known where the fault before is
  pub lines_known : Known c → Known (lines s n c).cur
  unfolding lines lines_from line_turn
  lines_known p = iter_keeps (λ i (t : Lines). Known t.cur) (line_turn s n) _ _ (code_known s c 0 most_lines p) (λ i t l q. line_known s n t.cur q)

  -- their count is the number read first
  pub lines_count : (lines s n c).count ≡ (code s c 0 most_lines).value
  unfolding lines lines_from line_turn
  lines_count = iter_same (λ (t : Lines). t.count) (line_turn s n) _ _ (λ i t. refl)

  -- no line has more blocks than there may be, also where a fault was met
  pub lines_blocks : (k : ℕ) → (line (lines s n c).line k).blocks ≤ most_blocks
  unfolding lines lines_from line_turn no_lines line a_line no_line
  lines_blocks =
      turns_all (λ (t : Lines). t.line) (λ t. (a_line s n t.cur).line) no_line (line_turn s n) (λ i t. refl) _ _ (λ (a : Line). a.blocks ≤ most_blocks)
      (λ t. rw (items_count s t.cur 1 most_blocks n.sections) (code_most s t.cur 1 most_blocks refl)) (λ k. rw (nothing_at most_lines no_line k) (omega arith))

  -- with no fault they are in range
  pub lines_in : (lines s n c).cur.fault ≡ 0 → (c.fault ≡ 0) × LinesIn n (lines s n c)
  unfolding lines lines_from line_turn no_lines line
  lines_in e =
      let m = lines_count in
      let few = code_most s c 0 most_lines refl in
      let r = turns_each (λ (t : Lines). t.line) (λ t. (a_line s n t.cur).line) no_line (line_turn s n) (λ i t. refl) _ _
      (λ a. line_fits n a ≡ true) (λ (t : Lines). t.cur.fault ≡ 0) most_lines (length-replicate most_lines no_line) few (λ i t. line_in s n t.cur) e in
      ((code_in s c 0 most_lines r.0).0, record { most = omega arith; each = λ k l. r.1 k (omega arith) })

-- ---- a route

module _ (s : List ℕ) (c : Cursor) (lines : ℕ) where
  -- the fault of a line and an end is known where the fault before is
  end_known : Known c → Known (line_and_end s c lines).cur
  unfolding line_and_end an_end
  end_known k = if_both (λ (e : End). Known e.cur) (eqb c.value 0) (λ t. k) (λ t. code_known s _ 0 1 (reference_known s c lines k))

  -- with no fault they are in range, where the kind asks for them
  end_in : (line_and_end s c lines).cur.fault ≡ 0
      → (c.fault ≡ 0) × (eqb c.value 0 or (ltb (line_and_end s c lines).line lines and leb (line_and_end s c lines).end 1) ≡ true)
  unfolding line_and_end an_end
  end_in =
      if_both (λ (e : End). e.cur.fault ≡ 0 → (c.fault ≡ 0) × (eqb c.value 0 or (ltb e.line lines and leb e.end 1) ≡ true)) (eqb c.value 0)
      (λ t e. (e, or_left _ _ t))
      (λ t e.
      let l = reference_in s c lines (code_in s (reference s c lines) 0 1 e).0 in
      (l.0, or_right _ _ (and_both _ _ (lt-ltb _ _ l.1) (le-leb _ _ (code_most s (reference s c lines) 0 1 refl)))))

module _ (s : List ℕ) (n : Counts) (c : Cursor) where
  -- its fault is known where the fault before is
  route_known : Known c → Known (a_route s n c).cur
  unfolding a_route route_head
  route_known k =
      points_known s _ _ (items_known s _ 0 most_overlap _ (items_known s _ 1 most_listed _
      (code_known s _ 0 1 (end_known s _ n.lines (code_known s _ 0 2 (reference_known s c n.signals k))))))

  -- with no fault it is in range
  route_in : (a_route s n c).cur.fault ≡ 0 → (c.fault ≡ 0) × (route_fits n (a_route s n c).route ≡ true)
  unfolding a_route route_head route_fits
  route_in e =
      let q = points_in s _ n.points e in
      let o = items_in s _ 0 most_overlap n.sections (omega arith) q.0 in
      let p = items_in s _ 1 most_listed n.sections (omega arith) o.0 in
      let diverging = code_in s _ 0 1 p.0 in
      let end = end_in s _ n.lines diverging.0 in
      let kind = code_in s _ 0 2 end.0 in
      let entry = reference_in s c n.signals kind.0 in (
        entry.0,
        every_more _ _ _ (and_both _ _ (lt-ltb _ _ entry.1) (le-leb _ _ (code_most s _ 0 2 refl))) (every_more _ _ _ end.1
            (every_more _ _ _ (le-leb _ _ (code_most s _ 0 1 refl)) (every_more _ _ _ (between_from 1 most_listed _ p.1.least p.1.most)
            (every_more _ _ _ (referring_from _ _ _ p.1.each) (every_more _ _ _ (le-leb _ most_overlap o.1.most)
            (every_more _ _ _ (referring_from _ _ _ o.1.each) (every_one _ (points_fit_from n.points _ q.1)))))))),
      )

-- ---- the routes

-- the count and the routes are in range
pub record RoutesIn (n : Counts) (t : Routes) : Type 0 where
  pub most : t.count ≤ most_train_routes
  pub each : (k : ℕ) → k < t.count → route_fits n (route t.route k) ≡ true

module _ (s : List ℕ) (n : Counts) (c : Cursor) where
  -- their fault is known where the fault before is
  pub routes_known : Known c → Known (routes s n c).cur
  unfolding routes routes_from route_turn
  routes_known p = iter_keeps (λ i (t : Routes). Known t.cur) (route_turn s n) _ _ (code_known s c 0 most_train_routes p) (λ i t l q. route_known s n t.cur q)

  -- their count is the number read first
  pub routes_count : (routes s n c).count ≡ (code s c 0 most_train_routes).value
  unfolding routes routes_from route_turn
  routes_count = iter_same (λ (t : Routes). t.count) (route_turn s n) _ _ (λ i t. refl)

  -- with no fault they are in range
  pub routes_in : (routes s n c).cur.fault ≡ 0 → (c.fault ≡ 0) × RoutesIn n (routes s n c)
  unfolding routes routes_from route_turn no_routes route
  routes_in e =
      let m = routes_count in
      let few = code_most s c 0 most_train_routes refl in
      let r = turns_each (λ (t : Routes). t.route) (λ t. (a_route s n t.cur).route) no_route (route_turn s n) (λ i t. refl) _ _
      (λ a. route_fits n a ≡ true) (λ (t : Routes). t.cur.fault ≡ 0) most_train_routes (length-replicate most_train_routes no_route) few (λ i t. route_in s n t.cur) e in
      ((code_in s c 0 most_train_routes r.0).0, record { most = omega arith; each = λ k l. r.1 k (omega arith) })
