-- The lists of parts, a turn at a time: what the first turns gave, and a fault met in a turn, which the turns after it keep.
use Prim.Native.Nat.{ℕ, ◌+◌, ◌<◌, ◌≤◌}
use mathlib.Core.Path.{◌≡◌, refl, sym, ap, subst, ◌∙◌}
use mathlib.Core.List.{List}
use native.Mathlib.Numerals.{add-one}
use native.Mathlib.Omega.{arith}
use lib.ListN.{set}
use Rattle.std.specs.Prelude.{Ok}
use Rattle.laws.specs.Tables.{iter}
use Rattle.laws.proofs.Loops.{iter_same}
use Rattle.numbers.specs.declared.Fault.{Fault}
use Rattle.fields.specs.declared.Cursor.{Cursor}
use Rattle.fields.specs.Fields.{code, reference}
use Rattle.fields.specs.Reading.{Stands, Met, NumberRead}
use Rattle.fields.proofs.Laws.{code_met, reference_met, after_turns}
use Rattle.fields.proofs.Ranges.{code_most}
use Rattle.track.specs.declared.Counts.{Counts}
use Rattle.track.specs.declared.Line.{Line}
use Rattle.track.specs.declared.Route.{Route}
use Rattle.track.specs.Sizes.{most_points, most_lines, most_train_routes}
use Rattle.file_objects.specs.declared.Owned.{Owned}
use Rattle.file_objects.specs.declared.Lines.{Lines}
use Rattle.file_objects.specs.declared.Routes.{Routes}
use Rattle.file_objects.specs.Sections.{section_turn, sections, no_sections}
use Rattle.file_objects.specs.Lines.{a_line, line_turn, lines_from, lines, no_lines}
use Rattle.file_objects.specs.Routes.{a_route, route_turn, routes_from, routes, no_routes}
use Rattle.file_objects.specs.Reading.{SectionsRead, LineRead, LinesRead, RouteRead, RoutesRead}
use Rattle.file_objects.proofs.Parts.{line_met, route_met}

-- ---- the points' own sections

module _ (s : List ℕ) (c : Cursor) (objects : ℕ) where
  -- what i turns read
  abbrev pub sections_to : ℕ → Owned
  sections_to i = iter (section_turn s objects) i (record { cur = code s c 0 most_points; count = (code s c 0 most_points).value; section = no_sections })

  -- i of them are read, the last before a place
  pub record OwnedDone (count : ℕ) (section : List ℕ) (at i : ℕ) : Type 0 where
    pub counted : count ≡ (code s c 0 most_points).value
    pub stands : Stands (sections_to i).cur at
    pub is_section : section ≡ (sections_to i).section

  -- the count is read
  pub sections_begin : {count at : ℕ} → NumberRead (Ok count) at (code s c 0 most_points) → OwnedDone count no_sections at 0
  unfolding iter
  sections_begin h = record { counted = h.1; stands = h.0; is_section = refl }

  -- there are no more of them than that
  pub sections_few : {count at i : ℕ} {section : List ℕ} → OwnedDone count section at i → count ≤ most_points
  sections_few d = omega (arith, code_most s c 0 most_points refl, d.counted)

  -- each turn keeps a fault
  sections_kept : (f : Fault) (i : ℕ) (t : Owned) → Met t.cur f → Met (section_turn s objects i t).cur f
  unfolding section_turn
  sections_kept f i t h = reference_met s t.cur f h objects

  -- a fault met after i turns
  sections_stop : (f : Fault) (i : ℕ) → i ≤ (code s c 0 most_points).value → Met (sections_to i).cur f → Met (sections s c objects).cur f
  unfolding sections
  sections_stop f i l h = after_turns (λ (t : Owned). Met t.cur f) (section_turn s objects) _ (sections_kept f) i (code s c 0 most_points).value l h

  -- a fault in place of the count
  pub sections_none : {f : Fault} → Met (code s c 0 most_points) f → Met (sections s c objects).cur f
  unfolding iter
  sections_none h = sections_stop _ 0 (omega arith) h

  -- a fault before
  pub sections_met : {f : Fault} → Met c f → Met (sections s c objects).cur f
  sections_met h = sections_none (code_met s c _ h 0 most_points)

  -- one more
  pub sections_next : {count at next : ℕ} {n : ℕ} {section : List ℕ} (i : ℕ) → OwnedDone count section at i → NumberRead (Ok n) next (reference s (sections_to i).cur objects)
      → OwnedDone count (set section i n) next (i + 1)
  unfolding iter section_turn
  sections_next i d h = rw add-one (record { counted = d.counted; stands = h.0; is_section = rw (d.is_section, h.1) })

  -- a fault in place of one
  pub sections_cut : {count at : ℕ} {f : Fault} {section : List ℕ} (i : ℕ) → OwnedDone count section at i → i < count → Met (reference s (sections_to i).cur objects) f → Met (sections s c objects).cur f
  unfolding iter section_turn
  sections_cut i d l h = sections_stop _ (i + 1) (omega (arith, d.counted)) (rw add-one h)

  -- no turn changes the count
  sections_count : (i : ℕ) → (sections_to i).count ≡ (code s c 0 most_points).value
  unfolding section_turn
  sections_count i = iter_same (λ (t : Owned). t.count) (section_turn s objects) i _ (λ k t. refl)

  -- all are read
  pub sections_end : {count at : ℕ} {section : List ℕ} (i : ℕ) → OwnedDone count section at i → i ≤ count → count ≤ i
      → SectionsRead (Ok (record { count = count; section = section })) at (sections s c objects)
  unfolding sections
  sections_end {count} {at} i d l h =
      let e : i ≡ (code s c 0 most_points).value = omega (arith, d.counted) in (
        subst (λ j. Stands (sections_to j).cur at) e d.stands,
        (d.counted ∙ sym (sections_count (code s c 0 most_points).value), d.is_section ∙ ap (λ j. (sections_to j).section) e),
      )

-- ---- the lines

module _ (s : List ℕ) (n : Counts) (c : Cursor) where
  -- what i turns read
  abbrev pub lines_to : ℕ → Lines
  lines_to i = iter (line_turn s n) i (record { cur = code s c 0 most_lines; count = (code s c 0 most_lines).value; line = no_lines })

  -- i of them are read, the last before a place
  pub record LinesDone (count : ℕ) (line : List Line) (at i : ℕ) : Type 0 where
    pub counted : count ≡ (code s c 0 most_lines).value
    pub stands : Stands (lines_to i).cur at
    pub is_line : line ≡ (lines_to i).line

  -- the count is read
  pub lines_begin : {count at : ℕ} → NumberRead (Ok count) at (code s c 0 most_lines) → LinesDone count no_lines at 0
  unfolding iter
  lines_begin h = record { counted = h.1; stands = h.0; is_line = refl }

  -- there are no more of them than that
  pub lines_few : {count at i : ℕ} {line : List Line} → LinesDone count line at i → count ≤ most_lines
  lines_few d = omega (arith, code_most s c 0 most_lines refl, d.counted)

  -- each turn keeps a fault
  lines_kept : (f : Fault) (i : ℕ) (t : Lines) → Met t.cur f → Met (line_turn s n i t).cur f
  unfolding line_turn
  lines_kept f i t h = line_met s n t.cur h

  -- a fault met after i turns
  lines_stop : (f : Fault) (i : ℕ) → i ≤ (code s c 0 most_lines).value → Met (lines_to i).cur f → Met (lines s n c).cur f
  unfolding lines lines_from
  lines_stop f i l h = after_turns (λ (t : Lines). Met t.cur f) (line_turn s n) _ (lines_kept f) i (code s c 0 most_lines).value l h

  -- a fault in place of the count
  pub lines_none : {f : Fault} → Met (code s c 0 most_lines) f → Met (lines s n c).cur f
  unfolding iter
  lines_none h = lines_stop _ 0 (omega arith) h

  -- a fault before
  pub lines_met : {f : Fault} → Met c f → Met (lines s n c).cur f
  lines_met h = lines_none (code_met s c _ h 0 most_lines)

  -- one more
  pub lines_next : {count at next : ℕ} {one : Line} {line : List Line} (i : ℕ) → LinesDone count line at i → LineRead (Ok one) next (a_line s n (lines_to i).cur)
      → LinesDone count (set line i one) next (i + 1)
  unfolding iter line_turn
  lines_next i d h = rw add-one (record { counted = d.counted; stands = h.0; is_line = rw (d.is_line, h.1) })

  -- a fault in place of one
  pub lines_cut : {count at : ℕ} {f : Fault} {line : List Line} (i : ℕ) → LinesDone count line at i → i < count → Met ((a_line s n (lines_to i).cur).cur) f → Met (lines s n c).cur f
  unfolding iter line_turn
  lines_cut i d l h = lines_stop _ (i + 1) (omega (arith, d.counted)) (rw add-one h)

  -- no turn changes the count
  lines_count : (i : ℕ) → (lines_to i).count ≡ (code s c 0 most_lines).value
  unfolding line_turn
  lines_count i = iter_same (λ (t : Lines). t.count) (line_turn s n) i _ (λ k t. refl)

  -- all are read
  pub lines_end : {count at : ℕ} {line : List Line} (i : ℕ) → LinesDone count line at i → i ≤ count → count ≤ i
      → LinesRead (Ok (record { count = count; line = line })) at (lines s n c)
  unfolding lines lines_from
  lines_end {count} {at} i d l h =
      let e : i ≡ (code s c 0 most_lines).value = omega (arith, d.counted) in (
        subst (λ j. Stands (lines_to j).cur at) e d.stands,
        (d.counted ∙ sym (lines_count (code s c 0 most_lines).value), d.is_line ∙ ap (λ j. (lines_to j).line) e),
      )

-- ---- the routes

module _ (s : List ℕ) (n : Counts) (c : Cursor) where
  -- what i turns read
  abbrev pub routes_to : ℕ → Routes
  routes_to i = iter (route_turn s n) i (record { cur = code s c 0 most_train_routes; count = (code s c 0 most_train_routes).value; route = no_routes })

  -- i of them are read, the last before a place
  pub record RoutesDone (count : ℕ) (route : List Route) (at i : ℕ) : Type 0 where
    pub counted : count ≡ (code s c 0 most_train_routes).value
    pub stands : Stands (routes_to i).cur at
    pub is_route : route ≡ (routes_to i).route

  -- the count is read
  pub routes_begin : {count at : ℕ} → NumberRead (Ok count) at (code s c 0 most_train_routes) → RoutesDone count no_routes at 0
  unfolding iter
  routes_begin h = record { counted = h.1; stands = h.0; is_route = refl }

  -- there are no more of them than that
  pub routes_few : {count at i : ℕ} {route : List Route} → RoutesDone count route at i → count ≤ most_train_routes
  routes_few d = omega (arith, code_most s c 0 most_train_routes refl, d.counted)

  -- each turn keeps a fault
  routes_kept : (f : Fault) (i : ℕ) (t : Routes) → Met t.cur f → Met (route_turn s n i t).cur f
  unfolding route_turn
  routes_kept f i t h = route_met s n t.cur h

  -- a fault met after i turns
  routes_stop : (f : Fault) (i : ℕ) → i ≤ (code s c 0 most_train_routes).value → Met (routes_to i).cur f → Met (routes s n c).cur f
  unfolding routes routes_from
  routes_stop f i l h = after_turns (λ (t : Routes). Met t.cur f) (route_turn s n) _ (routes_kept f) i (code s c 0 most_train_routes).value l h

  -- a fault in place of the count
  pub routes_none : {f : Fault} → Met (code s c 0 most_train_routes) f → Met (routes s n c).cur f
  unfolding iter
  routes_none h = routes_stop _ 0 (omega arith) h

  -- a fault before
  pub routes_met : {f : Fault} → Met c f → Met (routes s n c).cur f
  routes_met h = routes_none (code_met s c _ h 0 most_train_routes)

  -- one more
  pub routes_next : {count at next : ℕ} {one : Route} {route : List Route} (i : ℕ) → RoutesDone count route at i → RouteRead (Ok one) next (a_route s n (routes_to i).cur)
      → RoutesDone count (set route i one) next (i + 1)
  unfolding iter route_turn
  routes_next i d h = rw add-one (record { counted = d.counted; stands = h.0; is_route = rw (d.is_route, h.1) })

  -- a fault in place of one
  pub routes_cut : {count at : ℕ} {f : Fault} {route : List Route} (i : ℕ) → RoutesDone count route at i → i < count → Met ((a_route s n (routes_to i).cur).cur) f → Met (routes s n c).cur f
  unfolding iter route_turn
  routes_cut i d l h = routes_stop _ (i + 1) (omega (arith, d.counted)) (rw add-one h)

  -- no turn changes the count
  routes_count : (i : ℕ) → (routes_to i).count ≡ (code s c 0 most_train_routes).value
  unfolding route_turn
  routes_count i = iter_same (λ (t : Routes). t.count) (route_turn s n) i _ (λ k t. refl)

  -- all are read
  pub routes_end : {count at : ℕ} {route : List Route} (i : ℕ) → RoutesDone count route at i → i ≤ count → count ≤ i
      → RoutesRead (Ok (record { count = count; route = route })) at (routes s n c)
  unfolding routes routes_from
  routes_end {count} {at} i d l h =
      let e : i ≡ (code s c 0 most_train_routes).value = omega (arith, d.counted) in (
        subst (λ j. Stands (routes_to j).cur at) e d.stands,
        (d.counted ∙ sym (routes_count (code s c 0 most_train_routes).value), d.is_route ∙ ap (λ j. (routes_to j).route) e),
      )
