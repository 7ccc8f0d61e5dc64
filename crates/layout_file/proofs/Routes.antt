-- The routes of a file, both ways.
use Prim.Native.Nat.{ℕ, ◌<◌, ◌≤◌}
use mathlib.Core.Path.{◌≡◌, refl, sym, subst, ◌∙◌}
use mathlib.Core.List.{List, [], ◌∷◌, flatten}
use mathlib.Core.Logic.{◌⊎◌}
use native.Mathlib.Omega.{arith}
use borrow.Author.Tests.{eqb-true, eqb-false}
use lib.Dec.{eqb}
use lib.ListN.{replicate, length-replicate}
use Rattle.laws.specs.Choice.{when◌then◌else◌}
use Rattle.laws.proofs.Choice.{Is, which, holds, fails}
use Rattle.numbers.specs.Form.{Bytes}
use Rattle.track.specs.declared.Counts.{Counts}
use Rattle.track.specs.declared.Route.{Route}
use Rattle.track.specs.Codes.{end_a, end_b, inner_route, entrance_route, exit_route}
use Rattle.track.specs.Sizes.{most_lines, most_train_routes, most_listed, most_overlap}
use Rattle.track.specs.Objects.{no_route, route}
use Rattle.fields.specs.declared.Cursor.{Cursor}
use Rattle.fields.specs.Fields.{code, reference}
use Rattle.fields.proofs.Ranges.{code_most}
use Rattle.file_objects.specs.declared.Routes.{Routes}
use Rattle.file_objects.specs.Routes.{an_end, line_and_end, route_head, a_route, no_routes, route_turn, routes_from, routes}
use Rattle.file_objects.proofs.Ranges.{routes_count}
use Rattle.layout.specs.declared.Layout.{Layout}
use Rattle.layout.specs.Layout.{route_in}
use Rattle.layout_facts.specs.Plain.{path, overlap, route_point, route_position, Ranges}
use Rattle.layout_facts.proofs.Order.{one_of}
use Rattle.layout_file.specs.Written.{listing, item_numbers, end_numbers, route_numbers}
use Rattle.layout_file.specs.Bare.{Bare}
use Rattle.layout_file.proofs.Stands.{Stand, stand_none, stand_here, stand_then, stand_first, stand_rest, stand_last}
use Rattle.layout_file.proofs.Fields.{code_stands, reference_stands, Clear, code_gives, reference_gives}
use Rattle.layout_file.proofs.Turns.{entries_read}
use Rattle.layout_file.proofs.Listings.{listing_stands, entries_give}
use Rattle.layout_file.proofs.Lists.{items_stand, points_stand, items_give, points_give}
use Rattle.layout_file.proofs.Lines.{objects_of}

-- the line and the end, where the kind says that there are any
abbrev ended : ℕ → ℕ → ℕ → List ℕ
ended kind line end = when eqb kind inner_route then [] else line ∷ end ∷ []

-- ---- what was read stands there

module _ (s : List ℕ) (b : Bytes s) (c : Cursor) where
  -- the line and the end, or nothing
  end_stands : (lines : ℕ) → (line_and_end s c lines).cur.fault ≡ 0
      → (c.fault ≡ 0) × Stand s c.at (ended c.value (line_and_end s c lines).line (line_and_end s c lines).end) (line_and_end s c lines).cur.at
  unfolding line_and_end an_end when◌then◌else◌
  end_stands lines = by (which (eqb c.value inner_route))
    where
      -- for kind 0 nothing is read, for the others a reference and a code
      by : Is (eqb c.value inner_route) → (line_and_end s c lines).cur.fault ≡ 0
          → (c.fault ≡ 0) × Stand s c.at (ended c.value (line_and_end s c lines).line (line_and_end s c lines).end) (line_and_end s c lines).cur.at
      by (holds t) = rw t (λ e. (e, stand_none s c.at))
      by (fails t) =
          rw t (λ e.
          let end = code_stands s b (reference s c lines) 0 1 e in
          let line = reference_stands s b c lines end.0 in
          (line.0, stand_then s line.1 end.1))

module _ (s : List ℕ) (b : Bytes s) (n : Counts) (c : Cursor) where
  -- a route: its reads one after another
  route_stands : (a_route s n c).cur.fault ≡ 0 → (c.fault ≡ 0) × Stand s c.at (route_numbers (a_route s n c).route) (a_route s n c).cur.at
  unfolding a_route route_head route_numbers end_numbers flatten
  route_stands e =
      let q = points_stand s b _ n.points e in
      let o = items_stand s b _ 0 most_overlap n.sections (omega arith) q.0 in
      let p = items_stand s b _ 1 most_listed n.sections (omega arith) o.0 in
      let diverging = code_stands s b _ 0 1 p.0 in
      let end = end_stands s b _ n.lines diverging.0 in
      let kind = code_stands s b _ 0 2 end.0 in
      let entry = reference_stands s b c n.signals kind.0 in
      let lists = stand_then s p.1 (stand_then s o.1 (stand_then s q.1 (stand_none s _))) in
      (entry.0, stand_then s (stand_then s entry.1 kind.1) (stand_then s end.1 (stand_then s diverging.1 lists)))

-- all routes
pub routes_stand : (s : List ℕ) → Bytes s → (n : Counts) (c : Cursor) → (routes s n c).cur.fault ≡ 0
    → (c.fault ≡ 0) × Stand s c.at (listing (routes s n c).count (λ r. route_numbers (route (routes s n c).route r))) (routes s n c).cur.at
unfolding routes routes_from route_turn no_routes route
routes_stand s b n c e =
    listing_stands s c 0 most_train_routes b _ _ _ (routes_count s n c)
    (entries_read s (λ (t : Routes). t.cur) (λ t. t.route) (λ t. (a_route s n t.cur).route) no_route route_numbers (route_turn s n) (λ i t. refl) most_train_routes
    _ _ (length-replicate most_train_routes no_route) (code_most s c 0 most_train_routes refl) (λ i t. route_stands s b n t.cur) e)

-- ---- what stands there is read

-- the line and the end: what is read of them where they stand, and 0 for both where the kind has none
end_gives : (s : List ℕ) (c : Cursor) (lines at kind line end next : ℕ) → Clear c at → c.value ≡ kind → lines ≤ most_lines
    → (kind ≡ inner_route → (line ≡ 0) × (end ≡ end_a)) → ((kind ≡ inner_route → ⊥) → (line < lines) × (end ≤ end_b)) → Stand s at (ended kind line end) next
    → Clear (line_and_end s c lines).cur next × ((line_and_end s c lines).line ≡ line) × ((line_and_end s c lines).end ≡ end)
unfolding line_and_end an_end when◌then◌else◌
end_gives s c lines at kind line end next k v few none some p =
    by (which (eqb c.value inner_route)) (subst (λ w. Stand s at (ended w line end) next) (sym v) p)
  where
    -- by the kind that was read
    by : Is (eqb c.value inner_route) → Stand s at (ended c.value line end) next
        → Clear (line_and_end s c lines).cur next × ((line_and_end s c lines).line ≡ line) × ((line_and_end s c lines).end ≡ end)
    by (holds t) =
        rw t (λ p.
        let z = none (sym v ∙ eqb-true c.value inner_route t) in
        (subst (Clear c) (sym (stand_here s at next p)) k, sym z.0, sym z.1))
    by (fails t) =
        rw t (λ p.
        let f = some (λ e. eqb-false c.value inner_route t (v ∙ e)) in
        let a = reference_gives s c lines at line _ k (stand_first s at next (line ∷ []) (end ∷ []) p) f.0 (omega arith) in
        let b = code_gives s _ 0 1 _ end next a.clear (stand_rest s at next (line ∷ []) (end ∷ []) p) (omega arith) f.1 (omega arith) in
        (b.clear, a.value, b.value))

-- a kind other than 0 is 1 or 2
pub beyond_inner : (kind : ℕ) → kind ≤ exit_route → (kind ≡ inner_route → ⊥) → kind ≡ entrance_route ⊎ kind ≡ exit_route
beyond_inner kind most other = one_of kind entrance_route exit_route (λ d. omega arith)

module _ (s : List ℕ) (L : Layout) (ranges : Ranges L) (bare : Bare L) where
  -- a route: what is read of it, one after another, is what it has
  route_gives : (c : Cursor) (at next r : ℕ) → Clear c at → r < L.routes → Stand s at (route_numbers (route_in L r)) next
      → Clear (a_route s (objects_of L L.lines) c).cur next × ((a_route s (objects_of L L.lines) c).route ≡ route_in L r)
  unfolding a_route route_head route_numbers end_numbers flatten path overlap route_point route_position
  route_gives c at next r k h x =
      let a : Route = route_in L r in
      let f = ranges.routes r h in
      let t = bare.tables.routes r in
      let z = bare.past in
      let few = ranges.section_count.1 in
      let x₁ = stand_rest s at next (a.entry ∷ a.kind ∷ []) _ x in
      let x₂ = stand_rest s _ next (end_numbers a) _ x₁ in
      let x₃ = stand_rest s _ next (a.diverging ∷ []) _ x₂ in
      let x₄ = stand_rest s _ next (item_numbers a.paths a.path) _ x₃ in
      let x₅ = stand_rest s _ next (item_numbers a.overlaps a.overlap) _ x₄ in
      let y = stand_first s at next (a.entry ∷ a.kind ∷ []) _ x in
      let entry = reference_gives s c L.signals at a.entry _ k (stand_first s at _ (a.entry ∷ []) (a.kind ∷ []) y) f.entry (omega (arith, ranges.signal_count)) in
      let kind = code_gives s _ 0 2 _ a.kind _ entry.clear (stand_rest s at _ (a.entry ∷ []) (a.kind ∷ []) y) (omega arith) f.kind (omega arith) in
      let end = end_gives s _ L.lines _ a.kind a.line a.end _ kind.clear kind.value ranges.line_count (bare.ends r)
      (λ e. f.line (beyond_inner a.kind f.kind e)) (stand_first s _ next (end_numbers a) _ x₁) in
      let diverging = code_gives s _ 0 1 _ a.diverging _ end.0 (stand_first s _ next (a.diverging ∷ []) _ x₂) (omega arith) f.diverging (omega arith) in
      let p = items_give s _ L.sections _ _ a.paths diverging.clear few 1 most_listed a.path f.path_count.0 f.path_count.1 (omega arith) f.paths t.path (z.path r)
      (stand_first s _ next (item_numbers a.paths a.path) _ x₃) in
      let o = items_give s _ L.sections _ _ a.overlaps p.0 few 0 most_overlap a.overlap (omega arith) f.overlap_count (omega arith) f.overlaps t.overlap (z.overlap r)
      (stand_first s _ next (item_numbers a.overlaps a.overlap) _ x₄) in
      let q = points_give s _ L.points _ next a.points o.0 (omega (arith, ranges.point_count)) a.point a.position f.point_count f.points f.positions
      (t.point, t.position) (z.route_points r) (stand_last s _ next _ x₅) in
      (q.0, rw (q.3, q.2, q.1, o.2, o.1, p.2, p.1, diverging.value, end.2, end.1, kind.value, entry.value))

  -- all routes
  pub routes_give : (c : Cursor) (at next : ℕ) → Clear c at → Stand s at (listing L.routes (λ r. route_numbers (route_in L r))) next
      → Clear (routes s (objects_of L L.lines) c).cur next × ((routes s (objects_of L L.lines) c).count ≡ L.routes)
      × ((routes s (objects_of L L.lines) c).route ≡ L.route)
  unfolding routes routes_from route_turn no_routes route_in route
  routes_give c at next k p =
      entries_give s c 0 most_train_routes (λ (t : Routes). t.cur) (λ t. t.count) (λ t. t.route) (λ t. (a_route s (objects_of L L.lines) t.cur).route) no_route
      route_numbers (route_turn s (objects_of L L.lines)) (λ i t. refl) (λ i t. refl) most_train_routes
      (λ v. record { cur = code s c 0 most_train_routes; count = v; route = replicate most_train_routes no_route }) (λ v. (refl, refl, refl))
      L.route at L.routes next k (omega arith) ranges.route_count (omega arith) ranges.route_count bare.tables.route bare.past.routes
      (λ i a b t j d q. route_gives t.cur a b i d j q) p
