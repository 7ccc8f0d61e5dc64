-- The file of a sound layout that has nothing beside its objects loads as that layout.
use Prim.Native.Nat.{ℕ, ◌<◌, ◌≤◌}
use mathlib.Core.Path.{◌≡◌, refl, sym, ap, subst, ◌∙◌}
use mathlib.Core.Bool.{true}
use mathlib.Core.List.{List, [], ◌∷◌, ◌++◌, flatten}
use mathlib.Core.Logic.{◌⊎◌, inl, inr, ⊎_elim}
use native.Mathlib.Omega.{arith}
use native.Mathlib.Decide.{dec_lt}
use borrow.Author.Tests.{eq-eqb, eqb-true}
use lib.ListN.{length, get_or}
use Rattle.laws.proofs.Choice.{chosen}
use Rattle.laws.proofs.Tests.{every_at}
use Rattle.track.specs.Sizes.{most_sections, most_signals, most_routes, most_conflicts, last_version}
use Rattle.track.specs.SignalNumbers.{signal_count}
use Rattle.fields.specs.declared.Cursor.{Cursor}
use Rattle.fields.specs.Fields.{code}
use Rattle.file_objects.specs.declared.Lines.{Lines}
use Rattle.file_objects.specs.declared.distants.Distants.{Distants}
use Rattle.file_objects.specs.declared.Routes.{Routes}
use Rattle.file_objects.specs.Sections.{sections}
use Rattle.file_objects.specs.Lines.{lines}
use Rattle.file_objects.specs.Distants.{distants}
use Rattle.file_objects.specs.Routes.{routes}
use Rattle.pairs.specs.Pairs.{place_of, pairs}
use Rattle.layout.specs.declared.Layout.{Layout}
use Rattle.layout.specs.Records.{Heading}
use Rattle.layout.specs.Records.{Whole}
use Rattle.layout.specs.Layout.{line_in, route_in, signals_in, entry_of, conflict}
use Rattle.layout.specs.Rules.{broken}
use Rattle.layout.specs.Sound.{sound}
use Rattle.layout.specs.Load.{start, heading, counts_of, whole, finished, load}
use Rattle.layout_facts.specs.Plain.{Ranges, Conflicts}
use Rattle.layout_facts.proofs.Conflicts.{same_entry}
use Rattle.layout_facts.proofs.Sound.{sound_says}
use Rattle.layout_file.specs.Written.{listing, item_numbers, line_numbers, distant_numbers, route_numbers, pairs_of, pair_numbers, parts, written, file_of}
use Rattle.layout_file.specs.Bare.{Bare}
use Rattle.layout_file.proofs.Stands.{Stand, stand_first, stand_rest, stand_last, stand_own}
use Rattle.layout_file.proofs.Fields.{Clear, code_gives}
use Rattle.layout_file.proofs.Lines.{objects_of, sections_give, lines_give}
use Rattle.layout_file.proofs.Distants.{DistantsGiven, distants_give}
use Rattle.layout_file.proofs.Routes.{routes_give}
use Rattle.layout_file.proofs.PairPlaces.{pairs_by_place}
use Rattle.layout_file.proofs.PairsGiven.{Mirrored, pairs_give}
use Rattle.layout_file.proofs.Longest.{pairs_most}

-- ---- conflicts

module _ (L : Layout) (C : Conflicts L) (bare : Bare L) where
  -- two routes are there, or the table says 0 of them both ways
  there_or_none : (i j : ℕ) → i < most_routes → j < most_routes
      → ((i < L.routes) × (j < L.routes)) ⊎ ((entry_of L.conflict i j ≡ 0) × (entry_of L.conflict j i ≡ 0))
  there_or_none i j x y = by (dec_lt i L.routes) (dec_lt j L.routes)
    where
      by : Dec (i < L.routes) → Dec (j < L.routes) → ((i < L.routes) × (j < L.routes)) ⊎ ((entry_of L.conflict i j ≡ 0) × (entry_of L.conflict j i ≡ 0))
      by (yes h) (yes k) = inl (h, k)
      by (no h) k = inr (bare.past.conflicts i j x y (omega arith))
      by (yes h) (no k) = let z = bare.past.conflicts j i y x (omega arith) in inr (z.1, z.0)

  -- the table of a sound layout with nothing beside its objects
  conflicts_mirrored : Mirrored L.conflict L.routes
  unfolding entry_of conflict
  conflicts_mirrored = record {
    long = bare.tables.conflict;
    most = λ i j x y. ⊎_elim (λ h. C.entries i j h.0 h.1) (λ z. omega (arith, z.0)) (there_or_none i j x y);
    same = λ i j x y.
        ⊎_elim (λ h. same_entry _ _ (C.entries i j h.0 h.1) (C.entries j i h.1 h.0) (λ e. eqb-true _ _ (C.both_ways i j h.0 h.1 (eq-eqb _ _ e)))
        (λ e. eqb-true _ _ (C.both_ways j i h.1 h.0 (eq-eqb _ _ e)))) (λ z. z.0 ∙ sym z.1) (there_or_none i j x y);
    own = λ i x.
        ⊎_elim (λ h. let n : get_or L.conflict (place_of i i) 0 ≡ 1 → ⊥ = λ z. C.not_itself i h.0 (eq-eqb _ _ z) in omega (arith, C.entries i i h.0 h.0))
        (λ z. z.0) (there_or_none i i x x);
    there = λ i j x y e. ⊎_elim (λ h. h.1) (λ z. absurd (omega (arith, z.0))) (there_or_none i j x y);
  }

-- ---- the parts, one after another

module _ (s : List ℕ) (L : Layout) (ranges : Ranges L) (bare : Bare L) where
  -- what is read first: at its end the cursor is clear, and it has what the layout has
  record Headed (h : Heading) (next : ℕ) : Type 0 where
    clear : Clear h.cur next
    version : h.version ≡ L.version
    sections : h.sections ≡ L.sections
    points : h.points ≡ L.points
    pointsection : h.pointsection ≡ L.pointsection
    signals : h.signals ≡ L.signals

  -- version, sections, points, signals
  heading_gives : (a₁ a₂ a₃ : ℕ) → Stand s 0 (L.version ∷ L.sections ∷ []) a₁ → Stand s a₁ (item_numbers L.points L.pointsection) a₂ → Stand s a₂ (L.signals ∷ []) a₃
      → Headed (heading s) a₃
  unfolding heading
  heading_gives a₁ a₂ a₃ p₁ p₂ p₃ =
      let v = code_gives s start 1 last_version 0 L.version _ (record { none = refl; here = refl }) (stand_first s 0 a₁ (L.version ∷ []) (L.sections ∷ []) p₁) ranges.version.0 ranges.version.1 (omega arith) in
      let n = code_gives s _ 1 most_sections _ L.sections a₁ v.clear (stand_rest s 0 a₁ (L.version ∷ []) (L.sections ∷ []) p₁) ranges.section_count.0 ranges.section_count.1 (omega arith) in
      let b : Cursor = code s (code s start 1 last_version) 1 most_sections in
      let o = subst (λ m. Clear (sections s b m).cur a₂ × ((sections s b m).count ≡ L.points) × ((sections s b m).section ≡ L.pointsection)) (sym n.value)
      (sections_give s L ranges bare b a₁ a₂ n.clear p₂) in
      let d = code_gives s _ 0 most_signals a₂ L.signals a₃ o.0 p₃ (omega arith) ranges.signal_count (omega arith) in
      record { clear = d.clear; version = v.value; sections = n.value; points = o.1; pointsection = o.2; signals = d.value }

  -- so lines and routes refer to the layout's objects
  objects_known : (h : Heading) (next m n : ℕ) → Headed h next → m ≡ n → objects_of L n ≡ counts_of h m
  unfolding counts_of
  objects_known h next m n g e = rw (g.sections, g.points, g.signals, e)

  module _ (h : Heading) (a₃ a₄ a₅ a₆ next : ℕ) (g : Headed h a₃) where
    -- then lines
    abbrev all_lines : Lines
    all_lines = lines s (counts_of h 0) h.cur

    then_lines : Stand s a₃ (listing L.lines (λ l. line_numbers (line_in L l))) a₄
        → Clear all_lines.cur a₄ × (all_lines.count ≡ L.lines) × (all_lines.line ≡ L.line)
    then_lines p =
        subst (λ c. Clear (lines s c h.cur).cur a₄ × ((lines s c h.cur).count ≡ L.lines) × ((lines s c h.cur).line ≡ L.line)) (objects_known h a₃ 0 0 g refl)
        (lines_give s L ranges bare h.cur a₃ a₄ 0 g.clear p)

    -- distants, which refer to the signals of all lines
    abbrev all_distants : Distants
    all_distants = distants s h.version (signal_count h.signals all_lines.count all_lines.line) all_lines.cur

    then_distants : Clear all_lines.cur a₄ → all_lines.count ≡ L.lines → all_lines.line ≡ L.line
        → Stand s a₄ (distant_numbers L.version L.distants L.carrier L.announced) a₅ → DistantsGiven L a₅ all_distants
    unfolding signals_in
    then_distants k n same p =
        let signals : signals_in L ≡ signal_count h.signals all_lines.count all_lines.line = rw (same, n, g.signals) in
        subst (λ v. DistantsGiven L a₅ (distants s v (signal_count h.signals all_lines.count all_lines.line) all_lines.cur)) (sym g.version)
        (subst (λ m. DistantsGiven L a₅ (distants s L.version m all_lines.cur)) signals (distants_give s L ranges bare all_lines.cur a₄ a₅ k p))

    -- routes
    abbrev all_routes : Routes
    all_routes = routes s (counts_of h all_lines.count) all_distants.cur

    then_routes : Clear all_distants.cur a₅ → all_lines.count ≡ L.lines → Stand s a₅ (listing L.routes (λ r. route_numbers (route_in L r))) a₆
        → Clear all_routes.cur a₆ × (all_routes.count ≡ L.routes) × (all_routes.route ≡ L.route)
    then_routes k n p =
        subst (λ c. Clear (routes s c all_distants.cur).cur a₆ × ((routes s c all_distants.cur).count ≡ L.routes) × ((routes s c all_distants.cur).route ≡ L.route))
        (objects_known h a₃ all_lines.count L.lines g n) (routes_give s L ranges bare all_distants.cur a₅ a₆ k p)

    -- and conflicts
    then_pairs : Conflicts L → Clear all_routes.cur a₆ → all_routes.count ≡ L.routes → Stand s a₆ ((length (pairs_of L) ∷ pair_numbers (pairs_of L)) ++ []) next
        → Clear (pairs s all_routes.count all_routes.cur).cur next × ((pairs s all_routes.count all_routes.cur).conflict ≡ L.conflict)
    then_pairs C k n p =
        let by_place = pairs_by_place L ranges.route_count bare.past.conflicts in
        subst (λ m. Clear (pairs s m all_routes.cur).cur next × ((pairs s m all_routes.cur).conflict ≡ L.conflict)) (sym n)
        (pairs_give s L.conflict L.routes ranges.route_count (conflicts_mirrored L C bare)
        (subst (λ ps. length ps ≤ most_conflicts) by_place (pairs_most L ranges.route_count)) all_routes.cur a₆ next k
        (subst (λ ps. Stand s a₆ (length ps ∷ pair_numbers ps) next) by_place (stand_last s a₆ next _ p)))

  -- the whole file
  whole_gives : (C : Conflicts L) (next : ℕ) → Stand s 0 (written L) next → Clear (whole s).cur next × ((whole s).layout ≡ L)
  unfolding whole written parts flatten
  whole_gives C next p =
      let p₁ = stand_rest s 0 next (L.version ∷ L.sections ∷ []) _ p in
      let p₂ = stand_rest s _ next (item_numbers L.points L.pointsection) _ p₁ in
      let p₃ = stand_rest s _ next (L.signals ∷ []) _ p₂ in
      let p₄ = stand_rest s _ next (listing L.lines (λ l. line_numbers (line_in L l))) _ p₃ in
      let p₅ = stand_rest s _ next (distant_numbers L.version L.distants L.carrier L.announced) _ p₄ in
      let p₆ = stand_rest s _ next (listing L.routes (λ r. route_numbers (route_in L r))) _ p₅ in
      let g = heading_gives _ _ _ (stand_first s 0 next (L.version ∷ L.sections ∷ []) _ p) (stand_first s _ next (item_numbers L.points L.pointsection) _ p₁)
      (stand_first s _ next (L.signals ∷ []) _ p₂) in
      let l = then_lines (heading s) _ _ next next next g (stand_first s _ next (listing L.lines (λ l. line_numbers (line_in L l))) _ p₃) in
      let d = then_distants (heading s) _ _ _ next next g l.0 l.1 l.2 (stand_first s _ next (distant_numbers L.version L.distants L.carrier L.announced) _ p₄) in
      let r = then_routes (heading s) _ next _ _ next g d.clear l.1 (stand_first s _ next (listing L.routes (λ r. route_numbers (route_in L r))) _ p₅) in
      let q = then_pairs (heading s) _ next next _ next g C r.0 r.1 p₆ in
      (q.0, rw (bare.none_told.none_lacking, bare.none_told.fitted, q.1, r.2, r.1, d.announced, d.carrier, d.count, l.2, l.1, g.signals, g.pointsection, g.points, g.sections, g.version))

-- ---- the file of a layout

-- with no fault, at the end of the file and with no rule broken, loading answers 0 and the layout
finished_well : (w : Whole) (n : ℕ) (L : Layout) → Clear w.cur n → w.layout ≡ L → broken L ≡ 0 → finished w n ≡ record { number = 0; detail = 0; layout = L }
unfolding finished
finished_well w n L k e r =
    chosen _ _ _ (eq-eqb _ _ k.none) ∙ chosen _ _ _ (eq-eqb _ _ k.here) ∙ chosen _ _ _ (eq-eqb _ _ (ap broken e ∙ r)) ∙ ap (λ (M : Layout). record { number = 0; detail = 0; layout = M }) e

-- section 2: the file of a sound layout that has nothing beside its objects loads with 0, as that layout
pub layout_loads : (L : Layout) → sound L ≡ true → Bare L → load (file_of L) ≡ record { number = 0; detail = 0; layout = L }
unfolding load file_of sound
layout_loads L t bare =
    let S = sound_says L t in
    let w = whole_gives (file_of L) L S.ranges bare S.conflicts (length (file_of L)) (stand_own (written L)) in
    finished_well (whole (file_of L)) (length (file_of L)) L w.0 w.1 (eqb-true _ _ (every_at _ t 2))
