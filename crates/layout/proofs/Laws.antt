-- What loading reads, put together from its parts; then the first broken rule, soundness and the answer of loading, by cases.
use Prim.Native.Nat.{ℕ, ◌+◌, ◌*◌, ◌<◌, ◌≤◌}
use mathlib.Core.Path.{◌≡◌, refl, sym, ap, ◌∙◌}
use mathlib.Core.Bool.{Bool, true, false, not}
use mathlib.Core.List.{List}
use native.Mathlib.Omega.{arith}
use borrow.Author.Rules.{rules}
use borrow.Author.Tests.{not-false, leb-true}
use lib.Dec.{eqb}
use Rattle.laws.proofs.Choice.{if_eq, if_ne}
use Rattle.laws.specs.Tests.{all_below}
use Rattle.laws.proofs.Tests.{every_at, every_stops, every_passes, every_last}
use Rattle.laws.proofs.Loops.{iter_keeps}
use Rattle.fields.specs.declared.Cursor.{Cursor}
use Rattle.numbers.specs.declared.Fault.{Fault}
use Rattle.numbers.specs.Given.{number_of, detail_of}
use Rattle.numbers.proofs.Same.{not_none}
use Rattle.std.specs.Prelude.{Ok}
use Rattle.fields.specs.Fields.{code}
use Rattle.fields.specs.Reading.{Stands, Met}
use Rattle.fields.proofs.Laws.{code_met}
use Rattle.fields.proofs.Ranges.{code_most}
use Rattle.file_objects.specs.declared.Owned.{Owned}
use Rattle.file_objects.specs.Sections.{sections}
use Rattle.file_objects.proofs.Turns.{sections_met, lines_met, routes_met}
use Rattle.file_objects.proofs.DistantTurns.{listing_met}
use Rattle.pairs.proofs.Laws.{pairs_met}
use Rattle.track.specs.declared.Line.{Line}
use Rattle.track.specs.declared.Route.{Route}
use Rattle.layout.specs.declared.file.Heading.{Heading as HeadingGiven}
use Rattle.layout.specs.Reading.{HeadingRead, WholeRead}
use lib.ListN.{length}
use Rattle.track.specs.declared.Counts.{Counts}
use Rattle.track.specs.Sizes.{last_version, most_sections, most_signals, most_lines, most_distants, most_train_routes}
use Rattle.track.specs.SignalNumbers.{signal_count}
use Rattle.track.proofs.SignalNumbers.{signals_few}
use Rattle.file_objects.specs.declared.Lines.{Lines}
use Rattle.file_objects.specs.declared.distants.Distants.{Distants}
use Rattle.file_objects.specs.declared.Routes.{Routes}
use Rattle.file_objects.specs.Lines.{lines}
use Rattle.file_objects.specs.Distants.{most_distants_of, distants}
use Rattle.file_objects.specs.Routes.{routes, routes_from, route_turn}
use Rattle.file_objects.proofs.Ranges.{lines_count, lines_blocks}
use Rattle.file_objects.proofs.DistantRanges.{version_most, distants_few}
use Rattle.pairs.specs.declared.Pairs.{Pairs}
use Rattle.pairs.specs.Pairs.{pairs}
use Rattle.layout.specs.declared.Layout.{Layout}
use Rattle.layout.specs.Records.{Heading}
use Rattle.layout.specs.Layout.{none_fitted}
use Rattle.layout.specs.Rules.{broken}
use Rattle.layout.specs.Sound.{fits, row_mirrors, mirrored, sound}
use Rattle.layout.specs.Load.{start, heading, counts_of, whole, refused, finished, load}

-- ---- what the file begins with

module _ (s : List ℕ) where
  -- the cursors behind the version and the number of sections, and the points
  abbrev pub version_read : Cursor
  version_read = code s start 1 last_version

  abbrev pub sections_read : Cursor
  sections_read = code s version_read 1 most_sections

  abbrev pub owned_read : Owned
  owned_read = sections s sections_read sections_read.value

  module _ {f : Fault} where
    -- a fault in place of its last part, and one before each part
    pub heading_cut : Met (code s owned_read.cur 0 most_signals) f → Met (heading s).cur f
    unfolding heading
    heading_cut h = h

    pub heading_cut3 : Met owned_read.cur f → Met (heading s).cur f
    heading_cut3 h = heading_cut (code_met s owned_read.cur f h 0 most_signals)

    pub heading_cut2 : Met sections_read f → Met (heading s).cur f
    heading_cut2 h = heading_cut3 (sections_met s sections_read sections_read.value h)

    pub heading_cut1 : Met version_read f → Met (heading s).cur f
    heading_cut1 h = heading_cut2 (code_met s version_read f h 1 most_sections)

  -- all of it is read
  pub heading_made : {at : ℕ} {h : HeadingGiven} → Stands (code s owned_read.cur 0 most_signals) at → h.version ≡ version_read.value
      → h.sections ≡ sections_read.value → h.points ≡ owned_read.count → h.pointsection ≡ owned_read.section
      → h.signals ≡ (code s owned_read.cur 0 most_signals).value → HeadingRead (Ok h) at (heading s)
  unfolding heading
  heading_made h e₁ e₂ e₃ e₄ e₅ = (h, (e₁, e₂, e₃, e₄, e₅))

-- ---- the whole file

module _ (s : List ℕ) where
  -- its lines, its distants, its routes and its pairs
  abbrev pub lines_there : Lines
  lines_there = lines s (counts_of (heading s) 0) (heading s).cur

  abbrev pub signals_there : ℕ
  signals_there = signal_count (heading s).signals lines_there.count lines_there.line

  abbrev pub distants_there : Distants
  distants_there = distants s (heading s).version signals_there lines_there.cur

  abbrev pub routes_there : Routes
  routes_there = routes s (counts_of (heading s) lines_there.count) distants_there.cur

  abbrev pub pairs_there : Pairs
  pairs_there = pairs s routes_there.count routes_there.cur

  module _ {f : Fault} where
    -- a fault in place of its pairs, and one before each part
    pub whole_cut : Met pairs_there.cur f → Met (whole s).cur f
    unfolding whole
    whole_cut h = h

    pub whole_cut4 : Met routes_there.cur f → Met (whole s).cur f
    whole_cut4 h = whole_cut (pairs_met s routes_there.count routes_there.cur h)

    pub whole_cut3 : Met distants_there.cur f → Met (whole s).cur f
    whole_cut3 h = whole_cut4 (routes_met s (counts_of (heading s) lines_there.count) distants_there.cur h)

    pub whole_cut2 : Met lines_there.cur f → Met (whole s).cur f
    whole_cut2 h = whole_cut3 (listing_met s (heading s).version signals_there lines_there.cur h)

    pub whole_cut1 : Met (heading s).cur f → Met (whole s).cur f
    whole_cut1 h = whole_cut2 (lines_met s (counts_of (heading s) 0) (heading s).cur h)

  -- the objects that lines and routes may refer to
  pub counts_there : {at : ℕ} {h : HeadingGiven} {n k : ℕ} → HeadingRead (Ok h) at (heading s) → n ≡ k
      → record { sections = h.sections; points = h.points; signals = h.signals; lines = n } ≡ counts_of (heading s) k
  unfolding counts_of
  counts_there h e = rw (h.1.1, h.1.2, h.1.4, e)

  -- all of it is read, with no section fitted
  pub whole_made : {a at : ℕ} {h : HeadingGiven} {l d r : ℕ} {line : List Line} {carrier announced : List ℕ} {route : List Route} {conflict none : List ℕ}
      → HeadingRead (Ok h) a (heading s) → l ≡ lines_there.count → line ≡ lines_there.line → d ≡ distants_there.count → carrier ≡ distants_there.carrier
      → announced ≡ distants_there.announced → r ≡ routes_there.count → route ≡ routes_there.route → Stands pairs_there.cur at
      → conflict ≡ pairs_there.conflict → none ≡ none_fitted
      → WholeRead
      (Ok
      (record {
        version = h.version;
        sections = h.sections;
        points = h.points;
        pointsection = h.pointsection;
        signals = h.signals;
        lines = l;
        line = line;
        distants = d;
        carrier = carrier;
        announced = announced;
        routes = r;
        route = route;
        conflict = conflict;
        fitted = none;
        lacking = 0;
      })) at (whole s)
  unfolding whole
  whole_made h e₁ e₂ e₃ e₄ e₅ e₆ e₇ p e₈ e₉ = (p, rw (h.1.0, h.1.1, h.1.2, h.1.3, h.1.4, e₁, e₂, e₃, e₄, e₅, e₆, e₇, e₈, e₉))

-- a file has so few signals that a byte holds their number: at most 32 main signals, and fourteen block signals in each of eight lines
pub few_signals : (s : List ℕ) (h : Heading) (a : Counts) (l : Lines) → h ≡ heading s → l ≡ lines s a h.cur
    → signal_count h.signals l.count l.line < 256
unfolding heading
few_signals s h a l e f =
    let mains : h.signals ≤ most_signals = rw e (code_most s _ 0 most_signals refl) in
    let few : l.count ≤ most_lines = rw f (rw (lines_count s a h.cur) (code_most s h.cur 0 most_lines refl)) in
    let all : signal_count h.signals l.count l.line ≤ h.signals + 14 * l.count = signals_few h.signals l.line l.count (λ k b. rw f (lines_blocks s a h.cur k)) in
    omega arith

-- so of the signals there
pub few_there : (s : List ℕ) → signals_there s < 256
few_there s = few_signals s (heading s) (counts_of (heading s) 0) (lines_there s) refl refl

-- a file has no more routes than there may be: the count says so, and no turn changes it
routes_few : (s : List ℕ) (n : Counts) (c : Cursor) → (routes s n c).count ≤ most_train_routes
unfolding routes routes_from route_turn
routes_few s n c =
    iter_keeps (λ i (t : Routes). t.count ≤ most_train_routes) (route_turn s n) _ _ (code_most s c 0 most_train_routes refl) (λ i b l p. p)

-- nor more distants, which its version allows
distants_most : (s : List ℕ) (version signals : ℕ) (c : Cursor) → (distants s version signals c).count ≤ most_distants
distants_most s version signals c = omega (arith, distants_few s version signals c, version_most version)

-- as many routes and distants as there may be, or fewer
abbrev pub Few : Layout → Type 0
Few L = (L.routes ≤ most_train_routes) × (L.distants ≤ most_distants)

-- so in what was read of a file
pub whole_few : (s : List ℕ) {L : Layout} → L ≡ (whole s).layout → Few L
unfolding whole
whole_few s e = rw e (routes_few s _ _, distants_most s _ _ _)

-- and in a record that is in range, each by its test: routes
pub fits_routes : (L : Layout) (v : Bool) → v ≡ fits L → not v ≡ false → L.routes ≤ most_train_routes
unfolding fits
fits_routes L v e q = leb-true _ _ (every_at _ (sym e ∙ not-false v q) 9)

-- distants
pub fits_distants : (L : Layout) (v : Bool) → v ≡ fits L → not v ≡ false → L.distants ≤ most_distants
unfolding fits
fits_distants L v e q =
    let few : L.distants ≤ most_distants_of L.version = leb-true _ _ (every_at _ (sym e ∙ not-false v q) 7) in
    omega (arith, version_most L.version)

-- ---- soundness, by cases

module _ (L : Layout) (a : Bool) (p : a ≡ fits L) where
  -- not in range: not sound
  pub sound_range : not a ≡ true → false ≡ sound L
  unfolding sound
  sound_range q = every_stops _ _ a p q

  -- in range, and the conflicts are not both ways: not sound
  pub sound_mirror : (b : Bool) → not a ≡ false → b ≡ all_below L.routes (row_mirrors L.conflict) → not b ≡ true → false ≡ sound L
  unfolding sound mirrored
  sound_mirror b q r s = every_passes _ _ a _ _ p q (every_stops _ _ b r s)

  -- in range, and they are: sound where no rule is broken
  pub sound_rules : (b : Bool) (k : ℕ) → not a ≡ false → b ≡ all_below L.routes (row_mirrors L.conflict) → not b ≡ false → k ≡ broken L → eqb k 0 ≡ sound L
  unfolding sound mirrored
  sound_rules b k q r s e = every_passes _ _ a _ _ p q (every_passes _ _ b _ _ r s (every_last _ _ (ap (λ n. eqb n 0) e)))

-- for soundness, a case at each return
pub ruleset sounds = (rules, sound_range, sound_mirror, sound_rules)

-- ---- what loading answers, by cases

module _ (s : List ℕ) where
  -- a fault was met: it, with its place
  pub load_fault : {f : Fault} → Met (whole s).cur f → refused (number_of f) (detail_of f) ≡ load s
  unfolding load finished
  load_fault {f} h = if_ne _ _ _ _ _ (λ z. not_none f (sym h.number ∙ z)) (rw (h.number, h.place))

  module _ {at : ℕ} {L : Layout} (h : WholeRead (Ok L) at (whole s)) where
    -- bytes are left over: 26, at the first of them
    pub load_left : (at ≡ length s → ⊥) → refused 26 at ≡ load s
    unfolding load finished
    load_left k = if_eq _ _ _ _ _ h.0.none (if_ne _ _ _ _ _ (λ z. k (sym h.0.place ∙ z)) (rw h.0.place))

    -- a rule is broken: 25, with its number
    pub load_rule : {b : ℕ} → at ≡ length s → b ≡ broken L → (b ≡ 0 → ⊥) → refused 25 b ≡ load s
    unfolding load finished
    load_rule k e m =
        let q : broken (whole s).layout ≡ _ = ap broken (sym h.1) ∙ sym e in
        if_eq _ _ _ _ _ h.0.none (if_eq _ _ _ _ _ (h.0.place ∙ k) (if_ne _ _ _ _ _ (λ z. m (sym q ∙ z)) (rw q)))

    -- none is: the layout
    pub load_well : at ≡ length s → broken L ≡ 0 → record { number = 0; detail = 0; layout = L } ≡ load s
    unfolding load finished
    load_well k e =
        let q : broken (whole s).layout ≡ 0 = ap broken (sym h.1) ∙ e in
        if_eq _ _ _ _ _ h.0.none (if_eq _ _ _ _ _ (h.0.place ∙ k) (if_eq _ _ _ _ _ q (rw h.1)))
