-- How far reading goes: lines, distants, routes, conflicts and the whole file.
use Prim.Native.Nat.{ℕ, ◌+◌, ◌<◌, ◌≤◌}
use mathlib.Core.Path.{refl}
use mathlib.Core.List.{List}
use native.Mathlib.Omega.{arith}
use lib.Dec.{eqb}
use Rattle.laws.proofs.Choice.{if_both}
use Rattle.laws.proofs.Loops.{iter_keeps}
use Rattle.track.specs.declared.Counts.{Counts}
use Rattle.track.specs.Codes.{inner_route}
use Rattle.track.specs.Sizes.{most_sections, most_points, most_signals, most_lines, most_blocks, most_distants, most_train_routes, most_conflicts, most_listed, most_overlap, last_version}
use Rattle.track.specs.SignalNumbers.{signal_count}
use Rattle.fields.specs.declared.Cursor.{Cursor}
use Rattle.fields.specs.Fields.{failed, code, reference, none_or_reference}
use Rattle.fields.specs.Lists.{items, points}
use Rattle.fields.proofs.Ranges.{code_most}
use Rattle.file_objects.specs.declared.Owned.{Owned}
use Rattle.file_objects.specs.declared.OneLine.{OneLine}
use Rattle.file_objects.specs.declared.Lines.{Lines}
use Rattle.file_objects.specs.declared.distants.Distants.{Distants}
use Rattle.file_objects.specs.declared.End.{End}
use Rattle.file_objects.specs.declared.Head.{Head}
use Rattle.file_objects.specs.declared.OneRoute.{OneRoute}
use Rattle.file_objects.specs.declared.Routes.{Routes}
use Rattle.file_objects.specs.Sections.{section_turn, sections}
use Rattle.file_objects.specs.Lines.{a_line, no_lines, line_turn, lines_from, lines}
use Rattle.file_objects.specs.Distants.{lists_none, no_distants, without_distants, distant_turn, distants_from, distants}
use Rattle.file_objects.specs.Routes.{an_end, line_and_end, route_head, a_route, no_routes, route_turn, routes_from, routes}
use Rattle.pairs.specs.declared.Pair.{Pair}
use Rattle.pairs.specs.declared.PairRead.{PairRead}
use Rattle.pairs.specs.declared.Pairs.{Pairs}
use Rattle.pairs.specs.Pairs.{no_pairs, counted, pair_count, in_order, pair_of, ordered, a_pair, pair_turn, no_pair, pairs_from, named, pairs}
use Rattle.pairs.proofs.Laws.{named_few}
use Rattle.layout.specs.Records.{Heading}
use Rattle.layout.specs.Records.{Whole}
use Rattle.layout.specs.Load.{start, heading, counts_of, whole}
use Rattle.layout.proofs.Laws.{few_signals}
use Rattle.layout_file.specs.Lengths.{line_span, head_span, route_span, heading_span, lines_span, distants_span, routes_span, pairs_span, whole_span}
use Rattle.layout_file.proofs.Near.{Alike, Near, code_near, count_near, reference_near, reference_two_near, list_near, items_near, points_near, sections_near}

-- ---- no more than there may be

-- points
sections_few : (s : List ℕ) (c : Cursor) (objects : ℕ) → (sections s c objects).count ≤ most_points
unfolding sections section_turn
sections_few s c objects =
    iter_keeps (λ i (t : Owned). t.count ≤ most_points) (section_turn s objects) _ _ (code_most s c 0 most_points refl) (λ i t l p. p)

-- lines
lines_few : (s : List ℕ) (n : Counts) (c : Cursor) → (lines s n c).count ≤ most_lines
unfolding lines lines_from line_turn
lines_few s n c = iter_keeps (λ i (t : Lines). t.count ≤ most_lines) (line_turn s n) _ _ (code_most s c 0 most_lines refl) (λ i t l p. p)

-- objects of each kind, so that a reference has one byte
record Few (n : Counts) : Type 0 where
  sections : n.sections ≤ most_sections
  points : n.points ≤ most_points
  signals : n.signals ≤ most_signals
  lines : n.lines ≤ most_lines

-- the place of a pair that was read, or of its second number where it is out of order
ordered_moved : (last : Pair) (a d : Cursor) (place : ℕ) → a.at ≤ place → d.at ≤ place → (ordered last a d).at ≤ place
unfolding ordered failed
ordered_moved last a d place l m =
    if_both (λ (x : Cursor). x.at ≤ place) (eqb d.fault 0) (λ t. if_both (λ (x : Cursor). x.at ≤ place) (in_order last (pair_of a d)) (λ u. m) (λ u. l)) (λ t. m)

module _ {s s' : List ℕ} {k : ℕ} (A : Alike s s' k) where
  -- ---- lines and routes

  module _ (n : Counts) (few : Few n) (c : Cursor) where
    -- a line
    line_near : c.at + line_span ≤ k → Near A (λ (t : OneLine). t.cur) c line_span (λ f. a_line f n c)
    unfolding a_line
    line_near h =
        let p = items_near A c 1 most_blocks n.sections (omega arith) (omega arith) (omega arith) in
        let d : Cursor = (items s c 1 most_blocks n.sections).cur in
        let a = reference_near A d n.sections (omega arith) (omega arith) in
        let e : Cursor = reference s d n.sections in
        let b = reference_near A e n.sections (omega arith) (omega arith) in
        let g : Cursor = reference s e n.sections in
        let x = reference_near A g n.signals (omega arith) (omega arith) in
        let y = reference_near A (reference s g n.signals) n.signals (omega arith) (omega arith) in
        let q = points_near A (reference s (reference s g n.signals) n.signals) n.points (omega arith) (omega arith) in
        record { same = rw (p.same, a.same, b.same, x.same, y.same, q.same); moved = omega arith }

    -- the line and the end
    end_near : c.at + 2 ≤ k → Near A (λ (t : End). t.cur) c 2 (λ f. an_end f c n.lines)
    unfolding an_end
    end_near h =
        let a = reference_near A c n.lines (omega arith) (omega arith) in
        let d = code_near A (reference s c n.lines) 0 1 (omega arith) (omega arith) in
        record { same = rw (a.same, d.same); moved = omega arith }

    -- for kinds 1 and 2
    line_end_near : c.at + 2 ≤ k → Near A (λ (t : End). t.cur) c 2 (λ f. line_and_end f c n.lines)
    unfolding line_and_end
    line_end_near h =
        let a = end_near h in
        record { same = rw a.same; moved = if_both (λ (t : End). t.cur.at ≤ c.at + 2) (eqb c.value inner_route) (λ t. omega arith) (λ t. a.moved) }

  module _ (n : Counts) (few : Few n) (c : Cursor) where
    -- what stands before a route's lists
    head_near : c.at + head_span ≤ k → Near A (λ (t : Head). t.cur) c head_span (λ f. route_head f n c)
    unfolding route_head
    head_near h =
        let a = reference_near A c n.signals (omega arith) (omega arith) in
        let d : Cursor = reference s c n.signals in
        let b = code_near A d 0 2 (omega arith) (omega arith) in
        let e = line_end_near n few (code s d 0 2) (omega arith) in
        let g = code_near A (line_and_end s (code s d 0 2) n.lines).cur 0 1 (omega arith) (omega arith) in
        record { same = rw (a.same, b.same, e.same, g.same); moved = omega arith }

    -- a route
    route_near : c.at + route_span ≤ k → Near A (λ (t : OneRoute). t.cur) c route_span (λ f. a_route f n c)
    unfolding a_route
    route_near h =
        let a = head_near (omega arith) in
        let d : Cursor = (route_head s n c).cur in
        let p = items_near A d 1 most_listed n.sections (omega arith) (omega arith) (omega arith) in
        let e : Cursor = (items s d 1 most_listed n.sections).cur in
        let o = items_near A e 0 most_overlap n.sections (omega arith) (omega arith) (omega arith) in
        let q = points_near A (items s e 0 most_overlap n.sections).cur n.points (omega arith) (omega arith) in
        record { same = rw (a.same, p.same, o.same, q.same); moved = omega arith }

    -- all lines
    lines_near : c.at + lines_span ≤ k → Near A (λ (t : Lines). t.cur) c lines_span (λ f. lines f n c)
    unfolding lines lines_from line_turn
    lines_near h =
        list_near A (λ (t : Lines). t.cur) (λ f. line_turn f n) line_span
        (λ i t o. let r = line_near n few t.cur o in record { same = rw r.same; moved = r.moved })
        c 1 most_lines (λ f. code f c 0 most_lines) (λ d. record { cur = d; count = d.value; line = no_lines }) (λ d. refl)
        (code_most s c 0 most_lines refl) (code_near A c 0 most_lines (omega arith) (omega arith)) h

  -- ---- distants

  module _ (signals : ℕ) (few : signals < 256) where
    -- a distant
    distant_near : (i : ℕ) (t : Distants) → t.cur.at + 4 ≤ k → Near A (λ (t : Distants). t.cur) t.cur 4 (λ f. distant_turn f signals i t)
    unfolding distant_turn none_or_reference
    distant_near i t h =
        let a = reference_two_near A t.cur (signals + 1) (omega arith) (omega arith) in
        let d = reference_two_near A (reference s t.cur (signals + 1)) signals (omega arith) (omega arith) in
        record { same = rw (a.same, d.same); moved = omega arith }

    -- all distants, where the version lists them
    distants_near : (version : ℕ) (c : Cursor) → c.at + distants_span ≤ k → Near A (λ (t : Distants). t.cur) c distants_span (λ f. distants f version signals c)
    unfolding distants without_distants distants_from
    distants_near version c h =
        let p = list_near A (λ (t : Distants). t.cur) (λ f. distant_turn f signals) 4 distant_near
        c 1 most_distants (λ f. code f c 0 most_distants) (λ d. record { cur = d; count = d.value; carrier = no_distants; announced = no_distants }) (λ d. refl)
        (code_most s c 0 most_distants refl) (code_near A c 0 most_distants (omega arith) (omega arith)) h in
        record {
          same = rw p.same;
          moved = if_both (λ (t : Distants). t.cur.at ≤ c.at + distants_span) (lists_none version) (λ t. omega arith) (λ t. p.moved);
        }

  -- all routes
  routes_near : (n : Counts) → Few n → (c : Cursor) → c.at + routes_span ≤ k → Near A (λ (t : Routes). t.cur) c routes_span (λ f. routes f n c)
  unfolding routes routes_from route_turn
  routes_near n few c h =
      list_near A (λ (t : Routes). t.cur) (λ f. route_turn f n) route_span
      (λ i t o. let r = route_near n few t.cur o in record { same = rw r.same; moved = r.moved })
      c 1 most_train_routes (λ f. code f c 0 most_train_routes) (λ d. record { cur = d; count = d.value; route = no_routes }) (λ d. refl)
      (code_most s c 0 most_train_routes refl) (code_near A c 0 most_train_routes (omega arith) (omega arith)) h

  -- ---- conflicts

  -- a pair
  pair_near : (n : ℕ) → n ≤ 128 → (c : Cursor) (last : Pair) → c.at + 2 ≤ k → Near A (λ (t : PairRead). t.cur) c 2 (λ f. a_pair f n c last)
  unfolding a_pair
  pair_near n few c last h =
      let a = reference_near A c n few (omega arith) in
      let d = reference_near A (reference s c n) n few (omega arith) in
      record { same = rw (a.same, d.same); moved = ordered_moved last _ _ _ (omega arith) (omega arith) }

  -- all pairs
  pairs_near : (n : ℕ) (c : Cursor) → c.at + pairs_span ≤ k → Near A (λ (t : Pairs). t.cur) c pairs_span (λ f. pairs f n c)
  unfolding pairs pairs_from pair_count counted pair_turn
  pairs_near n c h =
      list_near A (λ (t : Pairs). t.cur) (λ f. pair_turn f (named n)) 2
      (λ i t o. let r = pair_near (named n) (omega (arith, named_few n refl)) t.cur t.last o in record { same = rw r.same; moved = r.moved })
      c 2 most_conflicts (λ f. code f c 0 most_conflicts) (λ d. record { cur = (counted d).cur; last = no_pair; conflict = no_pairs }) (λ d. refl)
      (code_most s c 0 most_conflicts refl) (count_near A c (omega arith)) h

  -- ---- the file

  -- version, sections, points and signals
  heading_near : heading_span ≤ k → Near A (λ (t : Heading). t.cur) start heading_span heading
  unfolding heading
  heading_near h =
      let a = code_near A start 1 last_version (omega arith) (omega arith) in
      let d : Cursor = code s start 1 last_version in
      let n = code_near A d 1 most_sections (omega arith) (omega arith) in
      let e : Cursor = code s d 1 most_sections in
      let m = code_most s d 1 most_sections refl in
      let p = sections_near A e e.value (omega arith) (omega arith) in
      let g = code_near A (sections s e e.value).cur 0 most_signals (omega arith) (omega arith) in
      record { same = rw (a.same, n.same, p.same, g.same); moved = omega arith }

  -- the objects that it has, with so many lines
  heading_few : (l : ℕ) → l ≤ most_lines → Few (counts_of (heading s) l)
  unfolding heading counts_of
  heading_few l h = record { sections = code_most s _ 1 most_sections refl; points = sections_few s _ _; signals = code_most s _ 0 most_signals refl; lines = h }

  -- all of it
  pub whole_near : whole_span ≤ k → Near A (λ (t : Whole). t.cur) start whole_span whole
  unfolding whole
  whole_near h =
      let a = heading_near (omega arith) in
      let m : Counts = counts_of (heading s) 0 in
      let l = lines_near m (heading_few 0 (omega arith)) (heading s).cur (omega arith) in
      let b : Lines = lines s m (heading s).cur in
      let signals : ℕ = signal_count (heading s).signals b.count b.line in
      let x = distants_near signals (few_signals s (heading s) m b refl refl) (heading s).version b.cur (omega arith) in
      let d : Distants = distants s (heading s).version signals b.cur in
      let few = heading_few b.count (lines_few s m (heading s).cur) in
      let r = routes_near (counts_of (heading s) b.count) few d.cur (omega arith) in
      let e : Routes = routes s (counts_of (heading s) b.count) d.cur in
      let p = pairs_near e.count e.cur (omega arith) in
      record { same = rw (a.same, l.same, x.same, r.same, p.same); moved = omega arith }
