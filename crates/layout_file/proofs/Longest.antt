-- No file of a sound layout has more than 4,363 bytes: what the sections, the signals, the routes and the pairs of routes leave room for.
use Prim.Native.Nat.{ℕ, suc, ◌+◌, ◌-◌, ◌*◌, ◌<◌, ◌≤◌}
use mathlib.Core.Path.{◌≡◌, sym, ◌∙◌}
use mathlib.Core.Bool.{Bool, true}
use native.Mathlib.Nat.{mul-le-mul_right}
use native.Mathlib.Decide.{ℕ_discrete, dec_lt}
use native.Mathlib.Omega.{arith}
use borrow.Author.Tests.{eqb-true}
use lib.Dec.{eqb, ltb}
use lib.ListN.{length}
use Rattle.laws.specs.Tests.{◌or◌, any_below}
use Rattle.laws.specs.Totals.{total, bit, count}
use Rattle.laws.proofs.Tests.{any_some}
use Rattle.laws.proofs.Totals.{total_same, total_below, total_more, total_each, total_sum, bit_both, count_most, count_one, count_above, count_or, count_any}
use Rattle.track.specs.Codes.{inner_route}
use Rattle.track.specs.Sizes.{most_sections, most_blocks, most_distants, most_train_routes, most_conflicts, most_listed}
use Rattle.track.specs.Blocks.{only_section, in_block}
use Rattle.track.proofs.OnlySection.{only_in}
use Rattle.file_objects.specs.Distants.{distants_version}
use Rattle.layout.specs.declared.Layout.{Layout}
use Rattle.layout.specs.Layout.{line_in, signals_in, carrier_of, announced_by, route_in, conflict}
use Rattle.layout.specs.Sound.{sound}
use Rattle.layout_facts.specs.Plain.{InBlock, path, Ranges, Sound}
use Rattle.layout_facts.proofs.Ranges.{carrier_few}
use Rattle.layout_facts.proofs.Sound.{sound_says}
use Rattle.layout_file.specs.Written.{route_numbers, pair_at, pairs_of, file_of}
use Rattle.layout_file.specs.Lengths.{line_span, route_span, heading_span, pairs_span, longest}
use Rattle.layout_file.proofs.Sizes.{size, size_short, size_two}
use Rattle.layout_file.proofs.PartSizes.{pair_at_length, pairs_length, distant_part, distant_bytes, no_distants_size, distants_size, no_end_sized, end_sized, route_sized, lines_size, routes_size, file_size}
use Rattle.layout_file.proofs.Signals.{signals_blocks, blocks_most, signals_most}

-- the most bytes of a line but for its blocks, and of a route but for its path sections
abbrev line_rest : ℕ
line_rest = line_span - most_blocks

abbrev route_rest : ℕ
route_rest = route_span - most_listed

-- ---- pairs

module _ (L : Layout) where
  -- route r comes first in no more pairs than there are routes above it
  pub pairs_most : L.routes ≤ most_train_routes → length (pairs_of L) ≤ most_conflicts
  unfolding count total
  pairs_most few =
      let n = L.routes in
      let above : ℕ → ℕ = λ r. most_train_routes - suc r in
      let rows : total n (λ r. total n (λ q. length (pair_at L r q))) ≤ total n above =
      total_below n _ above (λ r h.
      omega (
        arith,
        count_above n r,
        total_below n (λ q. length (pair_at L r q)) (λ q. bit (ltb r q)) (λ q l. omega (arith, pair_at_length L r q, bit_both (ltb r q) (conflict L r q))),
      )) in
      omega (arith, pairs_length L, total_more n most_train_routes above few)

-- ---- sections

module _ (L : Layout) (S : Sound L) where
  -- section g is in a block of line l; of some line; in the path of route r
  of_line : ℕ → ℕ → Bool
  of_line l g = any_below (line_in L l).blocks (λ i. in_block (line_in L l) i g)

  of_lines : ℕ → Bool
  of_lines g = any_below L.lines (λ l. of_line l g)

  of_path : ℕ → ℕ → Bool
  of_path r g = any_below (route_in L r).paths (λ j. eqb (path L r j) g)

  -- each block has one section, and no section is in two blocks: as many sections are in blocks as there are blocks
  blocks_counted : count most_sections of_lines ≡ total L.lines (λ l. (line_in L l).blocks)
  unfolding of_line of_lines InBlock in_block
  blocks_counted =
      count_any most_sections L.lines of_line (λ l k g hl hk t u.
      let i = any_some _ _ t in
      let j = any_some _ _ u in
      (S.rule1.once l i.0 k j.0 g hl i.1 hk j.1 i.2 j.2).0)
      ∙ total_same L.lines _ _ (λ l hl.
      count_any most_sections (line_in L l).blocks (λ i g. in_block (line_in L l) i g) (λ i j g hi hj t u. (S.rule1.once l i l j g hl hi hl hj t u).1)
      ∙ total_same (line_in L l).blocks _ (λ i. 1) (λ i hi.
      let g = (S.ranges.lines l hl).blocks i (only_section (line_in L l) i) hi (only_in (line_in L l) i) in
      count_one most_sections (only_section (line_in L l) i) (omega (arith, S.ranges.section_count.1)))
      ∙ omega (arith, total_each (line_in L l).blocks 1))

  module _ (r : ℕ) (h : r < L.routes) where
    -- the sections of a path differ
    path_counted : count most_sections (of_path r) ≡ (route_in L r).paths
    unfolding of_path
    path_counted =
        count_any most_sections (route_in L r).paths (λ j. eqb (path L r j))
        (λ i j g hi hj t u. S.rule3.paths r i j h hi hj (eqb-true _ g t ∙ sym (eqb-true _ g u)))
        ∙ total_same (route_in L r).paths _ (λ j. 1) (λ j hj.
        count_one most_sections (path L r j) (omega (arith, (S.ranges.routes r h).paths j hj, S.ranges.section_count.1)))
        ∙ omega (arith, total_each (route_in L r).paths 1)

    -- no path section is in a block: all blocks and one path have no more than all sections
    room : total L.lines (λ l. (line_in L l).blocks) + (route_in L r).paths ≤ most_sections
    unfolding of_line of_lines of_path InBlock
    room =
        let apart : (g : ℕ) → of_lines g ≡ true → of_path r g ≡ true → ⊥ = λ g t u.
        let l = any_some L.lines (λ l. of_line l g) t in
        let i = any_some (line_in L l.0).blocks (λ i. in_block (line_in L l.0) i g) l.2 in
        let j = any_some (route_in L r).paths (λ j. eqb (path L r j) g) u in
        S.rule1.no_path l.0 i.0 r j.0 l.1 i.1 h j.1 (rw (eqb-true (path L r j.0) g j.2) i.2) in
        omega (arith, count_or most_sections of_lines (of_path r) apart, blocks_counted, path_counted, count_most most_sections (λ g. of_lines g or of_path r g))

  -- ---- all of it

  -- a route has its path sections, and the rest of a route at most
  route_most : (r : ℕ) → r < L.routes → size (route_numbers (route_in L r)) ≤ route_rest + (route_in L r).paths
  route_most r h = one (ℕ_discrete (route_in L r).kind inner_route)
    where
      one : Dec ((route_in L r).kind ≡ inner_route) → size (route_numbers (route_in L r)) ≤ route_rest + (route_in L r).paths
      one (yes e) =
          let q = S.ranges.routes r h in
          omega (arith, q.overlap_count, q.point_count, (route_sized L S.ranges r 0 h (no_end_sized L S.ranges r e)).bytes)
      one (no d) =
          let q = S.ranges.routes r h in
          omega (arith, q.overlap_count, q.point_count, (route_sized L S.ranges r 2 h (end_sized L S.ranges r h d)).bytes)

  -- the lines have all blocks, and each the rest of a line at most
  lines_most : total L.lines (λ l. 6 + (line_in L l).points * 2 + (line_in L l).blocks) ≤ L.lines * line_rest + total L.lines (λ l. (line_in L l).blocks)
  lines_most =
      let each = total_below L.lines (λ l. 6 + (line_in L l).points * 2 + (line_in L l).blocks) (λ l. line_rest + (line_in L l).blocks)
      (λ l h. omega (arith, (S.ranges.lines l h).point_count)) in
      omega (arith, each, total_sum L.lines (λ l. line_rest) (λ l. (line_in L l).blocks), total_each L.lines line_rest)

  -- the routes, where no path has more than m sections
  routes_most : (m : ℕ) → ((r : ℕ) → r < L.routes → (route_in L r).paths ≤ m)
      → total L.routes (λ r. size (route_numbers (route_in L r))) ≤ most_train_routes * (route_rest + m)
  routes_most m few =
      let each = total_below L.routes (λ r. size (route_numbers (route_in L r))) (λ r. route_rest + m) (λ r h. omega (arith, route_most r h, few r h)) in
      omega (arith, each, total_each L.routes (route_rest + m), mul-le-mul_right (route_rest + m) S.ranges.route_count)

  -- the distants, where none has more than m bytes
  distants_most : (m : ℕ) → ((d : ℕ) → d < L.distants → distant_bytes L d ≤ m) → size (distant_part L) ≤ 1 + most_distants * m
  distants_most m few = one (dec_lt L.version distants_version)
    where
      one : Dec (L.version < distants_version) → size (distant_part L) ≤ 1 + most_distants * m
      one (yes h) = omega (arith, no_distants_size L h)
      one (no h) =
          let n = S.ranges.distant_count in
          omega (
            arith,
            distants_size L (omega arith) (omega arith),
            total_below L.distants (distant_bytes L) (λ d. m) few,
            total_each L.distants m,
            mul-le-mul_right m n,
          )

  module _ (d : ℕ) (h : d < L.distants) where
    -- a distant has at most two bytes for each of its numbers
    two_and_two : distant_bytes L d ≤ 4
    unfolding distant_bytes
    two_and_two =
        let r = S.ranges.distants d h in
        let few = signals_most L S.ranges in
        omega (arith, size_two (carrier_of L d) (omega (arith, carrier_few L d r)), size_two (announced_by L d) (omega (arith, r.announced)))

    -- of at most 128 signals the one announced has one
    two_and_one : signals_in L ≤ 128 → distant_bytes L d ≤ 3
    unfolding distant_bytes
    two_and_one few =
        let r = S.ranges.distants d h in
        omega (arith, size_two (carrier_of L d) (omega (arith, carrier_few L d r)), size_short (announced_by L d) (omega (arith, r.announced)))

    -- and of fewer the carrier too
    one_and_one : signals_in L < 128 → distant_bytes L d ≤ 2
    unfolding distant_bytes
    one_and_one few =
        let r = S.ranges.distants d h in
        omega (arith, size_short (carrier_of L d) (omega (arith, carrier_few L d r)), size_short (announced_by L d) (omega (arith, r.announced)))

  -- all blocks of all lines
  abbrev blocks : ℕ
  blocks = total L.lines (λ l. (line_in L l).blocks)

  -- all parts, where no distant has more than m bytes and no path more than p sections
  abbrev parts_span : ℕ → ℕ → ℕ
  parts_span m p = heading_span + (1 + L.lines * line_rest + blocks) + (1 + most_distants * m) + (1 + most_train_routes * (route_rest + p)) + pairs_span

  parts_most : (m p : ℕ) → ((d : ℕ) → d < L.distants → distant_bytes L d ≤ m) → ((r : ℕ) → r < L.routes → (route_in L r).paths ≤ p) → length (file_of L) ≤ parts_span m p
  parts_most m p small short =
      let R = S.ranges in
      let pairs = pairs_most L R.route_count in
      omega (
        arith,
        R.point_count,
        file_size L R,
        lines_size L R,
        lines_most,
        distants_most m small,
        routes_size L R,
        routes_most p short,
        size_two (length (pairs_of L)) (omega arith),
      )

  -- a path has no more than eight sections, and no more than all blocks leave of 64
  paths_most : (m : ℕ) → ((d : ℕ) → d < L.distants → distant_bytes L d ≤ m)
      → (length (file_of L) ≤ parts_span m most_listed) × (length (file_of L) ≤ parts_span m (most_sections - blocks))
  paths_most m small =
      (parts_most m most_listed small (λ r h. (S.ranges.routes r h).path_count.1), parts_most m (most_sections - blocks) small (λ r h. omega (arith, room r h)))

  -- a distant has four bytes only where there are more than 128 signals: seven lines have these with 56 blocks, beside which a path may have eight sections;
  -- eight lines have them only with more blocks, and so with shorter paths
  file_most : length (file_of L) ≤ longest
  file_most = by (dec_lt (signals_in L) 128) (dec_lt 128 (signals_in L))
    where
      R : Ranges L
      R = S.ranges

      few : blocks ≤ most_sections
      few = omega (arith, blocks_counted, count_most most_sections of_lines)

      by : Dec (signals_in L < 128) → Dec (128 < signals_in L) → length (file_of L) ≤ longest
      by (yes s) b = omega (arith, few, R.line_count, paths_most 2 (λ d h. one_and_one d h s))
      by (no s) (no b) = omega (arith, few, R.line_count, paths_most 3 (λ d h. two_and_one d h (omega arith)))
      by (no s) (yes b) = omega (arith, few, R.line_count, R.signal_count, signals_blocks L R, blocks_most L R, paths_most 4 two_and_two)

-- no file of a sound layout is longer than the longest
pub longest_file : (L : Layout) → sound L ≡ true → length (file_of L) ≤ longest
longest_file L h = file_most L (sound_says L h)
