-- How many bytes the parts of a layout's file have, where all its numbers are in range.
use Prim.Native.Nat.{ℕ, ◌+◌, ◌*◌, ◌<◌, ◌≤◌}
use mathlib.Core.Path.{◌≡◌, refl, ap, ◌∙◌}
use mathlib.Core.List.{List, [], ◌∷◌, ◌++◌, flat_map, flatten}
use mathlib.Core.Logic.{⊎_elim}
use native.Mathlib.Omega.{arith}
use borrow.Author.Tests.{ne_eqb, lt-ltb, le-ltb}
use lib.Dec.{ltb}
use lib.ListN.{length, length-append}
use Rattle.laws.specs.Choice.{when◌then◌else◌}
use Rattle.laws.specs.Tests.{◌and◌}
use Rattle.laws.specs.Totals.{total, bit}
use Rattle.laws.proofs.Choice.{if_both, chosen, passed_over}
use Rattle.laws.proofs.Totals.{total_same, Adds, total_join, joins_agree, bit_list}
use Rattle.numbers.specs.Form.{encode}
use Rattle.track.specs.Codes.{end_a, end_b, inner_route}
use Rattle.track.specs.Sizes.{most_sections}
use Rattle.track.specs.Objects.{inner, entrance}
use Rattle.track.specs.Blocks.{only_section}
use Rattle.track.proofs.OnlySection.{only_in}
use Rattle.file_objects.specs.Distants.{distants_version}
use Rattle.pairs.specs.declared.Pair.{Pair}
use Rattle.layout.specs.declared.Layout.{Layout}
use Rattle.layout.specs.Layout.{line_in, carrier_of, announced_by, route_in, conflict}
use Rattle.layout_facts.specs.Plain.{own_section, InBlock, inner_section, entrance_signal, line_point, line_position, path, overlap, route_point, route_position, Ranges}
use Rattle.layout_file.specs.Written.{listing, line_numbers, distant_numbers, end_numbers, route_numbers, pair_at, pairs_of, pair_numbers, parts, written, file_of}
use Rattle.layout_file.proofs.Routes.{beyond_inner}
use Rattle.layout_file.proofs.Sizes.{size, size_none, size_with, Sized, sized_as, none_sized, short_sized, both_sized, listing_sized, items_sized, points_sized}

-- ---- pairs

-- the bytes of pairs add up
pair_adds : Adds (λ ps. size (pair_numbers ps))
unfolding pair_numbers flat_map
pair_adds = record { none = size_none; sum = more }
  where
    more : (ps qs : List Pair) → size (pair_numbers (ps ++ qs)) ≡ size (pair_numbers ps) + size (pair_numbers qs)
    more [] qs = omega (arith, size_none)
    more (p ∷ ps) qs =
        omega (
          arith,
          more ps qs,
          size_with p.first (p.second ∷ pair_numbers (ps ++ qs)),
          size_with p.second (pair_numbers (ps ++ qs)),
          size_with p.first (p.second ∷ pair_numbers ps),
          size_with p.second (pair_numbers ps),
        )

-- and so does twice their number
twice_adds : Adds (λ (ps : List Pair). length ps * 2)
twice_adds = record { none = refl; sum = λ ps qs. omega (arith, length-append ps qs) }

-- their number
length_adds : Adds (λ (ps : List Pair). length ps)
length_adds = record { none = refl; sum = length-append }

-- a pair of numbers below 128 has two bytes
pair_size : (r q : ℕ) → r < 128 → q < 128 → size (pair_numbers (record { first = r; second = q } ∷ [])) ≡ 2
unfolding pair_numbers flat_map
pair_size r q a b = (short_sized a (short_sized b none_sized)).bytes

module _ (L : Layout) where
  -- two routes are one pair or none, of which each number has one byte
  pair_at_size : (r q : ℕ) → r < 128 → q < 128 → size (pair_numbers (pair_at L r q)) ≡ length (pair_at L r q) * 2
  unfolding pair_at pair_numbers flat_map
  pair_at_size r q a b =
      if_both (λ ps. size (pair_numbers ps) ≡ length ps * 2) (ltb r q and conflict L r q)
      (λ t. pair_size _ _ (omega arith) (omega arith)) (λ t. size_none)

  -- one where the first is the smaller and they conflict
  pub pair_at_length : (r q : ℕ) → length (pair_at L r q) ≡ bit (ltb r q and conflict L r q)
  unfolding pair_at
  pair_at_length r q = bit_list (ltb r q and conflict L r q) _

  -- pairs of at most 128 routes have two bytes each
  pairs_size : L.routes ≤ 128 → size (pair_numbers (pairs_of L)) ≡ length (pairs_of L) * 2
  unfolding pairs_of
  pairs_size few =
      joins_agree _ pair_adds _ twice_adds L.routes _ (λ r h.
      joins_agree _ pair_adds _ twice_adds L.routes _ (λ q l. pair_at_size r q (omega arith) (omega arith)))

  -- their number, route by route
  pub pairs_length : length (pairs_of L) ≡ total L.routes (λ r. total L.routes (λ q. length (pair_at L r q)))
  unfolding pairs_of
  pairs_length =
      total_join _ length_adds L.routes _ ∙ total_same L.routes _ _ (λ r h. total_join _ length_adds L.routes (pair_at L r))

-- ---- distants

module _ (L : Layout) where
  -- their part of the file
  abbrev pub distant_part : List ℕ
  distant_part = distant_numbers L.version L.distants L.carrier L.announced

  -- the bytes of one: of its carrier, and of the signal announced
  unfoldable pub distant_bytes : ℕ → ℕ
  distant_bytes d = length (encode (carrier_of L d)) + length (encode (announced_by L d))

  -- version 1 has none
  pub no_distants_size : L.version < distants_version → size distant_part ≡ 0
  unfolding distant_numbers
  no_distants_size h = ap size (chosen _ _ _ (lt-ltb _ _ h)) ∙ size_none

  -- from version 2 on it has all of them
  pub distants_size : distants_version ≤ L.version → L.distants < 128 → size distant_part ≡ 1 + total L.distants distant_bytes
  unfolding distant_numbers distant_bytes carrier_of announced_by
  distants_size h few =
      ap size (passed_over _ _ _ (le-ltb _ _ h)) ∙ (listing_sized L.distants _ _ few (λ d l. record {
        bytes = omega (arith, size_with (carrier_of L d) (announced_by L d ∷ []), size_with (announced_by L d) [], size_none);
      })).bytes

module _ (L : Layout) (R : Ranges L) where
  -- ---- lines

  -- a line: its blocks, four numbers, its points
  line_sized : (l : ℕ) → l < L.lines → Sized (line_numbers (line_in L l)) (6 + (line_in L l).points * 2 + (line_in L l).blocks)
  unfolding line_numbers flatten InBlock inner_section entrance_signal inner entrance when◌then◌else◌ line_point line_position
  line_sized l h =
      let r = R.lines l h in
      let a = line_in L l in
      let sections : L.sections ≤ most_sections = R.section_count.1 in
      let b = items_sized a.blocks a.block (omega (arith, r.block_count.1)) (λ i m. omega (arith, r.blocks i (only_section a i) m (only_in a i))) in
      let p = points_sized a.points a.point a.position (omega (arith, r.point_count))
      (λ i m. (omega (arith, r.points i m, R.point_count), ⊎_elim (λ e. omega arith) (λ e. omega arith) (r.positions i m))) in
      let ends : Sized (a.innera ∷ a.innerb ∷ a.entrancea ∷ a.entranceb ∷ []) 4 =
      short_sized (omega (arith, r.inners end_a (omega arith))) (short_sized (omega (arith, r.inners end_b (omega arith))) (
      short_sized (omega (arith, r.entrances end_a (omega arith), R.signal_count)) (short_sized (omega (arith, r.entrances end_b (omega arith), R.signal_count)) none_sized))) in
      sized_as (both_sized b (both_sized ends (both_sized p none_sized))) (omega arith)

  -- ---- routes

  -- the line and the end of a route that is no inner route
  pub end_sized : (r : ℕ) → r < L.routes → ((route_in L r).kind ≡ inner_route → ⊥) → Sized (end_numbers (route_in L r)) 2
  unfolding end_numbers when◌then◌else◌
  end_sized r h d =
      let q = R.routes r h in
      let w = q.line (beyond_inner (route_in L r).kind q.kind d) in
      rw (ne_eqb (route_in L r).kind inner_route d) (short_sized (omega (arith, w.0, R.line_count)) (short_sized (omega (arith, w.1)) none_sized))

  -- an inner route has none
  pub no_end_sized : (r : ℕ) → (route_in L r).kind ≡ inner_route → Sized (end_numbers (route_in L r)) 0
  unfolding end_numbers when◌then◌else◌
  no_end_sized r e = rw e none_sized

  -- a route whose line and end have m
  pub route_sized : (r m : ℕ) → r < L.routes → Sized (end_numbers (route_in L r)) m → Sized (route_numbers (route_in L r))
      (6 + m + (route_in L r).overlaps + (route_in L r).points * 2 + (route_in L r).paths)
  unfolding route_numbers flatten path overlap route_point route_position
  route_sized r m h e =
      let q = R.routes r h in
      let a = route_in L r in
      let sections : L.sections ≤ most_sections = R.section_count.1 in
      let p = items_sized a.paths a.path (omega (arith, q.path_count.1)) (λ i l. omega (arith, q.paths i l)) in
      let o = items_sized a.overlaps a.overlap (omega (arith, q.overlap_count)) (λ i l. omega (arith, q.overlaps i l)) in
      let w = points_sized a.points a.point a.position (omega (arith, q.point_count))
      (λ i l. (omega (arith, q.points i l, R.point_count), ⊎_elim (λ e. omega arith) (λ e. omega arith) (q.positions i l))) in
      let head : Sized (a.entry ∷ a.kind ∷ []) 2 = short_sized (omega (arith, q.entry, R.signal_count)) (short_sized (omega (arith, q.kind)) none_sized) in
      sized_as (both_sized head (both_sized e (both_sized (short_sized (omega (arith, q.diverging)) none_sized) (both_sized p (both_sized o (both_sized w none_sized))))))
      (omega arith)

  -- ---- the whole

  -- all lines
  pub lines_size : size (listing L.lines (λ l. line_numbers (line_in L l))) ≡ 1 + total L.lines (λ l. 6 + (line_in L l).points * 2 + (line_in L l).blocks)
  lines_size = (listing_sized L.lines _ _ (omega (arith, R.line_count)) line_sized).bytes

  -- all routes
  pub routes_size : size (listing L.routes (λ r. route_numbers (route_in L r))) ≡ 1 + total L.routes (λ r. size (route_numbers (route_in L r)))
  routes_size = (listing_sized L.routes _ _ (omega (arith, R.route_count)) (λ r h. record { bytes = refl })).bytes

  -- the file: its heading, lines, distants, routes, and the number of conflicts before two for each
  pub file_size : length (file_of L)
      ≡ 4 + L.points + size (listing L.lines (λ l. line_numbers (line_in L l))) + size (distant_part L) + size (listing L.routes (λ r. route_numbers (route_in L r)))
      + length (encode (length (pairs_of L))) + length (pairs_of L) * 2
  unfolding file_of size written parts flatten own_section
  file_size =
      let ps = pairs_of L in
      let sections : L.sections ≤ most_sections = R.section_count.1 in
      let rest : (ns : List ℕ) → Sized ns (size ns) = λ ns. record { bytes = refl } in
      let pairs : Sized (length ps ∷ pair_numbers ps) (length (encode (length ps)) + length ps * 2) =
      record { bytes = omega (arith, size_with (length ps) (pair_numbers ps), pairs_size L (omega (arith, R.route_count))) } in
      let all : Sized (written L) _ =
      both_sized (short_sized (omega (arith, R.version.1)) (short_sized (omega arith) none_sized)) (
      both_sized (items_sized L.points L.pointsection (omega (arith, R.point_count)) (λ i l. omega (arith, R.points i l))) (
      both_sized (short_sized (omega (arith, R.signal_count)) none_sized) (
      both_sized (rest (listing L.lines (λ l. line_numbers (line_in L l)))) (
      both_sized (rest (distant_part L)) (
      both_sized (rest (listing L.routes (λ r. route_numbers (route_in L r)))) (both_sized pairs none_sized)))))) in
      omega (arith, all.bytes)
