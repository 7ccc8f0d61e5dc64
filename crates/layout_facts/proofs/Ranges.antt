-- The test of the ranges means that every count, code and reference is in its range.
use Prim.Native.Nat.{ℕ, ◌-◌, ◌<◌, ◌≤◌}
use mathlib.Core.Path.{◌≡◌}
use mathlib.Core.Bool.{true}
use mathlib.Core.List.{List}
use mathlib.Core.Logic.Iff
use mathlib.Core.Logic.{◌↔◌, ◌⊎◌}
use native.Mathlib.Omega.{arith}
use native.Mathlib.Decide.{dec_lt}
use borrow.Author.Tests.{ltb-true, lt-ltb}
use lib.Dec.{ltb}
use lib.ListN.{get_or}
use Rattle.laws.specs.Choice.{when◌then◌else◌}
use Rattle.laws.proofs.Choice.{if_both}
use Rattle.laws.proofs.Tests.{not_both}
use Rattle.track.specs.Sizes.{most_distants, most_listed}
use Rattle.track.specs.Objects.{inner, entrance}
use Rattle.track.specs.Ranges.{points_fit, line_fits, distant_fits, route_fits}
use Rattle.track.proofs.OnlySection.{only_in, in_only}
use Rattle.file_objects.specs.Distants.{distants_version, most_distants_of}
use Rattle.layout.specs.declared.Layout.{Layout}
use Rattle.layout.specs.Layout.{counts, line_in, signals_in, carrier_of, announced_by, route_in}
use Rattle.layout.specs.Sound.{sections_fit, fits}
use Rattle.layout_facts.specs.Plain.{own_section, InBlock, inner_section, entrance_signal, line_point, line_position, CarriedBy, path, overlap, route_point, route_position, LineRanges, DistantRanges, RouteRanges, Ranges}
use Rattle.layout_facts.proofs.Means.{eqb_means, ltb_means, leb_means, lastly, ◌also◌, ◌&◌, every_means, and_means, or_means, all_means}
use Rattle.layout_facts.proofs.Order.{to_one, unless}
use Rattle.layout_facts.proofs.Lists.{between_means, referring_means, positions_means}

-- points 0..8 as (point, position)
points_fit_means : (objects n : ℕ) (point position : List ℕ)
    → points_fit objects n point position ≡ true
    ↔ (n ≤ most_listed) × (((i : ℕ) → i < n → get_or point i 0 < objects) × ((i : ℕ) → i < n → get_or position i 0 ≡ 1 ⊎ get_or position i 0 ≡ 2))
unfolding points_fit
points_fit_means objects n point position = every_means (leb_means _ _ also referring_means _ _ _ also lastly (positions_means _ _))

-- a line
line_fits_means : (L : Layout) (l : ℕ) → line_fits (counts L) (line_in L l) ≡ true ↔ LineRanges L l
unfolding line_fits counts InBlock inner_section entrance_signal inner entrance when◌then◌else◌ line_point line_position
line_fits_means L l =
    Iff.trans (every_means (
    between_means _ _ _ also referring_means _ _ _ also ltb_means _ _ also ltb_means _ _ also ltb_means _ _ also ltb_means _ _
    also lastly (points_fit_means _ _ _ _))) (
      λ (blocks, (block, (innera, (innerb, (entrancea, (entranceb, (points, (point, position)))))))). record {
        block_count = blocks;
        blocks = λ i g h p. omega (arith, block i h, in_only (line_in L l) i g p);
        inners = to_one _ innera innerb;
        entrances = to_one _ entrancea entranceb;
        point_count = points;
        points = point;
        positions = position;
      },
      λ s. s.block_count & (λ i h. s.blocks i _ h (only_in (line_in L l) i)) & s.inners 0 (omega arith) & s.inners 1 (omega arith) & s.entrances 0 (omega arith) & s.entrances 1 (omega arith)
          & s.point_count & s.points & s.positions,
    )

-- a distant's carrier is 0, or the number of a signal that there is plus 1
pub carrier_few : (L : Layout) (d : ℕ) → DistantRanges L d → carrier_of L d ≤ signals_in L
unfolding CarriedBy
carrier_few L d s = one (dec_lt 0 (carrier_of L d))
  where
    one : Dec (0 < carrier_of L d) → carrier_of L d ≤ signals_in L
    one (yes h) = let there = s.carrier (carrier_of L d - 1) (omega arith) in omega arith
    one (no h) = omega arith

-- a distant
distant_fits_means : (L : Layout) (d : ℕ) → distant_fits (signals_in L) (carrier_of L d) (announced_by L d) ≡ true ↔ DistantRanges L d
unfolding distant_fits CarriedBy
distant_fits_means L d =
    Iff.trans (and_means (leb_means _ _) (ltb_means _ _))
    (λ (carrier, announced). record { carrier = λ x e. omega arith; announced = announced }, λ s. carrier_few L d s & s.announced)

-- a route
route_fits_means : (L : Layout) (r : ℕ) → route_fits (counts L) (route_in L r) ≡ true ↔ RouteRanges L r
unfolding route_fits counts path overlap route_point route_position
route_fits_means L r =
    Iff.trans (every_means (
    and_means (ltb_means _ _) (leb_means _ _)
    also or_means (eqb_means _ _) (and_means (ltb_means _ _) (leb_means _ _))
    also leb_means _ _ also between_means _ _ _ also referring_means _ _ _ also leb_means _ _ also referring_means _ _ _
    also lastly (points_fit_means _ _ _ _))) (
      λ ((entry, kind), (line, (diverging, (paths, (path, (overlaps, (overlap, (points, (point, position))))))))). record {
        entry = entry;
        kind = kind;
        line = (unless (route_in L r).kind 0 1 2 (omega arith)).0 line;
        diverging = diverging;
        path_count = paths;
        paths = path;
        overlap_count = overlaps;
        overlaps = overlap;
        point_count = points;
        points = point;
        positions = position;
      },
      λ s. (s.entry & s.kind) & (unless (route_in L r).kind 0 1 2 (omega arith)).1 s.line & s.diverging & s.path_count & s.paths
          & s.overlap_count & s.overlaps & s.point_count & s.points & s.positions,
    )

-- no more distants than the version has: at most 32, and in version 1 none
of_version : (version distants : ℕ) → distants ≤ most_distants_of version ↔ (distants ≤ most_distants) × (version < distants_version → distants ≡ 0)
unfolding most_distants_of
of_version version distants =
    if_both (λ n. distants ≤ n ↔ (distants ≤ most_distants) × (version < distants_version → distants ≡ 0)) (ltb version distants_version)
    (λ t. (λ h. (omega arith, λ l. omega arith), λ s. omega (arith, s.1 (ltb-true version distants_version t))))
    (λ t. (λ h. (h, λ l. not_both (lt-ltb version distants_version l) t), λ s. s.0))

-- every count, code and reference is in its range
pub fits_means : (L : Layout) → fits L ≡ true ↔ Ranges L
unfolding fits sections_fit own_section
fits_means L =
    Iff.trans (every_means (
    between_means _ _ _ also between_means _ _ _ also leb_means _ _ also all_means (λ p h. ltb_means _ _) also leb_means _ _
    also leb_means _ _ also all_means (λ l h. line_fits_means L l)
    also Iff.trans (leb_means _ _) (of_version L.version L.distants) also all_means (λ d h. distant_fits_means L d)
    also leb_means _ _ also all_means (λ r h. route_fits_means L r)
    also all_means (λ g h. leb_means _ _) also lastly (eqb_means _ _))) (
      λ (version, (sections, (points, (point, (signals, (lines, (line, ((distants, none), (distant, (routes, (route, (fitted, lacking)))))))))))). record {
        version = version;
        section_count = sections;
        point_count = points;
        points = point;
        signal_count = signals;
        line_count = lines;
        lines = line;
        distant_count = distants;
        no_distants = none;
        distants = distant;
        route_count = routes;
        routes = route;
        fitted = fitted;
        none_lacking = lacking;
      },
      λ s. s.version & s.section_count & s.point_count & s.points & s.signal_count & s.line_count & s.lines & (s.distant_count & s.no_distants) & s.distants
          & s.route_count & s.routes & s.fitted & s.none_lacking,
    )
