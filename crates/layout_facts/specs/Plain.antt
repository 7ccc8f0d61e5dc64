-- What a sound layout is, in the words and the order of section 2: over all lines, blocks, distants, routes and points by their numbers.
use Rattle.std.specs.Prelude.{ℕ, ◌+◌, ◌-◌, ◌<◌, ◌≤◌, ◌≡◌, true, ◌≢◌, ◌⊎◌, get_or}
use Rattle.track.specs.Codes.{end_a, end_b, inner_route, entrance_route, exit_route, left, right}
use Rattle.track.specs.Sizes.{most_sections, most_points, most_signals, most_lines, most_blocks, most_distants, most_train_routes, most_listed, most_overlap, last_version}
use Rattle.track.specs.Objects.{inner, entrance, nearest}
use Rattle.track.specs.Blocks.{in_block}
use Rattle.file_objects.specs.Distants.{distants_version}
use Rattle.layout.specs.declared.Layout.{Layout}
use Rattle.layout.specs.Layout.{line_in, route_in, signals_in, carrier_of, announced_by, entry_of, conflict}

-- ---- what stands in a layout

-- the own section of point p
unfoldable pub own_section : Layout → ℕ → ℕ
own_section L p = get_or L.pointsection p 0

-- section g is in block i of line l, counted from end A
unfoldable pub InBlock : Layout → ℕ → ℕ → ℕ → Type 0
InBlock L l i g = in_block (line_in L l) i g ≡ true

-- the inner section of line l at end e
unfoldable pub inner_section : Layout → ℕ → ℕ → ℕ
inner_section L l e = inner (line_in L l) e

-- the entrance signal of line l at end e
unfoldable pub entrance_signal : Layout → ℕ → ℕ → ℕ
entrance_signal L l e = entrance (line_in L l) e

-- the block of line l nearest end e, counted from end A: an exit route by that end enters it
unfoldable pub nearest_block : Layout → ℕ → ℕ → ℕ
nearest_block L l e = nearest (line_in L l) e

-- point i of line l
unfoldable pub line_point : Layout → ℕ → ℕ → ℕ
line_point L l i = get_or (line_in L l).point i 0

-- the position of point i of line l
unfoldable pub line_position : Layout → ℕ → ℕ → ℕ
line_position L l i = get_or (line_in L l).position i 0

-- distant d is on the mast of signal x (L2)
unfoldable pub CarriedBy : Layout → ℕ → ℕ → Type 0
CarriedBy L d x = carrier_of L d ≡ x + 1

-- section j of the path of route r, in order of travel
unfoldable pub path : Layout → ℕ → ℕ → ℕ
path L r j = get_or (route_in L r).path j 0

-- section j of the overlap of route r
unfoldable pub overlap : Layout → ℕ → ℕ → ℕ
overlap L r j = get_or (route_in L r).overlap j 0

-- point i of route r
unfoldable pub route_point : Layout → ℕ → ℕ → ℕ
route_point L r i = get_or (route_in L r).point i 0

-- the position of point i of route r
unfoldable pub route_position : Layout → ℕ → ℕ → ℕ
route_position L r i = get_or (route_in L r).position i 0

-- ---- every count, code and reference in its range

-- a line: blocks 1..8 and their sections, inner section and entrance signal at each end, points 0..8 with their positions
pub record LineRanges (L : Layout) (l : ℕ) : Type 0 where
  pub block_count : (1 ≤ (line_in L l).blocks) × ((line_in L l).blocks ≤ most_blocks)
  pub blocks : (i g : ℕ) → i < (line_in L l).blocks → InBlock L l i g → g < L.sections
  pub inners : (e : ℕ) → e ≤ end_b → inner_section L l e < L.sections
  pub entrances : (e : ℕ) → e ≤ end_b → entrance_signal L l e < L.signals
  pub point_count : (line_in L l).points ≤ most_listed
  pub points : (i : ℕ) → i < (line_in L l).points → line_point L l i < L.points
  pub positions : (i : ℕ) → i < (line_in L l).points → line_position L l i ≡ left ⊎ line_position L l i ≡ right

-- a distant (L2): on no mast or on that of a signal that there is, main or block signal; so is the signal announced
pub record DistantRanges (L : Layout) (d : ℕ) : Type 0 where
  pub carrier : (x : ℕ) → CarriedBy L d x → x < signals_in L
  pub announced : announced_by L d < signals_in L

-- a route: entry signal, kind, for kinds 1 and 2 the line and the end, diverging 0 or 1, path 1..8 sections, overlap 0..4 sections, points 0..8
pub record RouteRanges (L : Layout) (r : ℕ) : Type 0 where
  pub entry : (route_in L r).entry < L.signals
  pub kind : (route_in L r).kind ≤ exit_route
  pub line : (route_in L r).kind ≡ entrance_route ⊎ (route_in L r).kind ≡ exit_route → ((route_in L r).line < L.lines) × ((route_in L r).end ≤ end_b)
  pub diverging : (route_in L r).diverging ≤ 1
  pub path_count : (1 ≤ (route_in L r).paths) × ((route_in L r).paths ≤ most_listed)
  pub paths : (j : ℕ) → j < (route_in L r).paths → path L r j < L.sections
  pub overlap_count : (route_in L r).overlaps ≤ most_overlap
  pub overlaps : (j : ℕ) → j < (route_in L r).overlaps → overlap L r j < L.sections
  pub point_count : (route_in L r).points ≤ most_listed
  pub points : (i : ℕ) → i < (route_in L r).points → route_point L r i < L.points
  pub positions : (i : ℕ) → i < (route_in L r).points → route_position L r i ≡ left ⊎ route_position L r i ≡ right

-- version 1 or 2 (L2), sections 1..64, points 0..32 each with its own section, signals 0..32, lines 0..8, distants 0..32 and in version 1 none (L2),
-- routes 0..48; the table of heads says 0 or 1 of each section, and none is told as fitted that there is not (L1)
pub record Ranges (L : Layout) : Type 0 where
  pub version : (1 ≤ L.version) × (L.version ≤ last_version)
  pub section_count : (1 ≤ L.sections) × (L.sections ≤ most_sections)
  pub point_count : L.points ≤ most_points
  pub points : (p : ℕ) → p < L.points → own_section L p < L.sections
  pub signal_count : L.signals ≤ most_signals
  pub line_count : L.lines ≤ most_lines
  pub lines : (l : ℕ) → l < L.lines → LineRanges L l
  pub distant_count : L.distants ≤ most_distants
  pub no_distants : L.version < distants_version → L.distants ≡ 0
  pub distants : (d : ℕ) → d < L.distants → DistantRanges L d
  pub route_count : L.routes ≤ most_train_routes
  pub routes : (r : ℕ) → r < L.routes → RouteRanges L r
  pub fitted : (g : ℕ) → g < L.sections → get_or L.fitted g 0 ≤ 1
  pub none_lacking : L.lacking ≡ 0

-- ---- conflicts

-- the table says 0 or 1 of each two routes; no route conflicts with itself; two routes conflict both ways or not at all
pub record Conflicts (L : Layout) : Type 0 where
  pub entries : (r q : ℕ) → r < L.routes → q < L.routes → entry_of L.conflict r q ≤ 1
  pub not_itself : (r : ℕ) → r < L.routes → conflict L r r ≡ true → ⊥
  pub both_ways : (r q : ℕ) → r < L.routes → q < L.routes → conflict L r q ≡ true → conflict L q r ≡ true

-- ---- the rules

-- rule 1: a section is a block at most once in all lines, and is then in no path and no inner section
pub record Rule1 (L : Layout) : Type 0 where
  pub once : (l i k j g : ℕ) → l < L.lines → i < (line_in L l).blocks → k < L.lines → j < (line_in L k).blocks → InBlock L l i g → InBlock L k j g
      → (l ≡ k) × (i ≡ j)
  pub no_path : (l i r j : ℕ) → l < L.lines → i < (line_in L l).blocks → r < L.routes → j < (route_in L r).paths → InBlock L l i (path L r j) → ⊥
  pub no_inner : (l i k e : ℕ) → l < L.lines → i < (line_in L l).blocks → k < L.lines → e ≤ end_b → InBlock L l i (inner_section L k e) → ⊥

-- rule 2: a line's two inner sections differ; all entrance signals differ
pub record Rule2 (L : Layout) : Type 0 where
  pub inners : (l : ℕ) → l < L.lines → inner_section L l end_a ≢ inner_section L l end_b
  pub entrances : (l e k f : ℕ) → l < L.lines → e ≤ end_b → k < L.lines → f ≤ end_b → entrance_signal L l e ≡ entrance_signal L k f → (l ≡ k) × (e ≡ f)

-- rule 3: the sections of a path differ; the points of a route or a line differ
pub record Rule3 (L : Layout) : Type 0 where
  pub paths : (r i j : ℕ) → r < L.routes → i < (route_in L r).paths → j < (route_in L r).paths → path L r i ≡ path L r j → i ≡ j
  pub route_points : (r i j : ℕ) → r < L.routes → i < (route_in L r).points → j < (route_in L r).points → route_point L r i ≡ route_point L r j → i ≡ j
  pub line_points : (l i j : ℕ) → l < L.lines → i < (line_in L l).points → j < (line_in L l).points → line_point L l i ≡ line_point L l j → i ≡ j

-- rule 4: kinds 0 and 1 have at least two path sections
pub record Rule4 (L : Layout) : Type 0 where
  pub two : (r : ℕ) → r < L.routes → (route_in L r).kind ≡ inner_route ⊎ (route_in L r).kind ≡ entrance_route → 2 ≤ (route_in L r).paths

-- rule 5: an entrance route starts at its end's entrance signal and its first path section is that inner section;
-- an exit route's last path section is its end's inner section; kinds 0 and 2 start at no entrance signal
pub record Rule5 (L : Layout) : Type 0 where
  pub start : (r : ℕ) → r < L.routes → (route_in L r).kind ≡ entrance_route → (route_in L r).entry ≡ entrance_signal L (route_in L r).line (route_in L r).end
  pub first : (r : ℕ) → r < L.routes → (route_in L r).kind ≡ entrance_route → path L r 0 ≡ inner_section L (route_in L r).line (route_in L r).end
  pub last : (r : ℕ) → r < L.routes → (route_in L r).kind ≡ exit_route
      → path L r ((route_in L r).paths - 1) ≡ inner_section L (route_in L r).line (route_in L r).end
  pub no_entrance : (r l e : ℕ) → r < L.routes → (route_in L r).kind ≡ inner_route ⊎ (route_in L r).kind ≡ exit_route → l < L.lines → e ≤ end_b
      → (route_in L r).entry ≢ entrance_signal L l e

-- what two routes of rule 6 have: the same entry signal, a common path section, or a common point in different positions
pub data Clash (L : Layout) (r q : ℕ) : Type 0 where
  same_entry : (route_in L r).entry ≡ (route_in L q).entry → Clash L r q
  common_path : (i j : ℕ) → i < (route_in L r).paths → j < (route_in L q).paths → path L r i ≡ path L q j → Clash L r q
  common_point : (i j : ℕ) → i < (route_in L r).points → j < (route_in L q).points → route_point L r i ≡ route_point L q j
      → route_position L r i ≢ route_position L q j → Clash L r q

-- rule 6: two routes with the same entry signal, a common path section, or a common point in different positions are listed as conflicting
pub record Rule6 (L : Layout) : Type 0 where
  pub listed : (r q : ℕ) → r < L.routes → q < L.routes → r ≢ q → Clash L r q → conflict L r q ≡ true

-- rule 7 (L2): no distant announces its own carrier
pub record Rule7 (L : Layout) : Type 0 where
  pub not_own : (d : ℕ) → d < L.distants → ¬ CarriedBy L d (announced_by L d)

-- ---- all of it

-- a layout in range, with conflicts both ways, that keeps the seven rules
pub record Sound (L : Layout) : Type 0 where
  pub ranges : Ranges L
  pub conflicts : Conflicts L
  pub rule1 : Rule1 L
  pub rule2 : Rule2 L
  pub rule3 : Rule3 L
  pub rule4 : Rule4 L
  pub rule5 : Rule5 L
  pub rule6 : Rule6 L
  pub rule7 : Rule7 L
