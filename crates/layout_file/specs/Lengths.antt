-- How far a layout file is read, and how long one can be (section 2).
use Rattle.std.specs.Prelude.{ℕ, ◌+◌, ◌-◌, ◌*◌, ◌≤◌, ◌≡◌, List, length}
use Rattle.numbers.specs.Number.{max_groups}
use Rattle.numbers.specs.Form.{Bytes}
use Rattle.track.specs.Sizes.{most_points, most_lines, most_blocks, most_distants, most_train_routes, most_conflicts, most_listed, most_overlap}
use Rattle.layout.specs.Load.{load}

-- ---- the most bytes that are read of each part: one for each number, two for the number of conflicts and for the numbers of a distant's signals (L2)

-- a list of at most so many objects; points with positions
abbrev pub items_span : ℕ → ℕ
items_span high = 1 + high

abbrev pub points_span : ℕ
points_span = 1 + most_listed * 2

-- a line: blocks, inner sections, entrance signals, points
abbrev pub line_span : ℕ
line_span = items_span most_blocks + 4 + points_span

-- a route: entry signal, kind, line and end, diverging; path, overlap, points
abbrev pub head_span : ℕ
head_span = 5

abbrev pub route_span : ℕ
route_span = head_span + items_span most_listed + items_span most_overlap + points_span

-- version, sections, points, signals
abbrev pub heading_span : ℕ
heading_span = 3 + items_span most_points

-- lines; distants (L2), since there may be more than 128 signals; routes; conflicts
abbrev pub lines_span : ℕ
lines_span = 1 + most_lines * line_span

abbrev pub distants_span : ℕ
distants_span = 1 + most_distants * 4

abbrev pub routes_span : ℕ
routes_span = 1 + most_train_routes * route_span

abbrev pub pairs_span : ℕ
pairs_span = 2 + most_conflicts * 2

-- the whole file: 4,393
abbrev pub whole_span : ℕ
whole_span = heading_span + lines_span + distants_span + routes_span + pairs_span

-- and the bytes of a number that begins there: in a file of at least so many bytes, 4,396, reading stops before the end
abbrev pub enough : ℕ
enough = whole_span + max_groups

-- the bytes of a layout file that the program `events` takes into its buffer, the first of them
abbrev pub buffer : ℕ
buffer = 65536

-- ---- the most bytes of a file that loads

-- all blocks and the sections of one path are different sections, so beside paths of eight there are 56 blocks. In seven lines they make 130 signals, and
-- both numbers of a distant take two bytes; in eight lines 128, and an announced number takes one: so a whole line is missing, and not a block of each (L2).
-- 4,363
abbrev pub longest : ℕ
longest = whole_span - line_span

-- m is the most bytes of a file that loads: no such file has more, and one has as many
pub record IsLongest (m : ℕ) : Type 0 where
  pub most : (s : List ℕ) → Bytes s → (load s).number ≡ 0 → length s ≤ m
  pub reached : (s : List ℕ) × Bytes s × ((load s).number ≡ 0) × (length s ≡ m)
