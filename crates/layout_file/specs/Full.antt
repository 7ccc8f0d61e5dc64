-- A layout whose file is the longest: as many of each as there may be, but one line fewer; and every two routes conflict.
use Rattle.std.specs.Prelude.{ℕ, ◌+◌, ◌-◌, ◌*◌, ◌/◌, ◌%◌, List, eqb, ltb, replicate}
use Rattle.laws.specs.Choice.{when◌then◌else◌}
use Rattle.laws.specs.Tables.{table}
use Rattle.track.specs.declared.Line.{Line}
use Rattle.track.specs.declared.Route.{Route}
use Rattle.track.specs.Codes.{left, end_b, exit_route}
use Rattle.track.specs.Sizes.{most_sections, most_points, most_signals, most_lines, most_blocks, most_distants, most_train_routes, most_routes, most_pairs, most_listed, most_overlap, last_version}
use Rattle.track.specs.Objects.{no_line}
use Rattle.layout.specs.declared.Layout.{Layout}
use Rattle.layout.specs.Layout.{none_fitted}

-- the n numbers from low on, and nothing past them
unfoldable pub up_from : ℕ → ℕ → List ℕ
up_from low n = table most_listed (λ i. when ltb i n then low + i else 0)

-- all points lie left
unfoldable pub all_left : List ℕ
all_left = replicate most_listed left

-- the sections that are in no block: as many as a path has
abbrev inside : ℕ
inside = most_listed

-- the lines: one fewer than there may be, since of 56 blocks beside a path of eight seven lines have more signals than eight (L2)
abbrev pub full_lines : ℕ
full_lines = most_lines - 1

-- line l, between the first and the last of the sections inside, with two signals of its own
unfoldable pub full_line : ℕ → Line
full_line l = record {
  blocks = most_blocks;
  block = up_from (inside + most_blocks * l) most_blocks;
  innera = 0;
  innerb = inside - 1;
  entrancea = 2 * l;
  entranceb = 2 * l + 1;
  points = most_listed;
  point = up_from 0 most_listed;
  position = all_left;
}

-- the last signal's number (L2): the main signals, then in each line a block signal each way between each two blocks
abbrev pub last_signal : ℕ
last_signal = most_signals + full_lines * (2 * (most_blocks - 1)) - 1

-- every route: over all sections inside to the end B of line 0, from a signal that is no line's
unfoldable pub full_route : Route
full_route = record {
  entry = 2 * full_lines;
  kind = exit_route;
  line = 0;
  end = end_b;
  diverging = 0;
  paths = inside;
  path = up_from 0 inside;
  overlaps = most_overlap;
  overlap = up_from 0 most_overlap;
  points = most_listed;
  point = up_from 0 most_listed;
  position = all_left;
}

-- each two different routes conflict
unfoldable pub full_conflict : ℕ → ℕ
full_conflict k = when eqb (k / most_routes) (k % most_routes) then 0 else 1

-- the layout; each distant is on the last signal's mast and announces the signal before it (L2)
unfoldable pub full_layout : Layout
full_layout = record {
  version = last_version;
  sections = most_sections;
  points = most_points;
  pointsection = replicate most_points 0;
  signals = most_signals;
  lines = full_lines;
  line = table most_lines (λ l. when ltb l full_lines then full_line l else no_line);
  distants = most_distants;
  carrier = replicate most_distants (last_signal + 1);
  announced = replicate most_distants (last_signal - 1);
  routes = most_train_routes;
  route = replicate most_train_routes full_route;
  conflict = table most_pairs full_conflict;
  fitted = none_fitted;
  lacking = 0;
}
