-- A layout by its numbers (section 2).
use Rattle.std.specs.Prelude.{ℕ, Bool, List, eqb, get_or, replicate}
use Rattle.track.specs.declared.Counts.{Counts}
use Rattle.track.specs.declared.Line.{Line}
use Rattle.track.specs.declared.Route.{Route}
use Rattle.track.specs.Sizes.{most_sections}
use Rattle.track.specs.Objects.{line, route}
use Rattle.track.specs.SignalNumbers.{signal_count}
use Rattle.file_objects.specs.Sections.{no_sections}
use Rattle.file_objects.specs.Lines.{no_lines}
use Rattle.file_objects.specs.Distants.{no_distants}
use Rattle.file_objects.specs.Routes.{no_routes}
use Rattle.pairs.specs.Pairs.{place_of, no_pairs}
use Rattle.layout.specs.declared.Layout.{Layout}

-- no section has heads (L1)
unfoldable pub none_fitted : List ℕ
none_fitted = replicate most_sections 0

-- the layout with no objects
unfoldable pub no_layout : Layout
no_layout = record {
  version = 0;
  sections = 0;
  points = 0;
  pointsection = no_sections;
  signals = 0;
  lines = 0;
  line = no_lines;
  distants = 0;
  carrier = no_distants;
  announced = no_distants;
  routes = 0;
  route = no_routes;
  conflict = no_pairs;
  fitted = none_fitted;
  lacking = 0;
}

-- how many objects of each kind there are to refer to
unfoldable pub counts : Layout → Counts
counts L = record { sections = L.sections; points = L.points; signals = L.signals; lines = L.lines }

-- line l; route r
unfoldable pub line_in : Layout → ℕ → Line
line_in L l = line L.line l

unfoldable pub route_in : Layout → ℕ → Route
route_in L r = route L.route r

-- how many signals there are to refer to, main and block signals (L2)
unfoldable pub signals_in : Layout → ℕ
signals_in L = signal_count L.signals L.lines L.line

-- the carrier of distant d, 0 if it is free-standing or the carrying signal plus 1; the signal that it announces (L2)
unfoldable pub carrier_of : Layout → ℕ → ℕ
carrier_of L d = get_or L.carrier d 0

unfoldable pub announced_by : Layout → ℕ → ℕ
announced_by L d = get_or L.announced d 0

-- the table's entry for the routes r and q; they are listed as conflicting where it is 1
unfoldable pub entry_of : List ℕ → ℕ → ℕ → ℕ
entry_of m r q = get_or m (place_of r q) 0

unfoldable pub conflict : Layout → ℕ → ℕ → Bool
conflict L r q = eqb (entry_of L.conflict r q) 1

-- section g has heads (L1)
unfoldable pub is_fitted : Layout → ℕ → Bool
is_fitted L g = eqb (get_or L.fitted g 0) 1
