-- What shows after an event, read from the bytes of the panel image by the layout (section 7, L2): section and point readings, signals, routes, distants,
-- lines, then of each block, line by line from A, its stage, its signal A to B and its signal B to A.
use Rattle.std.specs.Prelude.{ℕ, ◌+◌, ◌*◌, List, eqb, ltb, get_or}
use Rattle.laws.specs.Choice.{when◌then◌else◌}
use Rattle.laws.specs.Tests.{◌and◌, ◌or◌}
use Rattle.track.specs.Codes.{reads_none, neutral, a_to_b, b_to_a, stage0}
use Rattle.track.specs.Signal.{Signal, main, into}
use Rattle.signals.specs.Aspects.{dark}
use Rattle.layout.specs.declared.Layout.{Layout}
use Rattle.layout.specs.Layout.{line_in}
use Rattle.panel.specs.Panel.{blocks}

-- ---- section 7: what a route shows

abbrev pub shows_idle : ℕ
shows_idle = 0

abbrev pub shows_locked : ℕ
shows_locked = 1

abbrev pub shows_cancelling : ℕ
shows_cancelling = 2

-- ---- where the bytes stand

-- those of the points, after the sections
abbrev pub points_from : Layout → ℕ
points_from L = L.sections

-- of the signals
abbrev pub signals_from : Layout → ℕ
signals_from L = points_from L + L.points

-- of the routes
abbrev pub routes_from : Layout → ℕ
routes_from L = signals_from L + L.signals

-- of the distants (L2)
abbrev pub distants_from : Layout → ℕ
distants_from L = routes_from L + L.routes

-- of the lines
abbrev pub lines_from : Layout → ℕ
lines_from L = distants_from L + L.distants

-- of block i of line l, three for each block
abbrev pub block_from : Layout → ℕ → ℕ → ℕ
block_from L l i = lines_from L + L.lines + 3 * (blocks l L.line + i)

-- ---- what they show

-- what shows of each section and point (its reading), of each signal, of each route, of each distant, of each line (its direction), of each block (open, or its stage)
pub record Panel : Type 0 where
  pub section : ℕ → ℕ
  pub point : ℕ → ℕ
  pub signal : Signal → ℕ
  pub route : ℕ → ℕ
  pub distant : ℕ → ℕ
  pub line : ℕ → ℕ
  pub block : ℕ → ℕ → ℕ

-- a section: free, occupied or none
unfoldable pub section_shown : Layout → List ℕ → ℕ → ℕ
section_shown L bytes g = when ltb g L.sections then get_or bytes g 0 else reads_none

-- a point: left, right or none
unfoldable pub point_shown : Layout → List ℕ → ℕ → ℕ
point_shown L bytes p = when ltb p L.points then get_or bytes (points_from L + p) 0 else reads_none

-- a signal: 20 stop, 21 and 22 proceed; dark where there is none. Of a block the signal A to B stands first, then the one B to A
unfoldable pub signal_shown : Layout → List ℕ → Signal → ℕ
signal_shown L bytes (main x) = when ltb x L.signals then get_or bytes (signals_from L + x) 0 else dark
signal_shown L bytes (into l i w) =
    when ltb l L.lines and (ltb i (line_in L l).blocks and (eqb w a_to_b or eqb w b_to_a)) then get_or bytes (block_from L l i + w) 0 else dark

-- a route: idle, locked or cancelling
unfoldable pub route_shown : Layout → List ℕ → ℕ → ℕ
route_shown L bytes r = when ltb r L.routes then get_or bytes (routes_from L + r) 0 else shows_idle

-- a distant: 23, 24, 25 or dark (L2)
unfoldable pub distant_shown : Layout → List ℕ → ℕ → ℕ
distant_shown L bytes d = when ltb d L.distants then get_or bytes (distants_from L + d) 0 else dark

-- a line: neutral or its direction
unfoldable pub line_shown : Layout → List ℕ → ℕ → ℕ
line_shown L bytes l = when ltb l L.lines then get_or bytes (lines_from L + l) 0 else neutral

-- a block: open or its stage
unfoldable pub block_shown : Layout → List ℕ → ℕ → ℕ → ℕ
block_shown L bytes l i = when ltb l L.lines and ltb i (line_in L l).blocks then get_or bytes (block_from L l i) 0 else stage0

-- all of them
abbrev pub panel : Layout → List ℕ → Panel
panel L bytes = record {
  section = section_shown L bytes;
  point = point_shown L bytes;
  signal = signal_shown L bytes;
  route = route_shown L bytes;
  distant = distant_shown L bytes;
  line = line_shown L bytes;
  block = block_shown L bytes;
}
