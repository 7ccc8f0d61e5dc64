-- Panels that are wrong in one thing (section 7): the image with its block signals or its distants (L2) drawn another way (`proofs/WrongBoxes` proves that
-- drawn as they show it is the image), or its lines.
use Rattle.std.specs.Prelude.{ℕ, List, [], ◌∷◌, ◌++◌, Bool, false, not, eqb, replicate}
use Rattle.laws.specs.Tests.{◌and◌, ◌or◌}
use Rattle.laws.specs.Tables.{table, read, join}
use Rattle.track.specs.Codes.{neutral, a_to_b, b_to_a, stage0}
use Rattle.track.specs.Sizes.{most_lines, most_places}
use Rattle.track.specs.Objects.{line}
use Rattle.track.specs.Signal.{has_signal}
use Rattle.tables.specs.Readings.{reading, point_reading}
use Rattle.tables.specs.Blocks.{place}
use Rattle.tables.specs.Locks.{direction, phase}
use Rattle.signals.specs.Signals.{enterable}
use Rattle.signals.specs.MainSignals.{main_shows}
use Rattle.signals.specs.BlockSignals.{light_shown}
use Rattle.layout.specs.declared.Layout.{Layout}
use Rattle.interlocking.specs.declared.State.{State}
use Rattle.interlocking.specs.State.{with_lines}
use Rattle.panel.specs.Panel.{route_byte, distant_byte, image}

-- a panel: the bytes of a state
abbrev pub Image : Type 0
Image = Layout → State → List ℕ

-- the block signals of direction w are lit on a line that has this direction
abbrev pub Lights : Type 0
Lights = ℕ → ℕ → Bool

-- what the signal into block i of line l in direction w shows
abbrev light : Lights → Layout → State → ℕ → ℕ → ℕ → ℕ
light lit L s l i w =
    light_shown (lit (direction s.direction l) w and has_signal (line L.line l).blocks i w) (enterable L.line s.point s.stage s.bar l i)

-- what distant d shows in a state (L2)
abbrev pub Warnings : Type 0
Warnings = Layout → State → ℕ → ℕ

-- the image where block signals are lit so, and distants show that
abbrev pub image_by : Lights → Warnings → Image
image_by lit warn L s =
    table L.sections (reading s.section)
    ++ table L.points (point_reading s.point)
    ++ table L.signals (main_shows L.routes L.route s.phase)
    ++ table L.routes (λ r. route_byte (phase s.phase r))
    ++ table L.distants (warn L s)
    ++ table L.lines (direction s.direction)
    ++ join L.lines (λ l. join (line L.line l).blocks (λ i. read most_places stage0 s.stage (place l i) ∷ light lit L s l i a_to_b ∷ light lit L s l i b_to_a ∷ []))

-- as section 4 says
abbrev pub its_way : Lights
its_way way w = eqb way w

-- the image where block signals are lit so, and distants show as L2 says
abbrev pub lit_by : Lights → Image
lit_by lit = image_by lit distant_byte

-- the image where distants show this, and block signals are lit as section 4 says (L2)
abbrev pub warned_by : Warnings → Image
warned_by warn = image_by its_way warn

-- both ways on a secured line
abbrev pub both_ways : Lights
both_ways way w = not (eqb way neutral)

-- those from A to B in neutral as well
abbrev pub in_neutral : Lights
in_neutral way w = eqb way w or (eqb way neutral and eqb w a_to_b)

-- none, ever
abbrev pub never_lit : Lights
never_lit way w = false

-- ---- lines

-- every line is drawn as secured from A to B
abbrev pub all_secured : Image
all_secured L s = image L (with_lines s (replicate most_lines a_to_b) s.stage)
