-- Distants on the panel, beside the signals on the same panel (L2); and the image of a layout that has none.
use Rattle.std.specs.Prelude.{ℕ, ◌<◌, ◌≡◌, List, ◌++◌}
use Rattle.laws.specs.Tables.{table, join}
use Rattle.tables.specs.Readings.{reading, point_reading}
use Rattle.tables.specs.Locks.{direction, phase}
use Rattle.signals.specs.MainSignals.{main_shows}
use Rattle.signals.specs.Shows.{number_shows}
use Rattle.signals.specs.Distants.{distant_shows, Warns}
use Rattle.layout.specs.declared.Layout.{Layout}
use Rattle.layout.specs.Layout.{carrier_of, announced_by}
use Rattle.interlocking.specs.declared.State.{State}
use Rattle.panel.specs.Panel.{route_byte, line_bytes}
use Rattle.panel.specs.Shown.{Panel}

-- what shows of the signal of each number (L2)
abbrev pub number_read : Layout → Panel → ℕ → ℕ
number_read L p = number_shows L.signals L.lines L.line p.signal

-- L2: each distant shows what L2 says of the signals that show beside it
abbrev pub DistantsShow : Layout → Panel → Type 0
DistantsShow L p = (d : ℕ) → d < L.distants → p.distant d ≡ distant_shows (number_read L p) (carrier_of L d) (announced_by L d)

-- L2: each warns a driver of no more than they show
abbrev pub DistantsWarn : Layout → Panel → Type 0
DistantsWarn L p = (d : ℕ) → d < L.distants → Warns (number_read L p) (carrier_of L d) (announced_by L d) (p.distant d)

-- section 7, as document 01 has it: section and point readings, signals, routes, lines, then the blocks, line by line
unfoldable pub image_without_distants : Layout → State → List ℕ
image_without_distants L s =
    table L.sections (reading s.section)
    ++ table L.points (point_reading s.point)
    ++ table L.signals (main_shows L.routes L.route s.phase)
    ++ table L.routes (λ r. route_byte (phase s.phase r))
    ++ table L.lines (direction s.direction)
    ++ join L.lines (line_bytes L.line s.direction s.point s.stage s.bar)
