-- The panel image (section 7): its bytes in their order, the answer, and what the lent buffer holds afterwards.
use Rattle.std.specs.Prelude.{ℕ, zero, suc, ◌+◌, ◌*◌, Bool, not, List, [], ◌∷◌, ◌++◌, eqb, ltb, leb, length, drop}
use Rattle.laws.specs.Choice.{when◌then◌else◌}
use Rattle.laws.specs.Tests.{◌and◌, every}
use Rattle.laws.specs.Tables.{table, join, read}
use Rattle.track.specs.declared.Line.{Line}
use Rattle.track.specs.Codes.{a_to_b, b_to_a, stage0, idle, cancelling}
use Rattle.track.specs.Sizes.{most_sections, most_points, most_signals, most_lines, most_places, most_distants, most_train_routes}
use Rattle.track.specs.Lists.{between}
use Rattle.track.specs.Objects.{line}
use Rattle.tables.specs.Readings.{reading, point_reading}
use Rattle.tables.specs.Blocks.{place}
use Rattle.tables.specs.Locks.{direction, phase}
use Rattle.signals.specs.MainSignals.{main_shows}
use Rattle.signals.specs.BlockSignals.{block_shows}
use Rattle.signals.specs.Shows.{shows, number_shows}
use Rattle.signals.specs.Distants.{distant_shows}
use Rattle.layout.specs.declared.Layout.{Layout}
use Rattle.layout.specs.Layout.{carrier_of, announced_by}
use Rattle.layout.specs.Sound.{sound}
use Rattle.interlocking.specs.declared.State.{State}
use Rattle.interlocking.specs.State.{in_range}
use Rattle.panel.specs.declared.Drawn.{Drawn}

-- how many blocks the first n lines have
unfoldable pub blocks : ℕ → List Line → ℕ
blocks zero ls = 0
blocks (suc n) ls = blocks n ls + (line ls n).blocks

-- ---- routes

-- a route by its phase: 0 idle, 1 locked, 2 cancelling
unfoldable pub route_byte : ℕ → ℕ
route_byte p = when eqb p idle then 0 else when eqb p cancelling then 2 else 1

-- ---- distants

-- what the signal of a number shows, of main and block signals (L2)
unfoldable pub signal_shows : Layout → State → ℕ → ℕ
signal_shows L s =
    number_shows L.signals L.lines L.line
    (shows L.routes L.route s.phase L.line s.direction s.point s.stage s.bar)

-- distant d, by what the signals show at the event's end: 23, 24, 25, or 0 if dark (L2)
unfoldable pub distant_byte : Layout → State → ℕ → ℕ
distant_byte L s d = distant_shows (signal_shows L s) (carrier_of L d) (announced_by L d)

-- ---- blocks

-- block i of line l: 0 open or 1, 2, 3 for stages 0, 1, 2, its signal A to B, its signal B to A
unfoldable pub block_bytes : List Line → List ℕ → List ℕ → List ℕ → List ℕ → ℕ → ℕ → List ℕ
block_bytes ls directions points stages bars l i =
    read most_places stage0 stages (place l i)
    ∷ block_shows ls directions points stages bars l i a_to_b
    ∷ block_shows ls directions points stages bars l i b_to_a
    ∷ []

-- the blocks of line l, from A
unfoldable pub line_bytes : List Line → List ℕ → List ℕ → List ℕ → List ℕ → ℕ → List ℕ
line_bytes ls directions points stages bars l = join (line ls l).blocks (block_bytes ls directions points stages bars l)

-- ---- the image

-- one byte each: section and point readings, signals, routes, distants (L2), lines (0 neutral, 1, 2), then the blocks, line by line
unfoldable pub image : Layout → State → List ℕ
image L s =
    table L.sections (reading s.section)
    ++ table L.points (point_reading s.point)
    ++ table L.signals (main_shows L.routes L.route s.phase)
    ++ table L.routes (λ r. route_byte (phase s.phase r))
    ++ table L.distants (distant_byte L s)
    ++ table L.lines (direction s.direction)
    ++ join L.lines (line_bytes L.line s.direction s.point s.stage s.bar)

-- how many bytes that is, by the layout alone
unfoldable pub panel_length : Layout → ℕ
panel_length L = L.sections + L.points + L.signals + L.routes + L.distants + L.lines + 3 * blocks L.lines L.line

-- ---- the answer, and the buffer

-- an answer that is not 0 has length 0
unfoldable pub refused : ℕ → Drawn
refused number = record { number = number; length = 0 }

-- where is_sound answers the question of 18: 18 before 27 for a buffer of room bytes that is too short; else 0 and the image's length
unfoldable pub answer_where : Bool → Layout → State → ℕ → Drawn
answer_where is_sound L s room =
    when not is_sound then refused 18
    else when ltb room (length (image L s)) then refused 27
    else record { number = 0; length = length (image L s) }

-- the image where the answer is 0, and later bytes as they were; any other answer leaves the buffer untouched
unfoldable pub drawn_where : Bool → Layout → State → List ℕ → List ℕ
drawn_where is_sound L s buffer =
    when eqb (answer_where is_sound L s (length buffer)).number 0 then image L s ++ drop (length (image L s)) buffer else buffer

-- section 7: 18 is for an unsound record, layout or state
unfoldable pub answer : Layout → State → ℕ → Drawn
answer L s room = answer_where (sound L and in_range s) L s room

unfoldable pub drawn : Layout → State → List ℕ → List ℕ
drawn L s buffer = drawn_where (sound L and in_range s) L s buffer

-- ---- the panel of a run that asked soundness before its first event

-- what 18 asks in a run: there are no more objects than the tables hold, there is a section, so that the layout with no objects (section 2) gets 18,
-- and no fitted section is lacking (L1)
unfoldable pub panel_asked_in_run : Layout → Bool
panel_asked_in_run L = every (
    between 1 most_sections L.sections
    ∷ leb L.points most_points
    ∷ leb L.signals most_signals
    ∷ leb L.routes most_train_routes
    ∷ leb L.distants most_distants
    ∷ leb L.lines most_lines
    ∷ eqb L.lacking 0
    ∷ [])

unfoldable pub answer_in_run : Layout → State → ℕ → Drawn
answer_in_run L s room = answer_where (panel_asked_in_run L) L s room

unfoldable pub drawn_in_run : Layout → State → List ℕ → List ℕ
drawn_in_run L s buffer = drawn_where (panel_asked_in_run L) L s buffer
