-- What an accepted event itself does (sections 1, 3, 5), before signals, far sections, routes and lines follow.
use Rattle.std.specs.Prelude.{ℕ, ◌*◌, ◌/◌, ◌%◌, List, eqb, ltb, set}
use Rattle.laws.specs.Choice.{when◌then◌else◌}
use Rattle.laws.specs.Tests.{◌and◌}
use Rattle.laws.specs.Tables.{each, put}
use Rattle.track.specs.declared.Line.{Line}
use Rattle.track.specs.declared.Route.{Route}
use Rattle.track.specs.Codes.{reads_none, neutral, leaving, open_block, at_proceed, cancelling, reset_axles}
use Rattle.track.specs.Sizes.{most_sections, most_points, most_lines, most_blocks, most_places, most_train_routes, most_routes, most_lamps}
use Rattle.track.specs.Objects.{line, route}
use Rattle.tables.specs.Readings.{point_reading}
use Rattle.tables.specs.Blocks.{place}
use Rattle.tables.specs.Locks.{departs}
use Rattle.line_block.specs.OwnReadings.{own_stages}
use Rattle.axles.specs.declared.Axles.{Axles}
use Rattle.axles.specs.Heads.{axles_after, axles_reading}
use Rattle.axles.specs.HeadLog.{said}
use Rattle.interlocking.specs.declared.State.{State}
use Rattle.interlocking.specs.State.{heads_at, with_sections, with_points, with_routes, with_lines, with_bars, with_axles, with_lamps}

-- 1: section g reads v, and the block that it belongs to, of n lines, has its own reading (L3: of m main signals, by the lamp of its far signal)
unfoldable pub own_section : ℕ → List Line → ℕ → State → ℕ → ℕ → State
own_section m ls n s g v =
    with_sections s (put most_sections s.section g v) (own_stages n m ls s.direction s.lamp (record { section = g; reading = v; tick = 0 }) s.stage)

-- 2: a point reads v
unfoldable pub own_point : State → ℕ → ℕ → State
own_point s p v = with_points s (put most_points s.point p v) s.order

-- 3: a throw stores the order; the point reads none afterwards unless it already read that position
unfoldable pub throw_reading : List ℕ → ℕ → ℕ → ℕ
throw_reading points p w = when eqb (point_reading points p) w then w else reads_none

unfoldable pub own_throw : State → ℕ → ℕ → State
own_throw s p w = with_points s (put most_points s.point p (throw_reading s.point p w)) (put most_points s.order p w)

-- 6: the line is secured
unfoldable pub own_secure : State → ℕ → ℕ → State
own_secure s l w = with_lines s (put most_lines s.direction l w) s.stage

-- 4: a set route locks at once and its signal shows proceed
unfoldable pub own_lock : State → ℕ → State
own_lock s r = with_routes s (put most_routes s.phase r at_proceed) (put most_train_routes s.steps r 0) (put most_train_routes s.seconds r 0)

-- L5: an exit route on a neutral line first secures it the route's way
unfoldable pub secure_first : State → Route → State
secure_first s a = when departs s.direction a then own_secure s a.line (leaving a.end) else s

-- 4: to set route r of rs: this first, then it locks
unfoldable pub own_set : List Route → State → ℕ → State
own_set rs s r = own_lock (secure_first s (route rs r)) r

-- 5: cancel drops the signal at once, and the seconds begin
unfoldable pub own_cancel : State → ℕ → State
own_cancel s r = with_routes s (put most_routes s.phase r cancelling) s.steps (put most_train_routes s.seconds r 0)

-- 7: manual release makes every block of line l open and the line neutral; bars stay
unfoldable pub open_at : List Line → ℕ → ℕ → ℕ → ℕ
open_at ls l k was = when eqb (k / most_blocks) l and ltb (k % most_blocks) (line ls l).blocks then open_block else was

unfoldable pub own_manual : List Line → ℕ → State → ℕ → State
own_manual ls n s l = with_lines s (put most_lines s.direction l neutral) (each (most_blocks * n) (open_at ls l) s.stage)

-- 8, 9: a bar is set, 1, or cleared, 0
unfoldable pub own_bar : State → ℕ → ℕ → ℕ → State
own_bar s l i bar = with_bars s (put most_places s.bar (place l i) bar)

-- ---- 11 to 14: axle counters (L1)

-- the section that an event of kind k names: kinds 11 to 13 by twice the section plus 0 or 1 for the head, kind 14 by the section itself
unfoldable pub head_section : ℕ → ℕ → ℕ
head_section k a = when eqb k reset_axles then a else a / 2

-- the heads of that section as they were, and what becomes of them; a count has 16 bits, and 3 refuses a larger number
unfoldable pub heads_of : State → ℕ → ℕ → Axles
heads_of s k a = heads_at s.axles (head_section k a)

unfoldable pub heads_by : Axles → ℕ → ℕ → ℕ → Axles
heads_by x k a b = axles_after x (said k (a % 2) (b % 65536))

-- the heads of section g become y, and what they then say is the section's reading, as an ordinary one
unfoldable pub own_heads : ℕ → List Line → ℕ → State → ℕ → Axles → State
own_heads m ls n s g y = own_section m ls n (with_axles s (set s.axles g y)) g (axles_reading y)

-- ---- 15: lamps (L3)

-- the lamp of the signal of number x reports v
unfoldable pub own_lamp : State → ℕ → ℕ → State
own_lamp s x v = with_lamps s (put most_lamps s.lamp x v)
