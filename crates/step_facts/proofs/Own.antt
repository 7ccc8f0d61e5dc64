-- What an accepted event itself does keeps the state in range.
use Prim.Native.Nat.{ℕ, ◌/◌}
use mathlib.Core.Path.{◌≡◌}
use mathlib.Core.Logic.{⊎_elim}
use mathlib.Core.Bool.{Bool, false, not}
use mathlib.Core.List.{List}
use native.Mathlib.Omega.{arith}
use borrow.Author.Tests.{not-false}
use lib.IntN.{ℤ, pos, negsuc}
use Rattle.laws.proofs.Choice.{if_both}
use Rattle.track.specs.declared.Line.{Line}
use Rattle.track.specs.declared.Route.{Route}
use Rattle.track.specs.Sizes.{most_sections, most_points, most_routes, most_train_routes, most_lines, most_places, most_lamps}
use Rattle.track.specs.Lists.{between}
use Rattle.track.proofs.Ways.{leaving_two}
use Rattle.tables.specs.declared.Gives.{Gives}
use Rattle.tables.specs.Readings.{recorded}
use Rattle.passage.specs.Passage.{free_stage, own_stage}
use Rattle.line_block.specs.PassingBack.{waited_stage, waited_stage_at, passed_back}
use Rattle.line_block.specs.OwnReadings.{own_stage_at, given_stages, own_stages}
use Rattle.axles.specs.declared.Axles.{Axles}
use Rattle.axles.specs.Heads.{reading_of, axles_reading}
use Rattle.layout_facts.proofs.Lists.{between_means}
use Rattle.layout.specs.declared.Layout.{Layout}
use Rattle.interlocking.specs.declared.State.{State}
use Rattle.interlocking.specs.Own.{own_section, own_point, throw_reading, own_throw, own_lock, secure_first, own_set, own_cancel, own_secure, open_at, own_manual, own_bar, own_heads, own_lamp}
use Rattle.interlocking.specs.Rows.{Row, section_row, point_row, throw_row, set_row, cancel_row, secure_row, manual_row, bar_row, second_row, head_row, count_row, silent_row, reset_row, lamp_row, no_row}
use Rattle.interlocking.proofs.Rows.{OfKind, section_row_kind, point_row_kind, throw_row_kind, set_row_kind, cancel_row_kind, secure_row_kind, manual_row_kind, bar_row_kind, unbar_row, second_row_kind, count_row_kind, silent_row_kind, reset_row_kind, lamp_row_kind, no_row_kind}
use Rattle.step_facts.specs.Range.{In, InRange}
use Rattle.step_facts.proofs.Range.{each_within, put_within, sections_range, points_range, routes_range, lines_range, bars_range, heads_range, lamps_range}

-- ---- one code

-- given free, it is open, or in stage 3 or 0
free_stage_in : (lit : Bool) (was : ℕ) → In 0 4 (free_stage lit was)
unfolding free_stage
free_stage_in lit was =
    if_both (In 0 4) _ (λ t. omega arith) (λ t. if_both (In 0 4) _ (λ u. if_both (In 0 4) lit (λ x. omega arith) (λ x. omega arith))
    (λ u. if_both (In 0 4) _ (λ x. omega arith) (λ x. omega arith)))

-- a block's own reading gives it one of its stages
own_stage_in : (v : ℕ) (lit : Bool) (was : ℕ) → In 0 4 was → In 0 4 (own_stage v lit was)
unfolding own_stage
own_stage_in v lit was h =
    if_both (In 0 4) _ (λ t. if_both (In 0 4) _ (λ u. h) (λ u. omega arith))
    (λ t. if_both (In 0 4) _ (λ u. omega arith) (λ u. if_both (In 0 4) _ (λ x. free_stage_in lit was) (λ x. h)))

-- so the stage at a place stays in range, whatever its block is given
stage_in : (m : ℕ) (ls : List Line) (directions lamps : List ℕ) (e : Gives) (k was : ℕ) → In 0 4 was → In 0 4 (own_stage_at m ls directions lamps e k was)
unfolding own_stage_at
stage_in m ls directions lamps e k was h = own_stage_in _ _ was h

-- a block that waited is open or stays (L3)
pub waited_in : (ls : List Line) (directions : List ℕ) (opened arrived : ℕ → ℕ → Bool) (stages : List ℕ) (k was : ℕ) → In 0 4 was
    → In 0 4 (waited_stage_at ls directions opened arrived stages k was)
unfolding waited_stage_at waited_stage
waited_in ls directions opened arrived stages k was h = if_both (In 0 4) _ (λ t. omega arith) (λ t. h)

-- a block opened by hand is open, another stays
open_in : (ls : List Line) (l k was : ℕ) → In 0 4 was → In 0 4 (open_at ls l k was)
unfolding open_at
open_in ls l k was h = if_both (In 0 4) _ (λ t. omega arith) (λ t. h)

-- a thrown point reads its position or none
throw_in : (points : List ℕ) (p w : ℕ) → In 1 2 w → In 1 3 (throw_reading points p w)
unfolding throw_reading
throw_in points p w h = if_both (In 1 3) _ (λ t. omega arith) (λ t. omega arith)

-- ---- the state

module _ (L : Layout) {s : State} (R : InRange s) (a v : ℕ) where
  -- 1: the section's reading, and the stage of the block that it is
  section_range : In 1 3 v → InRange (own_section L.signals L.line L.lines s a v)
  unfolding own_section own_stages given_stages passed_back
  section_range h =
      sections_range R (put_within R.section most_sections a v h)
      (each_within (each_within R.stage _ _ (stage_in L.signals L.line _ _ _)) _ _ (waited_in L.line _ _ _ _))

  -- 2: the point's reading
  point_range : In 1 3 v → InRange (own_point s a v)
  unfolding own_point
  point_range h = points_range R (put_within R.point most_points a v h) R.order

  -- 3: a position is an order, and what the point reads after it
  throw_range : In 1 2 v → InRange (own_throw s a v)
  unfolding own_throw
  throw_range h = points_range R (put_within R.point most_points a _ (throw_in s.point a v h)) (put_within R.order most_points a v (omega arith))

  -- 4: phase 1, no step, no second
  lock_range : InRange (own_lock s a)
  unfolding own_lock
  lock_range = routes_range R (put_within R.phase most_routes a 1 (omega arith)) (put_within R.steps most_train_routes a 0 (omega arith)) (put_within R.seconds most_train_routes a 0 (omega arith))

  -- 5: phase 3, no second
  cancel_range : InRange (own_cancel s a)
  unfolding own_cancel
  cancel_range = routes_range R (put_within R.phase most_routes a 3 (omega arith)) R.steps (put_within R.seconds most_train_routes a 0 (omega arith))

  -- 6: the line's direction
  secure_range : In 1 2 v → InRange (own_secure s a v)
  unfolding own_secure
  secure_range h = lines_range R (put_within R.direction most_lines a v (omega arith)) R.stage

  -- 7: a neutral line of open blocks
  manual_range : InRange (own_manual L.line L.lines s a)
  unfolding own_manual
  manual_range = lines_range R (put_within R.direction most_lines a 0 (omega arith)) (each_within R.stage _ _ (open_in L.line a))

  -- 8, 9: a bar of 1 or 0
  bar_range : (bar : ℕ) → In 0 1 bar → InRange (own_bar s a v bar)
  unfolding own_bar
  bar_range bar h = bars_range R (put_within R.bar most_places _ bar h)

  -- 15: what the lamp reports
  lamp_range : In 1 3 v → InRange (own_lamp s a v)
  unfolding own_lamp
  lamp_range h = lamps_range R (put_within R.lamp most_lamps a v h)

-- L5: a line that is secured first has one of the two directions
first_range : {s : State} → InRange s → (a : Route) → InRange (secure_first s a)
unfolding secure_first own_secure
first_range R a = if_both InRange _ (λ t. lines_range R (put_within R.direction most_lines _ _ (⊎_elim (λ q. omega arith) (λ q. omega arith) (leaving_two a.end))) R.stage) (λ f. R)

-- what is recorded of a reading is free, occupied or none
pub recorded_in : (code : ℕ) → In 1 3 (recorded code)
unfolding recorded
recorded_in code = if_both (In 1 3) _ (λ t. omega arith) (λ t. if_both (In 1 3) _ (λ u. omega arith) (λ u. omega arith))

-- what a section's number says is free, occupied or none
number_says_in : (z : ℤ) → In 1 3 (reading_of z)
unfolding reading_of
number_says_in (pos n) = if_both (In 1 3) _ (λ t. omega arith) (λ t. if_both (In 1 3) _ (λ u. omega arith) (λ u. omega arith))
number_says_in (negsuc n) = omega arith

-- and so is what its heads say (L1)
pub heads_say_in : (x : Axles) → In 1 3 (axles_reading x)
unfolding axles_reading
heads_say_in x = if_both (In 1 3) _ (λ t. number_says_in _) (λ t. omega arith)

-- 11 to 14: the heads of a section, and its reading by what they say
counted_range : (L : Layout) {s : State} (R : InRange s) (g : ℕ) (y : Axles) → InRange (own_heads L.signals L.line L.lines s g y)
unfolding own_heads
counted_range L R g y = section_range L (heads_range R _) g _ (heads_say_in y)

-- a position or a direction that is not wrong is 1 or 2
position_in : (b : ℕ) → not (between 1 2 b) ≡ false → In 1 2 b
position_in b w = (between_means 1 2 b).0 (not-false _ w)

-- an event whose second number is not wrong, row by row
pub own_range : (L : Layout) {s : State} (R : InRange s) (k a b : ℕ) {row : Row} → OfKind L s a b k row → row.wrong ≡ false → InRange row.does
unfolding section_row point_row throw_row set_row cancel_row secure_row manual_row bar_row second_row head_row count_row silent_row reset_row lamp_row no_row own_set
own_range L R k a b (section_row_kind q) w = section_range L R a _ (recorded_in b)
own_range L R k a b (point_row_kind q) w = point_range L R a _ (recorded_in b)
own_range L R k a b (throw_row_kind q) w = throw_range L R a b (position_in b w)
own_range L R k a b (set_row_kind q) w = lock_range L (first_range R _) a b
own_range L R k a b (cancel_row_kind q) w = cancel_range L R a b
own_range L R k a b (secure_row_kind q) w = secure_range L R a b (position_in b w)
own_range L R k a b (manual_row_kind q) w = manual_range L R a b
own_range L R k a b (bar_row_kind q) w = bar_range L R a b 1 (omega arith)
own_range L R k a b (unbar_row q) w = bar_range L R a b 0 (omega arith)
own_range L R k a b (second_row_kind q) w = R
own_range L R k a b (count_row_kind q) w = counted_range L R (a / 2) _
own_range L R k a b (silent_row_kind q) w = counted_range L R (a / 2) _
own_range L R k a b (reset_row_kind q) w = counted_range L R a _
own_range L R k a b (lamp_row_kind q) w = lamp_range L R a _ (recorded_in b)
own_range L R k a b (no_row_kind u) w = R
