-- The test of a state means that each of its codes is in range; what keeps a table in its range; the cold start is in range.
use Prim.Native.Nat.{ℕ, ◌<◌}
use mathlib.Core.Path.{◌≡◌}
use mathlib.Core.Bool.{true}
use mathlib.Core.List.{List}
use mathlib.Core.Logic.Iff
use mathlib.Core.Logic.{◌↔◌}
use native.Mathlib.Omega.{arith}
use native.Mathlib.Decide.{dec_lt}
use borrow.Author.Tests.{ltb-true}
use lib.Dec.{eqb, ltb}
use lib.ListN.{get_or, replicate, get_or-replicate}
use Rattle.laws.specs.Tables.{each, put, read}
use Rattle.laws.proofs.Choice.{if_both}
use Rattle.laws.proofs.Each.{each_at, each_past}
use Rattle.layout_facts.proofs.Means.{lastly, ◌also◌, ◌&◌, every_means, all_means}
use Rattle.layout_facts.proofs.Lists.{between_means}
use Rattle.track.specs.Sizes.{most_sections, most_points, most_lines, most_places, most_train_routes, most_routes, most_lamps}
use Rattle.axles.specs.declared.Axles.{Axles}
use Rattle.interlocking.specs.declared.State.{State}
use Rattle.interlocking.specs.State.{cold, codes, routes_and_lines_in_range, in_range, with_sections, with_points, with_routes, with_lines, with_bars, with_axles, with_lamps}
use Rattle.step_facts.specs.Range.{In, Within, InRange, Sections, Points, Orders, Phases, Steps, Seconds, Directions, Stages, Bars, Lamps}

-- ---- the test

-- each entry of a table
codes_means : (n low high : ℕ) (xs : List ℕ) → codes n low high xs ≡ true ↔ Within n low high xs
unfolding codes
codes_means n low high xs = Iff.trans (all_means (λ i l. between_means _ _ _)) (λ f. record { entry = f }, λ w. w.entry)

-- a state's ten tables of codes, each in its range
abbrev Ranged : State → Type 0
Ranged s = Sections s.section × Points s.point × Orders s.order × Phases s.phase × Steps s.steps × Seconds s.seconds
    × Directions s.direction × Stages s.stage × Bars s.bar × Lamps s.lamp

-- then it is in range
ranged : {s : State} → Ranged s → InRange s
ranged t = record { section = t.0; point = t.1; order = t.2; phase = t.3; steps = t.4; seconds = t.5; direction = t.6; stage = t.7; bar = t.8; lamp = t.9 }

-- each table of a state
pub in_range_means : (s : State) → in_range s ≡ true ↔ InRange s
unfolding in_range routes_and_lines_in_range
in_range_means s =
    Iff.trans (every_means (
    codes_means _ _ _ _ also codes_means _ _ _ _ also codes_means _ _ _ _ also every_means (
    codes_means _ _ _ _ also codes_means _ _ _ _ also codes_means _ _ _ _ also codes_means _ _ _ _ also codes_means _ _ _ _
    also lastly (codes_means _ _ _ _)) also lastly (codes_means _ _ _ _))) (
      λ (section, (point, (order, ((phase, (step, (second, (direction, (stage, bar))))), lamp)))).
          ranged (section, point, order, phase, step, second, direction, stage, bar, lamp),
      λ r. r.section & r.point & r.order & (r.phase & r.steps & r.seconds & r.direction & r.stage & r.bar) & r.lamp,
    )

-- ---- tables

module _ {n low high : ℕ} {xs : List ℕ} (w : Within n low high xs) where
  -- a table made anew by a rule that keeps the range
  pub each_within : (m : ℕ) (f : ℕ → ℕ → ℕ) → ((i was : ℕ) → In low high was → In low high (f i was)) → Within n low high (each m f xs)
  each_within m f h = record { entry = λ i b. go i b (dec_lt i m) }
    where
      go : (i : ℕ) → i < n → Dec (i < m) → In low high (get_or (each m f xs) i 0)
      go i b (yes l) = rw (each_at m f xs i l) (h i (get_or xs i 0) (w.entry i b))
      go i b (no l) = rw (each_past m f xs i (omega arith)) (w.entry i b)

  -- a code of the range put at a place
  pub put_within : (m a v : ℕ) → In low high v → Within n low high (put m xs a v)
  unfolding put
  put_within m a v h = each_within m _ (λ i was p. if_both (In low high) (eqb i a) (λ t. h) (λ t. p))

  -- what is read of a table, where what is read past its end is a code of the range
  pub read_within : (d i : ℕ) → In low high d → In low high (read n d xs i)
  unfolding read
  read_within d i h = if_both (In low high) (ltb i n) (λ t. w.entry i (ltb-true i n t)) (λ t. h)

-- a table of one code
alike_within : (n low high v : ℕ) → In low high v → Within n low high (replicate n v)
alike_within n low high v h = record { entry = λ i b. rw (get_or-replicate n i v 0 b) h }

-- ---- states

-- everything reads none, nothing is ordered, locked, secured or barred, each block is held in stage 0, and each lamp reports none
cold_ranges : InRange cold
unfolding cold
cold_ranges = record {
  section = alike_within most_sections 1 3 3 (omega arith);
  point = alike_within most_points 1 3 3 (omega arith);
  order = alike_within most_points 0 2 0 (omega arith);
  phase = alike_within most_routes 0 3 0 (omega arith);
  steps = alike_within most_train_routes 0 3 0 (omega arith);
  seconds = alike_within most_train_routes 0 89 0 (omega arith);
  direction = alike_within most_lines 0 2 0 (omega arith);
  stage = alike_within most_places 0 4 1 (omega arith);
  bar = alike_within most_places 0 1 0 (omega arith);
  lamp = alike_within most_lamps 1 3 3 (omega arith);
}

-- the cold start is in range
pub cold_in_range : in_range cold ≡ true
cold_in_range = (in_range_means cold).1 cold_ranges

module _ {s : State} (R : InRange s) where
  -- with its readings of sections and its stages made anew
  pub sections_range : {section stage : List ℕ} → Sections section → Stages stage → InRange (with_sections s section stage)
  unfolding with_sections
  sections_range g k = ranged (g, R.point, R.order, R.phase, R.steps, R.seconds, R.direction, k, R.bar, R.lamp)

  -- with its readings of points and its orders made anew
  pub points_range : {point order : List ℕ} → Points point → Orders order → InRange (with_points s point order)
  unfolding with_points
  points_range p o = ranged (R.section, p, o, R.phase, R.steps, R.seconds, R.direction, R.stage, R.bar, R.lamp)

  -- with what it holds of routes made anew
  pub routes_range : {phase step second : List ℕ} → Phases phase → Steps step → Seconds second → InRange (with_routes s phase step second)
  unfolding with_routes
  routes_range p t c = ranged (R.section, R.point, R.order, p, t, c, R.direction, R.stage, R.bar, R.lamp)

  -- with its directions and its stages made anew
  pub lines_range : {direction stage : List ℕ} → Directions direction → Stages stage → InRange (with_lines s direction stage)
  unfolding with_lines
  lines_range d k = ranged (R.section, R.point, R.order, R.phase, R.steps, R.seconds, d, k, R.bar, R.lamp)

  -- with its bars made anew
  pub bars_range : {bar : List ℕ} → Bars bar → InRange (with_bars s bar)
  unfolding with_bars
  bars_range b = ranged (R.section, R.point, R.order, R.phase, R.steps, R.seconds, R.direction, R.stage, b, R.lamp)

  -- with its heads made anew, which have no range
  pub heads_range : (axles : List Axles) → InRange (with_axles s axles)
  unfolding with_axles
  heads_range axles = ranged (R.section, R.point, R.order, R.phase, R.steps, R.seconds, R.direction, R.stage, R.bar, R.lamp)

  -- with its lamps made anew
  pub lamps_range : {lamp : List ℕ} → Lamps lamp → InRange (with_lamps s lamp)
  unfolding with_lamps
  lamps_range k = ranged (R.section, R.point, R.order, R.phase, R.steps, R.seconds, R.direction, R.stage, R.bar, k)
