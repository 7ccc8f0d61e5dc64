-- The cases of what an event itself does and of a state's ranges, each from the facts that choose it.
use Prim.Native.Nat.{ℕ, ◌*◌, ◌≤◌}
use mathlib.Core.Path.{◌≡◌, sym, ◌∙◌}
use mathlib.Core.List.{List}
use native.Mathlib.Omega.{arith}
use lib.ListN.{length, set}
use lib.Seq.{set_out}
use Rattle.laws.specs.Tables.{each, put}
use Rattle.laws.proofs.Each.{put_set}
use Rattle.track.specs.declared.Line.{Line}
use Rattle.track.specs.Codes.{neutral, at_proceed, cancelling}
use Rattle.track.specs.Sizes.{most_sections, most_points, most_lines, most_blocks, most_places, most_train_routes, most_routes}
use Rattle.tables.specs.Blocks.{place}
use Rattle.line_block.specs.Entries.{few_lines}
use Rattle.line_block.specs.OwnReadings.{own_stages}
use Rattle.line_block.proofs.Lines.{few_all}
use Rattle.interlocking.specs.declared.Core.{Core}
use Rattle.interlocking.specs.State.{with_sections, with_points, with_routes, with_lines, with_bars}
use Rattle.interlocking.specs.Parts.{core_of, headless, bare}
use Rattle.interlocking.specs.Own.{own_section, own_point, throw_reading, own_throw, own_lock, own_cancel, own_secure, open_at, own_manual, own_bar}

-- ---- one store

-- a store in a table of n
pub put_inside : (n : ℕ) (xs : List ℕ) (a v : ℕ) {ys : List ℕ} → length xs ≡ n → ys ≡ set xs a v → ys ≡ put n xs a v
put_inside n xs a v q e = e ∙ put_set n xs a v q

-- past the table's end nothing is stored
pub put_past : (n : ℕ) (xs : List ℕ) (a v : ℕ) {ys : List ℕ} → length xs ≡ n → n ≤ a → ys ≡ xs → ys ≡ put n xs a v
put_past n xs a v q b e = e ∙ sym (set_out xs a v (omega arith)) ∙ put_set n xs a v q

-- ---- what each event itself does, put together from its stores

module _ (s : Core) where
  -- 1: the reading stored, and the stages of all lines
  pub section_made : (m : ℕ) (ls : List Line) (n : ℕ) (lamps : List ℕ) (g v : ℕ) (section stage : List ℕ) → n ≤ most_lines → section ≡ put most_sections s.section g v
      → stage ≡ own_stages (few_lines n) m ls s.direction lamps (record { section = g; reading = v; tick = 0 }) s.stage
      → core_of (with_sections (headless s lamps) section stage) ≡ core_of (own_section m ls n (headless s lamps) g v)
  unfolding own_section
  section_made m ls n lamps g v section stage few p q = rw (p, q, few_all n few)

  -- 2: the reading stored
  pub point_made : (a v : ℕ) (point : List ℕ) → point ≡ put most_points s.point a v → core_of (with_points (bare s) point s.order) ≡ core_of (own_point (bare s) a v)
  unfolding own_point
  point_made a v point p = rw p

  -- 3: the reading and the order stored
  pub throw_made : (a w x : ℕ) (point order : List ℕ) → x ≡ throw_reading s.point a w → point ≡ put most_points s.point a x → order ≡ put most_points s.order a w
      → core_of (with_points (bare s) point order) ≡ core_of (own_throw (bare s) a w)
  unfolding own_throw
  throw_made a w x point order e p q = rw (p, q, e)

  -- 4: phase, step and seconds stored
  pub lock_made : (r : ℕ) (phase step second : List ℕ) → phase ≡ put most_routes s.phase r at_proceed → step ≡ put most_train_routes s.steps r 0 → second ≡ put most_train_routes s.seconds r 0
      → core_of (with_routes (bare s) phase step second) ≡ core_of (own_lock (bare s) r)
  unfolding own_lock
  lock_made r phase step second p q t = rw (p, q, t)

  -- 5: phase and seconds stored
  pub cancel_made : (r : ℕ) (phase second : List ℕ) → phase ≡ put most_routes s.phase r cancelling → second ≡ put most_train_routes s.seconds r 0
      → core_of (with_routes (bare s) phase s.steps second) ≡ core_of (own_cancel (bare s) r)
  unfolding own_cancel
  cancel_made r phase second p q = rw (p, q)

  -- 6: the direction stored
  pub secure_made : (l w : ℕ) (direction : List ℕ) → direction ≡ put most_lines s.direction l w → core_of (with_lines (bare s) direction s.stage) ≡ core_of (own_secure (bare s) l w)
  unfolding own_secure
  secure_made l w direction p = rw p

  -- 7: the direction stored, and the stages
  pub manual_made : (ls : List Line) (n l : ℕ) (direction stage : List ℕ) → direction ≡ put most_lines s.direction l neutral
      → stage ≡ each (most_blocks * n) (open_at ls l) s.stage → core_of (with_lines (bare s) direction stage) ≡ core_of (own_manual ls n (bare s) l)
  unfolding own_manual
  manual_made ls n l direction stage p q = rw (p, q)

  -- 8, 9: the bar stored
  pub bar_made : (l i b : ℕ) (bar : List ℕ) → bar ≡ put most_places s.bar (place l i) b → core_of (with_bars (bare s) bar) ≡ core_of (own_bar (bare s) l i b)
  unfolding own_bar
  bar_made l i b bar p = rw p
