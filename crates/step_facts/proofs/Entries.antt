-- What stands at an entry of a table, and what stands there once the table was made anew; a state, read by number.
use Prim.Native.Nat.{ℕ, ◌+◌, ◌*◌, ◌/◌, ◌%◌, ◌<◌, ◌≤◌}
use mathlib.Core.Path.{◌≡◌, sym, ap, ◌∙◌}
use mathlib.Core.Bool.{Bool}
use mathlib.Core.List.{List}
use mathlib.Core.Logic.{◌≢◌}
use native.Mathlib.Nat.{mul_comm}
use native.Mathlib.Omega.{arith}
use borrow.Author.Tests.{eq-eqb, ne_eqb}
use lib.Arith.{digits_div, digits_mod}
use lib.ListN.{replicate, get_or-replicate}
use Rattle.laws.specs.Tables.{read, each, put}
use Rattle.laws.proofs.Choice.{chosen, passed_over}
use Rattle.laws.proofs.Arrays.{read_at}
use Rattle.laws.proofs.Each.{each_at}
use Rattle.track.specs.Codes.{stage0}
use Rattle.track.specs.Sizes.{most_sections, most_lines, most_blocks, most_places, most_train_routes}
use Rattle.track.specs.Blocks.{only_section}
use Rattle.track.proofs.OnlySection.{only_in}
use Rattle.tables.specs.Readings.{point_reading}
use Rattle.tables.specs.Blocks.{place}
use Rattle.tables.specs.Locks as locks
use Rattle.line_block.specs.LineRelease.{ends_by}
use Rattle.layout.specs.declared.Layout.{Layout}
use Rattle.layout.specs.Layout.{line_in}
use Rattle.layout_facts.specs.Plain.{InBlock, Sound}
use Rattle.interlocking.specs.declared.State.{State}

-- ---- tables

-- an entry that was made anew
pub read_each : (n d m : ℕ) (f : ℕ → ℕ → ℕ) (xs : List ℕ) (i : ℕ) → i < n → i < m → read n d (each m f xs) i ≡ f i (read n d xs i)
read_each n d m f xs i b c = read_at n d (each m f xs) i b ∙ each_at m f xs i c ∙ ap (f i) (sym (read_at n d xs i b))

module _ (n d : ℕ) (xs : List ℕ) (a v i : ℕ) (b : i < n) where
  -- the one that v was put at
  pub put_here : i ≡ a → read n d (put n xs a v) i ≡ v
  unfolding put
  put_here q = read_each n d n _ xs i b b ∙ chosen _ _ _ (eq-eqb i a q)

  -- and any other
  pub put_elsewhere : i ≢ a → read n d (put n xs a v) i ≡ read n d xs i
  unfolding put
  put_elsewhere q = read_each n d n _ xs i b b ∙ passed_over _ _ _ (ne_eqb i a q)

-- an entry of a table that has one number throughout
pub read_same : (n d v i : ℕ) → i < n → read n d (replicate n v) i ≡ v
read_same n d v i b = read_at n d (replicate n v) i b ∙ get_or-replicate n i v 0 b

-- ---- the tables of blocks

module _ (l i : ℕ) (b : i < most_blocks) where
  -- the line whose block stands at a place
  pub place_line : place l i / most_blocks ≡ l
  unfolding place
  place_line = ap (λ k. (k + i) / most_blocks) (mul_comm most_blocks l) ∙ digits_div l b

  -- and the block
  pub place_block : place l i % most_blocks ≡ i
  unfolding place
  place_block = ap (λ k. (k + i) % most_blocks) (mul_comm most_blocks l) ∙ digits_mod l b

  -- the entry of block i of a line that there is, made anew
  pub read_block : (n : ℕ) (f : ℕ → ℕ → ℕ) (xs : List ℕ) → l < n → n ≤ most_lines
      → read most_places stage0 (each (most_blocks * n) f xs) (place l i) ≡ f (place l i) (read most_places stage0 xs (place l i))
  unfolding place
  read_block n f xs c d = read_each most_places stage0 (most_blocks * n) f xs (most_blocks * l + i) (omega arith) (omega arith)

-- ---- a state, read by number

-- the one section that block i of line l has today
abbrev pub block : Layout → ℕ → ℕ → ℕ
block L l i = only_section (line_in L l) i

-- on a sound layout it is one of the layout's sections, so one of those that there may be
module _ (L : Layout) (S : Sound L) (l i : ℕ) (b : l < L.lines) (h : i < (line_in L l).blocks) where
  -- a section of the layout
  pub block_there : block L l i < L.sections
  unfolding InBlock
  block_there = (S.ranges.lines l b).blocks i _ h (only_in (line_in L l) i)

  -- one of those that there may be
  pub block_below : block L l i < most_sections
  block_below = omega (arith, block_there, S.ranges.section_count)

-- line l, secured in direction w, is released
abbrev pub ends : Layout → State → State → ℕ → ℕ → Bool
ends L before s l w = ends_by (line_in L l) L.routes L.route before.stage s.stage s.bar s.phase l w

-- the phase of route r
abbrev pub phase : State → ℕ → ℕ
phase s r = locks.phase s.phase r

-- the direction of line l
abbrev pub direction : State → ℕ → ℕ
direction s l = locks.direction s.direction l

-- the stage of block i of line l
abbrev pub stage : State → ℕ → ℕ → ℕ
stage s l i = read most_places stage0 s.stage (place l i)

-- the bar of block i of line l
abbrev pub bar_at : State → ℕ → ℕ → ℕ
bar_at s l i = read most_places 1 s.bar (place l i)

-- what point p reads
abbrev pub point_at : State → ℕ → ℕ
point_at s p = point_reading s.point p

-- the steps that are done of route r, and the seconds of its cancelling
abbrev pub steps_of : State → ℕ → ℕ
steps_of s r = read most_train_routes 0 s.steps r

abbrev pub seconds_of : State → ℕ → ℕ
seconds_of s r = read most_train_routes 0 s.seconds r
