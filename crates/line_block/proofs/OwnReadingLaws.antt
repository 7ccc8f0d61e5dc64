-- Own readings by cases, each from the facts that choose it; and where nothing opens.
use Prim.Native.Nat.{ℕ, ◌*◌, ◌/◌, ◌%◌, ◌≤◌}
use mathlib.Core.Path.{◌≡◌, refl, sym, ◌∙◌}
use mathlib.Core.Bool.{Bool, true, false, ◌&&◌}
use mathlib.Core.List.{List}
use native.Mathlib.Omega.{arith}
use lib.Dec.{eqb}
use lib.ListN.{length, get_or, replicate}
use Rattle.laws.specs.Choice.{when◌then◌else◌}
use Rattle.laws.specs.Tests.{◌and◌}
use Rattle.laws.proofs.Arrays.{nothing_at}
use Rattle.laws.proofs.Choice.{Is, holds, fails, which}
use Rattle.laws.proofs.Each.{length_each}
use Rattle.laws.proofs.Tests.{and_both, not_both}
use Rattle.track.specs.declared.Line.{Line}
use Rattle.track.specs.Codes.{free, stage2}
use Rattle.track.specs.Sizes.{most_lines, most_blocks}
use Rattle.track.specs.Objects.{line}
use Rattle.tables.specs.declared.Gives.{Gives}
use Rattle.tables.specs.Locks.{direction}
use Rattle.passage.specs.Passage.{free_stage, own_stage}
use Rattle.lamps.specs.Lamps.{far_stop_lit}
use Rattle.line_block.specs.Entries.{none_waits}
use Rattle.line_block.specs.OwnReadings.{own_given, own_stage_at, given_stages, own_stages}
use Rattle.line_block.specs.PassingBack.{goes_open, no_arrival, passed_back}
use Rattle.line_block.proofs.PassingBackLaws.{passed_same, passed_unwaited}

-- where nothing is given the stage stays
own_nothing : (x : Bool) (was : ℕ) → own_stage 0 x was ≡ was
unfolding own_stage when◌then◌else◌
own_nothing x was = refl

-- the lamp matters only to a block in stage 2 that is given free
own_same : (given was : ℕ) (x : Bool) → eqb given free && eqb was stage2 ≡ false → own_stage given false was ≡ own_stage given x was
unfolding own_stage free_stage ◌and◌ when◌then◌else◌
own_same given was x h = go (which (eqb given free)) (which (eqb was stage2))
  where
    -- by the two tests, of which one fails
    go : Is (eqb given free) → Is (eqb was stage2) → own_stage given false was ≡ own_stage given x was
    go (fails t) u = rw t
    go (holds t) (fails u) = rw u
    go (holds t) (holds u) = not_both (and_both _ _ t u) h

module _ (m : ℕ) (ls : List Line) (directions lamps : List ℕ) (e : Gives) (k was : ℕ) (b : Line) (given : ℕ)
    (g : b ≡ line ls (k / most_blocks)) (p : given ≡ own_given e b (k % most_blocks)) where
  -- nothing is given
  pub own_elsewhere : given ≡ 0 → was ≡ own_stage_at m ls directions lamps e k was
  unfolding own_stage_at
  own_elsewhere h = rw (← g, ← p, h) (sym (own_nothing _ was))

  -- the lamp is asked
  pub own_asked : (w : ℕ) (x : Bool) (v : ℕ) → w ≡ direction directions (k / most_blocks) → x ≡ far_stop_lit m ls lamps (k / most_blocks) (k % most_blocks) w
      → v ≡ own_stage given x was → v ≡ own_stage_at m ls directions lamps e k was
  unfolding own_stage_at
  own_asked w x v d f q = rw (← g, ← p, ← d, ← f) q

  -- the lamp does not matter: free is not given, or the block is not in stage 2
  pub own_moot : (v : ℕ) → eqb given free && eqb was stage2 ≡ false → v ≡ own_stage given false was → v ≡ own_stage_at m ls directions lamps e k was
  own_moot v h q = own_asked _ _ v refl refl (q ∙ own_same given was _ h)

-- ---- all blocks

module _ (n m : ℕ) (ls : List Line) (directions lamps : List ℕ) (e : Gives) (stages : List ℕ) where
  -- a table that holds the blocks of the n lines keeps its length
  pub given_long : most_blocks * n ≤ length stages → length (given_stages n m ls directions lamps e stages) ≡ length stages
  unfolding given_stages
  given_long b = length_each _ _ stages b

  -- where none of them waits then nothing passes back
  pub own_unwaited : most_blocks * n ≤ length stages → n ≤ most_lines → (r : List ℕ) → r ≡ given_stages n m ls directions lamps e stages → (none : Bool) → none ≡ none_waits r → none ≡ true
      → r ≡ own_stages n m ls directions lamps e stages
  unfolding own_stages
  own_unwaited b few r q none p t =
      let z : length r ≡ length stages = rw q (given_long b) in
      rw (← q) (passed_unwaited n ls directions r (omega arith) _ no_arrival few (sym p ∙ t))

  -- where the code tells arrivals by a table in which none stands
  pub own_passed : most_blocks * n ≤ length stages → (v r : List ℕ) → r ≡ given_stages n m ls directions lamps e stages
      → v ≡ passed_back n ls directions (goes_open stages r) (λ l w. get_or (replicate most_lines false) l false) r
      → v ≡ own_stages n m ls directions lamps e stages
  unfolding own_stages no_arrival
  own_passed b v r q p =
      let z : length r ≡ length stages = rw q (given_long b) in
      rw (← q) (p ∙ passed_same n ls directions r (omega arith) _ _ _ no_arrival (λ l i. refl) (λ l c. nothing_at {A = Bool} most_lines false l))
