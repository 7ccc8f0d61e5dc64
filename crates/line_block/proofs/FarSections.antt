-- Far sections by cases, each from the facts that choose it.
use Prim.Native.Nat.{ℕ, ◌/◌, ◌%◌, ◌<◌}
use mathlib.Core.Path.{◌≡◌, refl, sym, ap₂, ◌∙◌}
use mathlib.Core.Bool.{Bool, true, false, not, ◌&&◌}
use mathlib.Core.List.{List}
use native.Mathlib.Omega.{arith}
use borrow.Author.Tests.{eq-eqb, ne_eqb}
use lib.Dec.{eqb}
use Rattle.laws.specs.Choice.{when◌then◌else◌}
use Rattle.laws.specs.Tests.{◌and◌}
use Rattle.laws.proofs.Choice.{if_eq, if_ne, if_both}
use Rattle.track.specs.declared.Line.{Line}
use Rattle.track.specs.Codes.{neutral, occupied, reads_none, stage1, stage2}
use Rattle.track.specs.Sizes.{most_blocks}
use Rattle.track.specs.Objects.{line, entrance}
use Rattle.track.specs.Signal.{Signal}
use Rattle.tables.specs.Readings.{reading}
use Rattle.tables.specs.Locks.{direction}
use Rattle.signals.specs.Signals.{enterable_by, enterable, block_proceeds}
use Rattle.passage.specs.declared.Beyond.{Beyond}
use Rattle.passage.specs.declared.Beyond.TheVariants.{Block, Station}
use Rattle.passage.specs.Passage.{beyond, signal_at, far_section, far_signal, far_stage}
use Rattle.line_block.specs.FarSections.{drops, far_moved, far_stage_at}
use Rattle.line_block.specs.Entries.{main_proceeds_by, proceeds_by}

-- ---- the far signal

-- the block signal: where the line is not secured that way it does not show proceed; else the block decides
module _ (ls : List Line) (directions points stages bars : List ℕ) (l i w d : ℕ) (e : d ≡ direction directions l) where
  -- the direction is another: no proceed
  pub shows_other_way : (d ≡ w → ⊥) → false ≡ block_proceeds ls directions points stages bars l i w
  unfolding block_proceeds ◌and◌
  shows_other_way h = rw (ne_eqb (direction directions l) w (λ z. h (e ∙ z)))

  -- the direction is that one: what lets a train into the block decides
  pub shows_that_way : (r : Bool) (b : Line) → b ≡ line ls l → d ≡ w → r ≡ enterable_by b points stages bars l i
      → r ≡ block_proceeds ls directions points stages bars l i w
  unfolding block_proceeds enterable ◌and◌
  shows_that_way r b g h q = rw (eq-eqb (direction directions l) w (sym e ∙ h), ← g) q

module _ (ls : List Line) (n : ℕ) (entries phases directions points stages bars : List ℕ) (b : Line) (l i w : ℕ) (v : Bool) (x : Beyond)
    (f : x ≡ beyond b i w) where
  -- the next block's signal
  pub far_block : (j : ℕ) → x ≡ Block j → v ≡ block_proceeds ls directions points stages bars l j w
      → v ≡ proceeds_by ls n entries phases directions points stages bars (far_signal b l i w)
  unfolding far_signal proceeds_by signal_at
  far_block j h q = rw (← f, h) q

  -- the station's entrance signal
  pub far_station : (e : ℕ) → x ≡ Station e → v ≡ main_proceeds_by n entries phases (entrance b e)
      → v ≡ proceeds_by ls n entries phases directions points stages bars (far_signal b l i w)
  unfolding far_signal proceeds_by signal_at
  far_station e h q = rw (← f, h) q

-- the far signal did not show proceed before, or it is asked again
module _ (before after : Signal → Bool) (x : Signal) (v : Bool) (e : v ≡ before x) where
  -- what did not show proceed before has not dropped
  pub dropped_stop : v ≡ false → v ≡ drops before after x
  unfolding drops ◌and◌
  dropped_stop h = rw (← e, h)

  -- what showed proceed before has dropped just where it does not show it now
  pub dropped_now : (u : Bool) → v ≡ true → u ≡ after x → not u ≡ drops before after x
  unfolding drops ◌and◌
  dropped_now u h q = rw (← e, h, q)

-- ---- the stage of a block

-- the far signal matters only to a block in stage 1 whose far section reads occupied
far_same : (far was : ℕ) (d : Bool) → eqb was stage1 && eqb far occupied ≡ false → far_stage far false was ≡ far_stage far d was
unfolding far_stage ◌and◌ when◌then◌else◌
far_same far was d h = go (eqb was stage1) (eqb far occupied) h
  where
    go : (a b : Bool) → a && b ≡ false
        → (when a then (when b && false then stage2 else stage1) else when eqb was stage2 then (when eqb far reads_none then stage1 else stage2) else was)
        ≡ (when a then (when b && d then stage2 else stage1) else when eqb was stage2 then (when eqb far reads_none then stage1 else stage2) else was)
    go true true p = absurd (mathlib.Core.Bool.true≢false p)
    go true false p = refl
    go false b p = refl

module _ (ls : List Line) (directions sections : List ℕ) (before after : Signal → Bool) (k w was : ℕ) (e : w ≡ direction directions (k / most_blocks)) where
  -- the line is neutral
  pub far_neutral : w ≡ neutral → was ≡ far_stage_at ls directions sections before after k was
  unfolding far_stage_at far_moved
  far_neutral h = if_eq _ neutral _ _ was (sym e ∙ h) refl

  module _ (b : Line) (x v : ℕ) (g : b ≡ line ls (k / most_blocks)) (h : w ≡ neutral → ⊥) (f : x ≡ reading sections (far_section b (k % most_blocks) w)) where
    -- the line is secured, so the far section and the far signal decide
    pub far_asked : (y : Bool) → y ≡ drops before after (far_signal b (k / most_blocks) (k % most_blocks) w) → v ≡ far_stage x y was
        → v ≡ far_stage_at ls directions sections before after k was
    unfolding far_stage_at far_moved
    far_asked y p q = rw (← g, ← e) (if_ne w neutral _ _ v h (q ∙ ap₂ (λ (a : ℕ) (z : Bool). far_stage a z was) f p))

    -- the far signal does not matter: the block is not in stage 1, or its far section does not read occupied
    pub far_moot : eqb was stage1 && eqb x occupied ≡ false → v ≡ far_stage x false was → v ≡ far_stage_at ls directions sections before after k was
    far_moot t q = far_asked _ refl (q ∙ far_same x was _ t)

-- an open block, and one held in stage 0, stay as they are
pub far_idle : (ls : List Line) (directions sections : List ℕ) (before after : Signal → Bool) (k was : ℕ) → was < stage1
    → was ≡ far_stage_at ls directions sections before after k was
unfolding far_stage_at far_moved far_stage
far_idle ls directions sections before after k was h =
    if_both (λ x. was ≡ x) (eqb (direction directions (k / most_blocks)) neutral) (λ t. refl)
    (λ f. if_ne was stage1 _ _ was (omega arith) (if_ne was stage2 _ _ was (omega arith) refl))
