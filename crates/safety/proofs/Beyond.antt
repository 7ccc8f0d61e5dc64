-- What lies beyond a block of a line, by cases.
use Prim.Native.Nat.{ℕ, ◌+◌, ◌-◌, ◌<◌, ◌≤◌}
use mathlib.Core.Path.{◌≡◌}
use mathlib.Core.Logic.{◌≢◌}
use native.Mathlib.Omega.{arith}
use borrow.Author.Tests.{eqb-true, eqb-false, ltb-true}
use lib.Dec.{eqb, ltb}
use Rattle.track.specs.Codes.{end_a, end_b, a_to_b}
use Rattle.track.specs.Blocks.{facing}
use Rattle.passage.specs.declared.Beyond.{Beyond}
use Rattle.passage.specs.declared.Beyond.TheVariants.{Block, Station}
use Rattle.passage.specs.Passage.{beyond, section_at}
use Rattle.passage.specs.Passage as passage
use Rattle.layout.specs.declared.Layout.{Layout}
use Rattle.layout.specs.Layout.{line_in}
use Rattle.layout_facts.specs.Plain.{inner_section, Sound}
use Rattle.safety.specs.Cleared.{far_section}
use Rattle.laws.proofs.Choice.{Is, holds, fails, which, chosen, passed_over}
use Rattle.step_facts.proofs.Entries.{block_there}

-- another block of the line, with a signal between; or an end of the line
pub data BeyondCase (L : Layout) (l i w : ℕ) : Beyond → Type 0 where
  a_block : (j : ℕ) → j < (line_in L l).blocks → i ≢ j → (w ≡ a_to_b → 0 < j) → (w ≢ a_to_b → j + 1 < (line_in L l).blocks) → BeyondCase L l i w (Block j)
  a_station : (e : ℕ) → e ≤ end_b → BeyondCase L l i w (Station e)

-- by the direction, and by whether the block is the last in it
pub beyond_case : (L : Layout) (l i w : ℕ) → i < (line_in L l).blocks → BeyondCase L l i w (beyond (line_in L l) i w)
unfolding beyond
beyond_case L l i w h = go (which (eqb w a_to_b)) (which (ltb (i + 1) (line_in L l).blocks)) (which (eqb i 0))
  where
    go : Is (eqb w a_to_b) → Is (ltb (i + 1) (line_in L l).blocks) → Is (eqb i 0) → BeyondCase L l i w (beyond (line_in L l) i w)
    go (holds a) (holds b) c =
        let z = ltb-true _ _ b in
        rw (chosen _ _ _ a, chosen _ _ _ b) (a_block (i + 1) z (omega arith) (λ q. omega arith) (λ q. absurd (q (eqb-true _ _ a))))
    go (holds a) (fails b) c = rw (chosen _ _ _ a, passed_over _ _ _ b) (a_station end_b (omega arith))
    go (fails a) b (holds c) = rw (passed_over _ _ _ a, chosen _ _ _ c) (a_station end_a (omega arith))
    go (fails a) b (fails c) =
        let z = eqb-false i 0 c in
        rw (passed_over _ _ _ a, passed_over _ _ _ c) (a_block (i - 1) (omega arith) (omega arith) (λ q. absurd (eqb-false w a_to_b a q)) (λ q. omega arith))

-- the far section is a section of the layout
pub far_there : (L : Layout) → Sound L → (l i w : ℕ) → l < L.lines → i < (line_in L l).blocks → far_section L l i w < L.sections
unfolding passage.far_section section_at facing inner_section
far_there L S l i w b c = go _ (beyond_case L l i w c)
  where
    go : (x : Beyond) → BeyondCase L l i w x → section_at (line_in L l) w x < L.sections
    go x (a_block j h d up down) = block_there L S l j b h
    go x (a_station e h) = (S.ranges.lines l b).inners e h
