-- A block that waits for the free reading that closes a passage, as the history tells, is in stage 2, and its line is secured that way: through an accepted
-- event.
use Prim.Native.Nat.{ℕ, ◌<◌, ◌≤◌}
use mathlib.Core.Path.{◌≡◌, sym, ap, ◌∙◌}
use mathlib.Core.Logic.{◌≢◌, inl, inr}
use mathlib.Core.Bool.{true, not}
use mathlib.Core.List.{[], ◌∷◌}
use native.Mathlib.Decide.{ℕ_discrete}
use native.Mathlib.Omega.{arith}
use borrow.Author.Tests.{eq-eqb}
use Rattle.laws.specs.Tests.{◌and◌}
use Rattle.laws.proofs.Tests.{and_both}
use Rattle.signals.specs.Signals.{block_proceeds}
use Rattle.passage.specs.declared.Beyond.{Beyond}
use Rattle.passage.specs.Passage.{beyond, signal_at, far_signal}
use Rattle.line_block.specs.FarSections.{drops}
use Rattle.layout.specs.declared.Layout.{Layout}
use Rattle.layout.specs.Layout.{line_in}
use Rattle.layout.specs.Sound.{sound}
use Rattle.layout_facts.specs.Plain.{Sound}
use Rattle.interlocking.specs.declared.State.{State}
use Rattle.interlocking.specs.State.{in_range}
use Rattle.interlocking.specs.Settle.{proceeds_in}
use Rattle.interlocking.specs.Step.{refusal}
use Rattle.panel.specs.Panel.{image}
use Rattle.step_facts.specs.Run.{Event}
use Rattle.panel.specs.Shown.{panel}
use Rattle.safety.specs.History.{History, gave_section, gave_block, section_reads, shown, Since}
use Rattle.safety.specs.Cleared.{far_section, Proceeds, Drops, Passage}
use Rattle.step_facts.specs.FarInState.{far_reading, far_proceeds, far_dropped}
use Rattle.step_facts.proofs.Entries.{direction, stage}
use Rattle.step_facts.proofs.Within.{On, done, lit, end, direction_held}
use Rattle.safety.proofs.Given.{granted}
use Rattle.step_facts.proofs.FarCases.{FarCase, keeps, proves, loses}
use Rattle.safety.proofs.Beyond.{BeyondCase, a_block, a_station}
use Rattle.panel.proofs.Image.{shows_line}
use Rattle.safety.proofs.Signals.{main_shown, into_shown}
use Rattle.safety.proofs.Told.{not_none_law}
use Rattle.safety.proofs.Through.{way_kept, FarNow}
use Rattle.safety.proofs.Invariant.{Inv}
use Rattle.safety.proofs.Held.{entered_moves, enters_told}
use Rattle.safety.proofs.Far.{there, far_reads, stop_follows}

-- ---- of the history alone

-- while a passage waits for its free reading, the far section does not read none: it read occupied, and nothing gave it none
pub passage_far : (L : Layout) (l i w : ℕ) (h : History) → Passage L l i w h → section_reads L (far_section L l i w) h ≢ 3
unfolding Since
passage_far L l i w [] p = absurd p
passage_far L l i w (m ∷ h) (inl d) = let t = d.taken in omega arith
passage_far L l i w (m ∷ h) (inr p) = not_none_law (gave_section L (far_section L l i w)) m h p.0.1 (passage_far L l i w h p.1)

-- ---- what a far signal shows tells that it is at proceed

pub far_up : (L : Layout) (s : State) (l i w : ℕ) (x : Beyond) → BeyondCase L l i w x → Proceeds (panel L (image L s)) (signal_at (line_in L l) l w x)
    → proceeds_in L s (signal_at (line_in L l) l w x) ≡ true
unfolding proceeds_in signal_at block_proceeds
far_up L s l i w x (a_block j h d up down) p = let t = into_shown L s l j w p in and_both _ _ (eq-eqb _ w t.1) t.2
far_up L s l i w x (a_station k h) p = main_shown L s _ p

-- ---- an accepted event

module _ (L : Layout) (S : Sound L) (s : State) (h : History) (I : Inv L s h) (e : Event)
    (pass : (refusal (sound L and in_range s) L s e.kind e.first e.second).number ≡ 0) (l i : ℕ) (b : l < L.lines) (c : i < (line_in L l).blocks) where
  -- what is told of it then
  abbrev Waiting : ℕ → Type 0
  Waiting w = (stage (end L s e) l i ≡ 3) × (direction (end L s e) l ≡ w)

  -- the far section reads occupied, its signal was at proceed: a block in stage 1 goes to stage 2, and one in stage 2 stays there
  pub far_proves : (w : ℕ) → w ≢ 0 → direction (done L s e) l ≡ w → (y : ℕ) → (2 ≤ y) × (y ≤ 3) → FarNow L S s h I e pass l b i c y (stage (end L s e) l i)
      → far_reading L (lit L s e) l i w ≡ 2 → far_proceeds L s l i w ≡ true → stage (end L s e) l i ≡ 3
  unfolding drops
  far_proves w d same y held far taken before = go (rw same at far)
    where
      dropped : far_dropped L s (lit L s e) l i w ≡ true
      dropped = and_both _ _ before (ap not (stop_follows L S s h I e pass l i b c w taken))

      go : FarCase L s (lit L s e) l i w y (stage (end L s e) l i) → stage (end L s e) l i ≡ 3
      go (proves x was z o p) = x
      go (loses x was f) = absurd (omega arith)
      go (keeps x f g) = at (ℕ_discrete (stage (end L s e) l i) 2)
        where
          at : Dec (stage (end L s e) l i ≡ 2) → stage (end L s e) l i ≡ 3
          at (yes z) = absurd (g z d taken dropped)
          at (no z) = omega arith

  -- the drop of a passage takes the block to stage 2, or leaves it there: the line is secured that way, the far section reads occupied, and the far
  -- signal showed proceed
  drop_proves : (w : ℕ) → Drops L l i w (granted L s e) h → Waiting w
  unfolding shown far_signal Since
  drop_proves w D = (far_proves w D.secured.1 same (stage s l i) ((I.blocks l i b c).enters.1 D.entered) moves taken before, way)
    where
      moves : FarNow L S s h I e pass l b i c (stage s l i) (stage (end L s e) l i)
      moves = (entered_moves L S s h I e pass l i b c D.entered D.stays.0 D.stays.1).1

      held : 2 ≤ stage (end L s e) l i
      held = ((enters_told L S s h I e pass l i b c).1 (inr (D.stays, D.entered))).0

      way : direction (end L s e) l ≡ w
      way = sym (shows_line L (end L s e) l b) ∙ D.secured.0

      same : direction (done L s e) l ≡ w
      same = sym (direction_held L S.ranges.line_count s e l b i c (omega (arith, held))) ∙ way

      taken : far_reading L (lit L s e) l i w ≡ 2
      taken = far_reads L S s h I e pass l i b c w ∙ D.taken

      before : far_proceeds L s l i w ≡ true
      before = far_up L s l i w (beyond (line_in L l) i w) (there L S s h I e pass l i b c w) (rw I.seen at D.from_proceed)

  -- a block in stage 2 stays there while the passage waits: it is given no none or free, and its far section reads no none
  waits_still : (w : ℕ) → Passage L l i w (granted L s e ∷ h) → Passage L l i w h → gave_block L l i (granted L s e) h ≢ 3
      → gave_block L l i (granted L s e) h ≢ 1 → Waiting w
  waits_still w now p n f = (three, direction_held L S.ranges.line_count s e l b i c (omega (arith, three)) ∙ same)
    where
      was : (stage s l i ≡ 3) × (direction s l ≡ w)
      was = (I.blocks l i b c).waits w p

      moves : (¬ On 7 e l) × FarNow L S s h I e pass l b i c (stage s l i) (stage (end L s e) l i)
      moves = entered_moves L S s h I e pass l i b c ((I.blocks l i b c).enters.0 (omega (arith, was.0))) n f

      same : direction (done L s e) l ≡ w
      same = (way_kept L S s h I e pass l b i c (omega (arith, was.0)) moves.0).1 ∙ was.1

      go : FarCase L s (lit L s e) l i w (stage s l i) (stage (end L s e) l i) → stage (end L s e) l i ≡ 3
      go (keeps x u v) = x ∙ was.0
      go (proves x u d o q) = x
      go (loses x u far) = absurd (passage_far L l i w _ now (sym (far_reads L S s h I e pass l i b c w) ∙ far))

      three : stage (end L s e) l i ≡ 3
      three = go (rw same at moves.1)

  -- a block that waits for the free reading that closes a passage is in stage 2, and its line is secured that way
  pub waits_then : (w : ℕ) → Passage L l i w (granted L s e ∷ h) → Waiting w
  unfolding Since
  waits_then w (inl d) = drop_proves w d
  waits_then w (inr p) = waits_still w (inr p) p.1 p.0.0.0 p.0.0.1
