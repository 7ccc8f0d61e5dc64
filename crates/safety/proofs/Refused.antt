-- A refused event gives nothing and changes nothing: what is told of sections and blocks stays.
use Prim.Native.Nat.{ℕ, zero, suc, ◌<◌, ◌≤◌}
use mathlib.Core.Path.{◌≡◌, sym, ◌∙◌}
use mathlib.Core.Logic.{◌≢◌, inl, inr}
use mathlib.Core.List.{◌∷◌}
use native.Mathlib.Omega.{arith}
use Rattle.tables.specs.Readings as readings
use Rattle.layout.specs.declared.Layout.{Layout}
use Rattle.layout.specs.Layout.{line_in}
use Rattle.interlocking.specs.declared.State.{State}
use Rattle.panel.specs.Panel.{image}
use Rattle.panel.specs.Shown.{panel}
use Rattle.safety.specs.History.{Moment, History, gave_section, gave_block, section_reads, shown, Since}
use Rattle.safety.specs.Locked.{Locked}
use Rattle.safety.specs.Cleared.{far_section, far_signal, Proceeds, Stops, Entered, Passage, CompletedBy, while_lit, with_beyond, later, FreesBeyond, Waits, Completed, Cleared, by_passage, by_hand, Opened}
use Rattle.step_facts.proofs.Entries.{direction, stage}
use Rattle.safety.proofs.Told.{reads_kept, waits_free, left_free, cleared_free, opened_on}
use Rattle.safety.proofs.Invariant.{BlockTold, Inv}

-- an event that gives nothing closes no passage, so it completes none unless it frees what lies beyond
by_quiet : {L : Layout} {l i w : ℕ} {Beyond : Moment → History → Type 0} {m : Moment} {h : History} → ((g : ℕ) → gave_section L g m h ≡ 0)
    → CompletedBy L l i w Beyond m h → ¬ Beyond m h → ⊥
by_quiet {L} {l} {i} {m = m} {h = h} quiet (while_lit C t) n = C.ends.0 (sym (reads_kept (gave_block L l i) m h (quiet _)) ∙ C.ends.1)
by_quiet quiet (with_beyond C B) n = n B
by_quiet quiet (later W f B) n = n B

module _ (L : Layout) (h : History) (m : Moment) (quiet : (g : ℕ) → gave_section L g m h ≡ 0) (still : (r : ℕ) → r < L.routes → Locked L r h → Locked L r (m ∷ h)) where
  -- it completes no passage: no block is given free, and no route is released
  quiet_frees : (l w d : ℕ) → ¬ FreesBeyond L l w d m h
  unfolding FreesBeyond
  quiet_frees l w zero (r, R) = R.released (still r R.there R.locked)
  quiet_frees l w (suc d) x = by_quiet quiet x (quiet_frees l w d)

  -- so none of any block
  pub quiet_completes : (l i w : ℕ) → ¬ Completed L l i w m h
  quiet_completes l i w x = by_quiet quiet x (quiet_frees l w _)

module _ (L : Layout) (s : State) (h : History) (m : Moment) (I : Inv L s h) (quiet : (g : ℕ) → gave_section L g m h ≡ 0)
    (same : m.image ≡ image L s) (no_answer : m.number ≢ 0) where
  -- what sections read
  pub reads_refused : (g : ℕ) → g < L.sections → readings.reading s.section g ≡ section_reads L g (m ∷ h)
  reads_refused g b = I.reads g b ∙ sym (reads_kept (gave_section L g) m h (quiet g))

  -- a block: no signal drops, no release by hand was accepted, and no route was released
  pub block_refused : ((r : ℕ) → r < L.routes → Locked L r h → Locked L r (m ∷ h)) → (l i : ℕ) → l < L.lines → i < (line_in L l).blocks → BlockTold L s (m ∷ h) l i
  unfolding Since shown
  block_refused locks l i b c = record {
    opens = (λ z. opened_on L l i m h (λ q. omega (arith, still)) (λ q. omega (arith, still)) ((I.blocks l i b c).opens.0 z), opens);
    enters = (λ z. inr (stays, (I.blocks l i b c).enters.0 z), enters);
    passes = λ z. let p = (I.blocks l i b c).passes z in (p.0, inr ((stays, λ q. omega (arith, quiet (far_section L l i (direction s l)))), p.1));
    waits = waits;
    holds = λ z.
        let x = (I.blocks l i b c).holds z in
        (x.0, inr ((left_free L l i m h (λ q. omega (arith, still)) (λ q. omega (arith, still)) (waits_free L l i _ _ h x.1), (λ u. no_answer u.0), quiet_frees L h m quiet locks l _ _), x.1));
    held = held;
  }
    where
      still : gave_block L l i m h ≡ 0
      still = quiet _

      stays : (gave_block L l i m h ≢ 3) × (gave_block L l i m h ≢ 1)
      stays = (λ q. omega (arith, still), λ q. omega (arith, still))

      was_cleared : Cleared L l i (m ∷ h) → Cleared L l i h
      was_cleared (by_passage w (inl p)) = absurd (quiet_completes L h m quiet locks l i w p)
      was_cleared (by_passage w (inr p)) = by_passage w p.1
      was_cleared (by_hand (inl r)) = absurd (no_answer r.0.0)
      was_cleared (by_hand (inr r)) = by_hand r.1

      opens : Opened L l i (m ∷ h) → stage s l i ≡ 0
      opens O = let x = was_cleared O.cleared in (I.blocks l i b c).opens.1 (record { is_free = cleared_free L l i h x; cleared = x })

      enters : Entered (gave_block L l i) (m ∷ h) → (2 ≤ stage s l i) × (stage s l i ≤ 3)
      enters (inl q) = absurd (omega (arith, still))
      enters (inr x) = (I.blocks l i b c).enters.1 x.1

      waits : (w : ℕ) → Passage L l i w (m ∷ h) → (stage s l i ≡ 3) × (direction s l ≡ w)
      waits w (inl d) =
          let up : Proceeds (panel L (image L s)) (far_signal L l i w) = rw I.seen at d.from_proceed in
          let down : Stops (panel L (image L s)) (far_signal L l i w) = rw same at d.to_stop in
          absurd (omega arith)
      waits w (inr p) = (I.blocks l i b c).waits w p.1

      held : (w : ℕ) → Waits L l i w (m ∷ h) → (stage s l i ≡ 4) × (direction s l ≡ w)
      held w (inl (C, dark, none)) = absurd (C.ends.0 (sym (reads_kept (gave_block L l i) m h still) ∙ C.ends.1))
      held w (inr (k, W)) = (I.blocks l i b c).held w W
