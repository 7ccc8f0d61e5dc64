-- Open blocks and blocks that were entered, through an accepted event: the stage says so just where the history does.
use Prim.Native.Nat.{ℕ, ◌<◌, ◌≤◌}
use mathlib.Core.Path.{◌≡◌, refl, sym, ◌∙◌}
use mathlib.Core.Logic.{◌≢◌, ◌↔◌, inl, inr}
use mathlib.Core.List.{◌∷◌}
use native.Mathlib.Omega.{arith}
use Rattle.laws.specs.Tests.{◌and◌}
use Rattle.layout.specs.declared.Layout.{Layout}
use Rattle.layout.specs.Layout.{line_in}
use Rattle.layout.specs.Sound.{sound}
use Rattle.layout_facts.specs.Plain.{Sound}
use Rattle.interlocking.specs.declared.State.{State}
use Rattle.interlocking.specs.State.{in_range}
use Rattle.interlocking.specs.Step.{refusal}
use Rattle.step_facts.specs.Run.{Event}
use Rattle.safety.specs.History.{History, gave_block, block_reads, Since}
use Rattle.safety.specs.Locked.{Locked}
use Rattle.safety.specs.Cleared.{Entered, Cleared, by_passage, by_hand, Opened}
use Rattle.step_facts.proofs.Entries.{phase, stage, block_there, block_below}
use Rattle.step_facts.proofs.Passed.{release_free}
use Rattle.step_facts.proofs.Within.{On, end}
use Rattle.safety.proofs.Given.{granted}
use Rattle.safety.proofs.GivenBlock.{own_by_hand}
use Rattle.safety.proofs.Blocks.{on, by_hand_now, stays_open, shown_stop, opens_with, waits_on, shut, entered}
use Rattle.safety.proofs.Through.{FarNow, Case, open_end, far_leaves, case_of}
use Rattle.safety.proofs.Freed.{completed_way, opens_completed}
use Rattle.safety.proofs.Told.{reads_given, entered_reads, waits_free, cleared_free, left_free, free_given, opened_on, opened_by_hand, opened_by_passage}
use Rattle.safety.proofs.Invariant.{Inv}

module _ (L : Layout) (S : Sound L) (s : State) (h : History) (I : Inv L s h) (e : Event)
    (pass : (refusal (sound L and in_range s) L s e.kind e.first e.second).number ≡ 0) (l i : ℕ) (b : l < L.lines) (c : i < (line_in L l).blocks) where
  -- what the event gives the block
  abbrev gives : ℕ
  gives = gave_block L l i (granted L s e) h

  -- a manual release of the line finds its block free
  pub hand_free : On 7 e l → block_reads L l i h ≡ 1
  hand_free (k, q) =
      sym (I.reads _ (block_there L S l i b c)) ∙ (rw q at (release_free L s e pass k i (rw q c) (rw q (block_below L S l i b c))))

  -- ---- open blocks

  -- a block that is open at the end reads free then
  pub open_free : stage (end L s e) l i ≡ 0 → block_reads L l i (granted L s e ∷ h) ≡ 1
  open_free z = go (case_of L S s h I e pass l b i c)
    where
      still : gives ≤ 1 → block_reads L l i h ≡ 1 → block_reads L l i (granted L s e ∷ h) ≡ 1
      still v f = left_free L l i (granted L s e) h (omega arith) (omega arith) f

      given : gives ≡ 1 → block_reads L l i (granted L s e ∷ h) ≡ 1
      given v = reads_given (gave_block L l i) (granted L s e) h 1 v (omega arith)

      go : Case L S s h I e pass l b i c → block_reads L l i (granted L s e ∷ h) ≡ 1
      go (by_hand_now u v x) = still (omega arith) (hand_free u)
      go (stays_open n v was x) = still v ((I.blocks l i b c).opens.0 was).is_free
      go (shown_stop n v was t x) = given v
      go (opens_with n (inl w) B x) = given w.0
      go (opens_with n (inr w) B x) = still w.0 (waits_free L l i _ _ h ((I.blocks l i b c).holds w.1).1)
      go (waits_on n w B x) = absurd (omega arith)
      go (shut n v x) = absurd (omega arith)
      go (entered n y v few far) = absurd (let k = far_leaves L S s h I e pass l b i c few far in omega arith)

  module _ (locks : (r : ℕ) → r < L.routes → (phase (end L s e) r ≢ 0 ↔ Locked L r (granted L s e ∷ h))) where
    -- a block is opened by hand where it reads free, or by an event that completes its passage; else it was open and nothing took it
    opened_then : stage (end L s e) l i ≡ 0 → Opened L l i (granted L s e ∷ h)
    opened_then z = go (case_of L S s h I e pass l b i c)
      where
        completed : ¬ On 7 e l → 3 ≤ stage s l i → Opened L l i (granted L s e ∷ h)
        completed n held = opened_by_passage L l i (granted L s e) h _ ((opens_completed L S s h I e pass locks l b n i c held).1 (omega arith, z))

        go : Case L S s h I e pass l b i c → Opened L l i (granted L s e ∷ h)
        go (by_hand_now u v x) = opened_by_hand L l i (granted L s e) h (refl, u.0, u.1) v (hand_free u)
        go (stays_open n v was x) = opened_on L l i (granted L s e) h (omega arith) (omega arith) ((I.blocks l i b c).opens.0 was)
        go (shown_stop n v was t x) = completed n (omega arith)
        go (opens_with n (inl w) B x) = completed n (omega (arith, w.1))
        go (opens_with n (inr w) B x) = completed n (omega (arith, w.1))
        go (waits_on n w B x) = absurd (omega arith)
        go (shut n v x) = absurd (omega arith)
        go (entered n y v few far) = absurd (let k = far_leaves L S s h I e pass l b i c few far in omega arith)

    -- an open block that reads free then stays open
    stays : stage s l i ≡ 0 → block_reads L l i (granted L s e ∷ h) ≡ 1 → stage (end L s e) l i ≡ 0
    stays was now = go (case_of L S s h I e pass l b i c)
      where
        few_given : gives ≤ 1
        few_given = free_given L l i (granted L s e) h now

        go : Case L S s h I e pass l b i c → stage (end L s e) l i ≡ 0
        go (by_hand_now u v x) = x
        go (stays_open n v w x) = x
        go (shown_stop n v w t x) = x
        go (opens_with n w B x) = x
        go (waits_on n (inl w) B x) = absurd (omega (arith, w.1))
        go (waits_on n (inr w) B x) = absurd (omega (arith, w.1))
        go (shut n (inl v) x) = absurd (omega (arith, few_given))
        go (shut n (inr (inl v)) x) = absurd (v.1 was)
        go (shut n (inr (inr v)) x) = absurd (omega (arith, v.1))
        go (entered n y (inl v) few far) = absurd (omega (arith, few_given, v.0))
        go (entered n y (inr v) few far) = absurd (omega (arith, few, v.2))

    -- a block that reads free and was cleared is open: by the event that completed its passage, by hand, or it was open and nothing took it
    opens_then : Opened L l i (granted L s e ∷ h) → stage (end L s e) l i ≡ 0
    unfolding Since
    opens_then O = go (on 7 e l) O.cleared
      where
        -- it was open, if it was cleared before
        was_open : Cleared L l i h → stage (end L s e) l i ≡ 0
        was_open x = stays ((I.blocks l i b c).opens.1 (record { is_free = cleared_free L l i h x; cleared = x })) O.is_free

        go : Dec (On 7 e l) → Cleared L l i (granted L s e ∷ h) → stage (end L s e) l i ≡ 0
        go (yes u) x = open_end L S s h I e pass l b i c (own_by_hand L S s e h I.heads pass l i b c u)
        go (no n) (by_passage w (inl p)) =
            let (held, way) = completed_way L S s h I e pass locks l b n i c w p in
            ((opens_completed L S s h I e pass locks l b n i c held).0 (rw way p)).1
        go (no n) (by_passage w (inr p)) = was_open (by_passage w p.1)
        go (no n) (by_hand (inl r)) = absurd (n (r.0.1, r.0.2))
        go (no n) (by_hand (inr r)) = was_open (by_hand r.1)

    -- so it is open just where it reads free and was cleared
    pub opens_told : stage (end L s e) l i ≡ 0 ↔ Opened L l i (granted L s e ∷ h)
    opens_told = (opened_then, opens_then)

  -- ---- blocks that were entered

  -- a block in stage 1 or 2 was given occupied by this event, or by one before, and since then neither none nor free
  entered_then : (2 ≤ stage (end L s e) l i) × (stage (end L s e) l i ≤ 3) → Entered (gave_block L l i) (granted L s e ∷ h)
  unfolding Since
  entered_then z = go (case_of L S s h I e pass l b i c)
    where
      go : Case L S s h I e pass l b i c → Entered (gave_block L l i) (granted L s e ∷ h)
      go (by_hand_now u v x) = absurd (omega arith)
      go (stays_open n v was x) = absurd (omega arith)
      go (shown_stop n v was t x) = absurd (omega arith)
      go (opens_with n w B x) = absurd (omega arith)
      go (waits_on n w B x) = absurd (omega arith)
      go (shut n v x) = absurd (omega arith)
      go (entered n y (inl v) few far) = inl v.0
      go (entered n y (inr v) few far) = inr ((v.1, v.0), (I.blocks l i b c).enters.0 (omega (arith, v.2)))

  -- one that was entered, and is given neither none nor free, is moved by its far section alone
  pub entered_moves : Entered (gave_block L l i) h → gives ≢ 3 → gives ≢ 1
      → (¬ On 7 e l) × FarNow L S s h I e pass l b i c (stage s l i) (stage (end L s e) l i)
  entered_moves x n f = go (case_of L S s h I e pass l b i c)
    where
      was : (2 ≤ stage s l i) × (stage s l i ≤ 3)
      was = (I.blocks l i b c).enters.1 x

      apart : stage s l i ≢ 2 → stage s l i ≢ 3 → ⊥
      apart p q = omega (arith, was)

      go : Case L S s h I e pass l b i c → (¬ On 7 e l) × FarNow L S s h I e pass l b i c (stage s l i) (stage (end L s e) l i)
      go (by_hand_now u v q) = let r = hand_free u in absurd (omega (arith, entered_reads L l i h x))
      go (stays_open m v w q) = absurd (omega (arith, was))
      go (shown_stop m v w t q) = absurd (f v)
      go (opens_with m (inl w) B q) = absurd (f w.0)
      go (opens_with m (inr w) B q) = absurd (omega (arith, was, w.1))
      go (waits_on m (inl w) B q) = absurd (f w.0)
      go (waits_on m (inr w) B q) = absurd (omega (arith, was, w.1))
      go (shut m (inl v) q) = absurd (n v)
      go (shut m (inr (inl v)) q) = absurd (f v.0)
      go (shut m (inr (inr v)) q) = absurd (omega (arith, was, v.1))
      go (entered m y (inl v) few far) = absurd (apart v.2 v.3)
      go (entered m y (inr v) few far) = (m, rw (← v.2) far)

  -- one that was entered is in stage 1 or 2: this event took it, or one before did, and it was not given none or free since
  enters_then : Entered (gave_block L l i) (granted L s e ∷ h) → (2 ≤ stage (end L s e) l i) × (stage (end L s e) l i ≤ 3)
  unfolding Since
  enters_then (inl q) = go (case_of L S s h I e pass l b i c)
    where
      go : Case L S s h I e pass l b i c → (2 ≤ stage (end L s e) l i) × (stage (end L s e) l i ≤ 3)
      go (by_hand_now u v x) = absurd (omega arith)
      go (stays_open n v was x) = absurd (omega arith)
      go (shown_stop n v was t x) = absurd (omega arith)
      go (opens_with n (inl w) B x) = absurd (omega (arith, w.0))
      go (opens_with n (inr w) B x) = absurd (omega (arith, w.0))
      go (waits_on n (inl w) B x) = absurd (omega (arith, w.0))
      go (waits_on n (inr w) B x) = absurd (omega (arith, w.0))
      go (shut n (inl v) x) = absurd (omega arith)
      go (shut n (inr (inl v)) x) = absurd (omega (arith, v.0))
      go (shut n (inr (inr v)) x) = absurd (omega (arith, v.0))
      go (entered n y v few far) = far_leaves L S s h I e pass l b i c few far
  enters_then (inr x) = far_leaves L S s h I e pass l b i c ((I.blocks l i b c).enters.1 x.1) (entered_moves x.1 x.0.0 x.0.1).1

  -- so it is in stage 1 or 2 just where it was entered
  pub enters_told : (2 ≤ stage (end L s e) l i) × (stage (end L s e) l i ≤ 3) ↔ Entered (gave_block L l i) (granted L s e ∷ h)
  enters_told = (entered_then, enters_then)
