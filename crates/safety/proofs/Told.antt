-- A history that one more event was added to: what something reads then, and what is told of a block.
use Prim.Native.Nat.{ℕ, ◌≤◌}
use mathlib.Core.Path.{◌≡◌, refl, sym, ◌∙◌}
use mathlib.Core.Logic.{◌≢◌, inl, inr}
use mathlib.Core.List.{[], ◌∷◌}
use native.Mathlib.Decide.{ℕ_discrete}
use native.Mathlib.Omega.{arith}
use borrow.Author.Tests.{eq-eqb, ne_eqb}
use Rattle.layout.specs.declared.Layout.{Layout}
use Rattle.track.specs.Codes.{free, occupied, reads_none}
use Rattle.safety.specs.History.{Moment, History, Given, nothing, gave_block, reads, block_reads, Releases, Since, LeavesFree}
use Rattle.safety.specs.Cleared.{Entered, Passage, Closes, WaitsFor, CompletedBy, while_lit, with_beyond, later, Completed, Cleared, by_passage, by_hand, Opened}
use Rattle.laws.proofs.Choice.{chosen, passed_over}
use Rattle.step_facts.proofs.Entries.{block}
use Rattle.safety.proofs.Given.{gave_few}

-- ---- readings

module _ (gave : Given) (m : Moment) (h : History) where
  -- an event that gives nothing leaves what it reads
  pub reads_kept : gave m h ≡ nothing → reads gave (m ∷ h) ≡ reads gave h
  unfolding reads
  reads_kept q = chosen _ _ _ (eq-eqb _ 0 q)

  -- one that gives something gives it that reading
  pub reads_given : (v : ℕ) → gave m h ≡ v → v ≢ nothing → reads gave (m ∷ h) ≡ v
  unfolding reads
  reads_given v q d = passed_over _ _ _ (ne_eqb (gave m h) 0 (omega arith)) ∙ q

  -- one that gives it neither of the other readings leaves the one that it has
  pub reads_on : (v : ℕ) → (gave m h ≢ nothing → gave m h ≡ v) → v ≢ nothing → reads gave h ≡ v → reads gave (m ∷ h) ≡ v
  reads_on v f d r = go (ℕ_discrete (gave m h) 0)
    where
      go : Dec (gave m h ≡ 0) → reads gave (m ∷ h) ≡ v
      go (yes q) = reads_kept q ∙ r
      go (no q) = reads_given v (f q) d

  -- where it reads otherwise after the event, the event gave it what it reads
  pub reads_anew : (v : ℕ) → reads gave (m ∷ h) ≡ v → reads gave h ≢ v → gave m h ≡ v
  reads_anew v now was = go (ℕ_discrete (gave m h) 0)
    where
      go : Dec (gave m h ≡ 0) → gave m h ≡ v
      go (yes q) = absurd (was (sym (reads_kept q) ∙ now))
      go (no q) = sym (reads_given (gave m h) refl q) ∙ now

  -- an event that leaves it reading something else than v did not give it v
  pub not_given : (v : ℕ) → v ≢ nothing → reads gave (m ∷ h) ≢ v → gave m h ≢ v
  not_given v z d q = d (reads_given v q z)

  -- what does not read none, and is not given none, does not read none
  pub not_none_law : gave m h ≢ reads_none → reads gave h ≢ reads_none → reads gave (m ∷ h) ≢ reads_none
  not_none_law n d z = n (reads_anew reads_none z d)

-- a block that was entered reads occupied
pub entered_reads : (L : Layout) (l i : ℕ) (h : History) → Entered (gave_block L l i) h → block_reads L l i h ≡ occupied
unfolding Since
entered_reads L l i [] x = absurd x
entered_reads L l i (m ∷ h) (inl p) = reads_given (gave_block L l i) m h 2 p (omega arith)
entered_reads L l i (m ∷ h) (inr k) =
    reads_on (gave_block L l i) m h 2 (λ d. let few = gave_few L (block L l i) m h in let n = k.0.0 in let f = k.0.1 in omega arith) (omega arith)
    (entered_reads L l i h k.1)

-- ---- since

-- what holds of an event and was kept so, weakened
pub since_map : {Began Kept Other Still : Moment → History → Type 0} → ((m : Moment) (h : History) → Began m h → Other m h)
    → ((m : Moment) (h : History) → Kept m h → Still m h) → (h : History) → Since Began Kept h → Since Other Still h
unfolding Since
since_map f g [] x = absurd x
since_map f g (m ∷ h) (inl x) = inl (f m h x)
since_map f g (m ∷ h) (inr x) = inr (g m h x.0, since_map f g h x.1)

-- ---- a block that reads free since

-- what was left free by an event, and by each since, reads free
free_since : {Began Kept : Moment → History → Type 0} (gave : Given) → ((m : Moment) (h : History) → Began m h → LeavesFree gave m h)
    → ((m : Moment) (h : History) → Kept m h → LeavesFree gave m h) → (h : History) → Since Began Kept h → reads gave h ≡ free
unfolding Since
free_since gave began kept [] x = absurd x
free_since gave began kept (m ∷ h) (inl x) = began m h x
free_since gave began kept (m ∷ h) (inr x) = kept m h x.0

module _ (L : Layout) (l i w : ℕ) (Beyond : Moment → History → Type 0) where
  -- so does a block that waits (L3)
  pub waits_free : (h : History) → WaitsFor L l i w Beyond h → block_reads L l i h ≡ free
  waits_free h x = free_since (gave_block L l i) (λ m h y. y.0.ends.1) (λ m h y. y.0) h x

  -- and one whose passage the last event completed
  pub completed_free : (m : Moment) (h : History) → CompletedBy L l i w Beyond m h → LeavesFree (gave_block L l i) m h
  completed_free m h (while_lit c s) = c.ends.1
  completed_free m h (with_beyond c b) = c.ends.1
  completed_free m h (later x f b) = f

-- so a block that was cleared reads free
pub cleared_free : (L : Layout) (l i : ℕ) (h : History) → Cleared L l i h → block_reads L l i h ≡ free
cleared_free L l i h (by_passage w p) = free_since (gave_block L l i) (completed_free L l i w _) (λ m h x. x) h p
cleared_free L l i h (by_hand r) = free_since (gave_block L l i) (λ m h x. x.1) (λ m h x. x) h r

module _ (L : Layout) (l i : ℕ) (m : Moment) (h : History) where
  -- one that reads free, and is given neither none nor occupied, is left free
  pub left_free : gave_block L l i m h ≢ reads_none → gave_block L l i m h ≢ occupied → block_reads L l i h ≡ free → LeavesFree (gave_block L l i) m h
  left_free n o f = reads_on (gave_block L l i) m h 1 (λ d. let few = gave_few L (block L l i) m h in omega arith) (omega arith) f

  -- one that is left free was given neither
  pub free_given : LeavesFree (gave_block L l i) m h → gave_block L l i m h ≤ 1
  free_given f =
      let few = gave_few L (block L l i) m h in
      let o = not_given (gave_block L l i) m h 2 (omega arith) (omega arith) in
      let n = not_given (gave_block L l i) m h 3 (omega arith) (omega arith) in
      omega arith

  -- a free reading closes a passage that waits for it: the block was entered, so it read occupied
  pub closing : (w : ℕ) → gave_block L l i m h ≡ free → Entered (gave_block L l i) h → Passage L l i w h → Closes L l i w m h
  closing w q x p = record { ends = (let r = entered_reads L l i h x in omega arith, reads_given (gave_block L l i) m h 1 q (omega arith)); passage = p }

  -- ---- an open block: it reads free, and was cleared

  -- by one more event that leaves it free
  pub opened_on : gave_block L l i m h ≢ reads_none → gave_block L l i m h ≢ occupied → Opened L l i h → Opened L l i (m ∷ h)
  unfolding Since
  opened_on n o c = record { is_free = now; cleared = go c.cleared }
    where
      now : block_reads L l i (m ∷ h) ≡ 1
      now = left_free n o c.is_free

      go : Cleared L l i h → Cleared L l i (m ∷ h)
      go (by_passage w p) = by_passage w (inr (now, p))
      go (by_hand r) = by_hand (inr (now, r))

  -- by a manual release of its line, that finds it free
  pub opened_by_hand : Releases l m → gave_block L l i m h ≡ nothing → block_reads L l i h ≡ free → Opened L l i (m ∷ h)
  unfolding Since
  opened_by_hand r q f =
      let now : block_reads L l i (m ∷ h) ≡ 1 = reads_kept (gave_block L l i) m h q ∙ f in
      record { is_free = now; cleared = by_hand (inl (r, now)) }

  -- by an event that completes its passage
  pub opened_by_passage : (w : ℕ) → Completed L l i w m h → Opened L l i (m ∷ h)
  unfolding Since
  opened_by_passage w x = record { is_free = completed_free L l i w _ m h x; cleared = by_passage w (inl x) }
