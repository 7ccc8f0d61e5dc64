-- The words of the statement mean what they say: what `Since` cuts a history into, and what a passage that cleared a block says of its last spell.
use Prim.Native.Nat.{ℕ}
use mathlib.Core.Path.{◌≡◌, refl, sym, ap, subst}
use mathlib.Core.Logic.{◌≢◌, ◌⊎◌, ◌↔◌, inl, inr}
use mathlib.Core.List.{[], ◌∷◌, ◌++◌}
use Rattle.track.specs.Codes.{free}
use Rattle.layout.specs.declared.Layout.{Layout}
use Rattle.safety.specs.History.{Moment, History, gave_block, block_reads, Since, LeavesFree}
use Rattle.safety.specs.Cleared.{Passage, Closes, StopLit, WaitsFor, CompletedBy, FreesBeyond, Completed}
use Rattle.safety.specs.Cleared as cleared
use Rattle.passage.specs.Passage.{from_arrival}
use Rattle.safety.proofs.Told.{since_map}
use Rattle.layout.specs.Layout.{line_in}

-- each of the later events, with what was before it down to the oldest, is as Kept says
abbrev pub EachLater : (Moment → History → Type 0) → History → History → Type 0
EachLater Kept [] older = Unit {0}
EachLater Kept (m ∷ later) older = Kept m (later ++ older) × EachLater Kept later older

-- a history cut at an event that was as Began says, with every later one as Kept says
pub record Cut (Began Kept : Moment → History → Type 0) (h : History) : Type 0 where
  pub later : History
  pub event : Moment
  pub older : History
  pub parts : h ≡ later ++ (event ∷ older)
  pub began : Began event older
  pub kept : EachLater Kept later (event ∷ older)

module _ (Began Kept : Moment → History → Type 0) where
  -- the event is the last one, or it is one of the history before
  to_cut : (h : History) → Since Began Kept h → Cut Began Kept h
  unfolding Since
  to_cut [] x = absurd x
  to_cut (m ∷ h) (inl b) = record { later = []; event = m; older = h; parts = refl; began = b; kept = tt }
  to_cut (m ∷ h) (inr (k, x)) =
      let c = to_cut h x in
      record {
        later = m ∷ c.later;
        event = c.event;
        older = c.older;
        parts = ap (λ (t : History). m ∷ t) c.parts;
        began = c.began;
        kept = (subst (Kept m) c.parts k, c.kept);
      }

  -- from the event on, later event by later event
  from_parts : (later : History) (m : Moment) (older : History) → Began m older → EachLater Kept later (m ∷ older) → Since Began Kept (later ++ (m ∷ older))
  unfolding Since
  from_parts [] m older b k = inl b
  from_parts (n ∷ later) m older b (k, ks) = inr (k, from_parts later m older b ks)

  -- so `Since` is said of just the histories that can be cut so
  pub since_words : (h : History) → Since Began Kept h ↔ Cut Began Kept h
  since_words h = (to_cut h, λ c. subst (Since Began Kept) (sym c.parts) (from_parts c.later c.event c.older c.began c.kept))

-- the end of a block's last spell of not reading free: the block did not read free before the event, and reads free after it and ever since; and what the
-- event found was a passage
pub record LastSpell (L : Layout) (l i w : ℕ) (h : History) : Type 0 where
  pub later : History
  pub event : Moment
  pub older : History
  pub parts : h ≡ later ++ (event ∷ older)
  pub not_free : block_reads L l i older ≢ free
  pub freed : block_reads L l i (event ∷ older) ≡ free
  pub free_since : EachLater (LeavesFree (gave_block L l i)) later (event ∷ older)
  pub passage : Passage L l i w older

module _ (L : Layout) (l i w : ℕ) where
  -- it closed a passage, and has read free since
  abbrev Closed : History → Type 0
  Closed h = Since (Closes L l i w) (LeavesFree (gave_block L l i)) h

  -- such is the end of the last spell of a block whose passage was closed
  closed_words : (h : History) → Closed h → LastSpell L l i w h
  closed_words h x =
      let c = (since_words (Closes L l i w) (LeavesFree (gave_block L l i)) h).0 x in
      record {
        later = c.later;
        event = c.event;
        older = c.older;
        parts = c.parts;
        not_free = c.began.ends.0;
        freed = c.began.ends.1;
        free_since = c.kept;
        passage = c.began.passage;
      }

  module _ (Beyond : Moment → History → Type 0) where
    -- one that waits was closed (L3)
    waits_closed : (h : History) → WaitsFor L l i w Beyond h → Closed h
    unfolding Since
    waits_closed [] x = absurd x
    waits_closed (m ∷ h) (inl x) = inl x.0
    waits_closed (m ∷ h) (inr x) = inr (x.0.0, waits_closed h x.1)

    -- "at the closing free reading the far lamp's latest report was 1; or since then (that event included), the block reading free throughout", what lies beyond
    -- was freed
    abbrev Proved : Moment → History → Type 0
    Proved m h = (Closes L l i w m h × StopLit L l i w h) ⊎ (Closed (m ∷ h) × Beyond m h)

    -- so is the passage proved that an event completes (L3)
    completed_proved : (m : Moment) (h : History) → CompletedBy L l i w Beyond m h → Proved m h
    unfolding Since
    completed_proved m h (cleared.while_lit c s) = inl (c, s)
    completed_proved m h (cleared.with_beyond c b) = inr (inl c, b)
    completed_proved m h (cleared.later x f b) = inr (inr (f, waits_closed h x), b)

  -- that what lies beyond the block was freed
  abbrev Next : Moment → History → Type 0
  Next = FreesBeyond L l w (from_arrival (line_in L l) w i)

  -- so of a block that a passage cleared: it was proved by an event since which the block has read free
  pub passage_proved : (h : History) → Since (Completed L l i w) (LeavesFree (gave_block L l i)) h → Since (Proved Next) (LeavesFree (gave_block L l i)) h
  passage_proved h x = since_map (completed_proved Next) (λ m h f. f) h x

  -- a passage that is proved was closed
  proved_closed : (Beyond : Moment → History → Type 0) (m : Moment) (h : History) → Proved Beyond m h → Closed (m ∷ h)
  unfolding Since
  proved_closed Beyond m h (inl p) = inl p.0
  proved_closed Beyond m h (inr p) = p.0

  -- so was one that cleared the block
  completed_closed : (h : History) → Since (Completed L l i w) (LeavesFree (gave_block L l i)) h → Closed h
  unfolding Since
  completed_closed [] y = absurd y
  completed_closed (m ∷ h) (inl y) = proved_closed Next m h (completed_proved Next m h y)
  completed_closed (m ∷ h) (inr y) = inr (y.0, completed_closed h y.1)

  -- and the free reading that ended its last spell closed it
  pub passage_words : (h : History) → Since (Completed L l i w) (LeavesFree (gave_block L l i)) h → LastSpell L l i w h
  passage_words h x = closed_words h (completed_closed h x)
