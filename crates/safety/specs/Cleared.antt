-- A block proved empty, told from the history (section 5, L3 and demand 3): it was entered, left by a passage that was completed, and reads free; or it was
-- released by hand.
--
-- Read as `Demand3` says.
use Rattle.std.specs.Prelude.{ℕ, zero, suc, ◌<◌, ◌≡◌, ◌≢◌, ◌∷◌}
use Rattle.track.specs.Codes.{free, occupied, reads_none, neutral, entrance_route, lamp_stop}
use Rattle.track.specs.Signal.{Signal}
use Rattle.track.specs.SignalNumbers.{number_of}
use Rattle.signals.specs.Aspects.{stop}
use Rattle.passage.specs.Passage as passage
use Rattle.layout.specs.declared.Layout.{Layout}
use Rattle.layout.specs.Layout.{line_in, route_in}
use Rattle.panel.specs.Shown.{Panel}
use Rattle.safety.specs.History.{Moment, History, Given, gave_section, gave_block, section_reads, block_reads, lamp_told, shown, Releases, Since, EndsSpell, LeavesFree}
use Rattle.safety.specs.Locked.{Locked}

-- ---- far section and far signal (section 5): passage/specs/Passage says what lies beyond a block

-- the far section of block i of line l in direction w
abbrev pub far_section : Layout → ℕ → ℕ → ℕ → ℕ
far_section L l i w = passage.far_section (line_in L l) i w

-- its far signal
abbrev pub far_signal : Layout → ℕ → ℕ → ℕ → Signal
far_signal L l i w = passage.far_signal (line_in L l) l i w

-- ---- what a signal shows

-- signal x shows proceed, 21 or 22
abbrev pub Proceeds : Panel → Signal → Type 0
Proceeds p x = stop < p.signal x

-- it shows stop, 20
abbrev pub Stops : Panel → Signal → Type 0
Stops p x = p.signal x ≡ stop

-- ---- a passage, told from the history (section 5)

-- the event gave no none or free
abbrev pub Stays : Given → Moment → History → Type 0
Stays gave m h = (gave m h ≢ reads_none) × (gave m h ≢ free)

-- "an event gave the block occupied", and later ones no none or free of it
abbrev pub Entered : Given → History → Type 0
Entered gave h = Since (λ m older. gave m older ≡ occupied) (Stays gave) h

-- "a later one, with no none or free of the block between, left the far section occupied and dropped the far signal": m is that one
pub record Drops (L : Layout) (l i w : ℕ) (m : Moment) (older : History) : Type 0 where
  -- an earlier event gave the block occupied, and none since gave it a none or a free
  pub entered : Entered (gave_block L l i) older
  -- nor did this one
  pub stays : Stays (gave_block L l i) m older
  -- the line is secured in direction w
  pub secured : ((shown L (m ∷ older)).line l ≡ w) × (w ≢ neutral)
  -- it left the far section occupied
  pub taken : section_reads L (far_section L l i w) (m ∷ older) ≡ occupied
  -- the far signal showed proceed before it, and shows stop after it
  pub from_proceed : Proceeds (shown L older) (far_signal L l i w)
  pub to_stop : Stops (shown L (m ∷ older)) (far_signal L l i w)

-- "then, with no none of either section between": the passage waits for the block's next free reading
abbrev pub Passage : Layout → ℕ → ℕ → ℕ → History → Type 0
Passage L l i w h = Since (Drops L l i w) (λ m older. Stays (gave_block L l i) m older × (gave_section L (far_section L l i w) m older ≢ reads_none)) h

-- "an event gave the block free": the free reading that ended its last spell of not reading free closed a passage
pub record Closes (L : Layout) (l i w : ℕ) (m : Moment) (older : History) : Type 0 where
  pub ends : EndsSpell (gave_block L l i) m older
  pub passage : Passage L l i w older

-- ---- a stop that isn't shown (L3)

-- the latest report of the far signal's lamp was stop
abbrev pub StopLit : Layout → ℕ → ℕ → ℕ → History → Type 0
StopLit L l i w h = lamp_told (number_of L.signals L.line (far_signal L l i w)) h ≡ lamp_stop

-- "an entrance route of the arrival end was released": the event m found route r locked and left it unlocked
pub record ReleasesEntrance (L : Layout) (l w : ℕ) (m : Moment) (older : History) (r : ℕ) : Type 0 where
  pub there : r < L.routes
  pub is_entrance : (route_in L r).kind ≡ entrance_route
  pub of_line : (route_in L r).line ≡ l
  pub of_end : (route_in L r).end ≡ passage.arrival w
  pub locked : Locked L r older
  pub released : ¬ Locked L r (m ∷ older)

-- a block waits, where `Beyond` says of an event that it freed what lies beyond the block: a free reading closed its passage, the far lamp's latest report not
-- being stop, and since then, that event included, it has read free, nothing beyond it was freed, and its line was not released by hand
abbrev pub WaitsFor : Layout → ℕ → ℕ → ℕ → (Moment → History → Type 0) → History → Type 0
WaitsFor L l i w Beyond h =
    Since (λ m older. Closes L l i w m older × ¬ StopLit L l i w older × ¬ Beyond m older)
    (λ m older. LeavesFree (gave_block L l i) m older × ¬ Releases l m × ¬ Beyond m older) h

-- the event m completed the passage of a block: "at the closing free reading the far lamp's latest report was 1; or since then (that event included), the block
-- reading free throughout", what lies beyond it was freed
pub data CompletedBy (L : Layout) (l i w : ℕ) (Beyond : Moment → History → Type 0) (m : Moment) (older : History) : Type 0 where
  while_lit : Closes L l i w m older → StopLit L l i w older → CompletedBy L l i w Beyond m older
  with_beyond : Closes L l i w m older → Beyond m older → CompletedBy L l i w Beyond m older
  later : WaitsFor L l i w Beyond older → LeavesFree (gave_block L l i) m older → Beyond m older → CompletedBy L l i w Beyond m older

-- the event m freed what lies beyond the block that is counted d from the arrival end: "the next block's own passage was completed or, for the last block,
-- an entrance route of the arrival end was released". So along the line, from the last block back
unfoldable pub FreesBeyond : Layout → ℕ → ℕ → ℕ → Moment → History → Type 0
FreesBeyond L l w zero m older = (r : ℕ) × ReleasesEntrance L l w m older r
FreesBeyond L l w (suc d) m older = CompletedBy L l (passage.from_arrival (line_in L l) w d) w (FreesBeyond L l w d) m older

-- so of block i of line l in direction w: it waits in stage 3
abbrev pub Waits : Layout → ℕ → ℕ → ℕ → History → Type 0
Waits L l i w h = WaitsFor L l i w (FreesBeyond L l w (passage.from_arrival (line_in L l) w i)) h

-- its passage was completed by the event m
abbrev pub Completed : Layout → ℕ → ℕ → ℕ → Moment → History → Type 0
Completed L l i w m older = CompletedBy L l i w (FreesBeyond L l w (passage.from_arrival (line_in L l) w i)) m older

-- ---- cleared

-- its passage was completed, or a manual release of its line was accepted while it read free, and it has read free since
pub data Cleared (L : Layout) (l i : ℕ) (h : History) : Type 0 where
  by_passage : (w : ℕ) → Since (Completed L l i w) (LeavesFree (gave_block L l i)) h → Cleared L l i h
  by_hand : Since (λ m older. Releases l m × LeavesFree (gave_block L l i) m older) (LeavesFree (gave_block L l i)) h → Cleared L l i h

-- so block i of line l is to be open
pub record Opened (L : Layout) (l i : ℕ) (h : History) : Type 0 where
  pub is_free : block_reads L l i h ≡ free
  pub cleared : Cleared L l i h
