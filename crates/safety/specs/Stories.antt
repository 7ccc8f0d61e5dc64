-- What happened to the customer, and must not happen with this box; told from the history, on every layout in use, in every event of every run.
--
-- His old box refused the zero of a broken wire, went on with the free that it had stored, and put pressure on a set of blades under a standing wagon. An
-- input of his died and came back under a train.
--
-- Read as `Demand3` says; p is a point, g a section.
use Rattle.std.specs.Prelude.{ℕ, ◌<◌, ◌≡◌, ◌≢◌, ◌⊎◌, List, ◌∷◌}
use Rattle.track.specs.Codes.{free, neutral, throw_point, open_block}
use Rattle.track.specs.Signal.{Signal, main}
use Rattle.layout.specs.declared.Layout.{Layout}
use Rattle.layout.specs.Layout.{line_in, route_in}
use Rattle.layout_facts.specs.Plain.{InBlock, own_section, path, overlap, route_point, line_point}
use Rattle.fitted.specs.InUse.{InUse}
use Rattle.step_facts.specs.Run.{Event}
use Rattle.safety.specs.History.{Moment, History, nothing, gave_section, gave_block, section_reads, shown, Accepted, Releases, Since, Throughout, LeavesFree, history}
use Rattle.safety.specs.Locked.{Locked}
use Rattle.safety.specs.Cleared.{Proceeds, Completed}
use Rattle.safety.specs.Secured.{Secured}
use Rattle.safety.specs.Demand3.{Enters}

-- ---- blades under a wagon

-- the blades of point p may be moved: its own section reads free, no locked route lists the point, and no secured line does
pub record BladesFree (L : Layout) (p : ℕ) (h : History) : Type 0 where
  pub is_free : section_reads L (own_section L p) h ≡ free
  pub no_route : (r i : ℕ) → r < L.routes → i < (route_in L r).points → route_point L r i ≡ p → ¬ Locked L r h
  pub no_line : (l i w : ℕ) → l < L.lines → i < (line_in L l).points → line_point L l i ≡ p → w ≢ neutral → ¬ Secured L l w h

-- a throw is granted only then
abbrev pub ThrowsFree : Layout → Moment → History → Type 0
ThrowsFree L m h = (p : ℕ) → Accepted throw_point p m → BladesFree L p h

-- ---- a section that is not free

-- route r has section g in its path or its overlap
abbrev pub Lists : Layout → ℕ → ℕ → Type 0
Lists L r g = ((j : ℕ) × (j < (route_in L r).paths) × (path L r j ≡ g)) ⊎ ((j : ℕ) × (j < (route_in L r).overlaps) × (overlap L r j ≡ g))

-- an event that gives section g anything but free leaves, in that same event, no signal at proceed whose locked route lists g, and none at proceed into a
-- block that has g
pub record FallsAtOnce (L : Layout) (m : Moment) (h : History) (g : ℕ) : Type 0 where
  pub routes : (r : ℕ) → r < L.routes → Lists L r g → Locked L r (m ∷ h) → ¬ Proceeds (shown L (m ∷ h)) (main (route_in L r).entry)
  pub blocks : (x : Signal) (l i w : ℕ) → InBlock L l i g → ¬ Enters L (m ∷ h) x l i w

abbrev pub Falls : Layout → Moment → History → Type 0
Falls L m h = (g : ℕ) → gave_section L g m h ≢ nothing → gave_section L g m h ≢ free → FallsAtOnce L m h g

-- ---- a dead input

-- whatever else is given: a block that shows open was opened by a passage or by hand, and has read free since, so after the last none that it was given
abbrev pub OpenedSince : Layout → ℕ → ℕ → History → Type 0
OpenedSince L l i h =
    Since (λ m older. ((w : ℕ) × Completed L l i w m older) ⊎ (Releases l m × LeavesFree (gave_block L l i) m older)) (LeavesFree (gave_block L l i)) h

abbrev pub OpensCleared : Layout → Moment → History → Type 0
OpensCleared L m h = (l i : ℕ) → l < L.lines → i < (line_in L l).blocks → (shown L (m ∷ h)).block l i ≡ open_block → OpenedSince L l i (m ∷ h)

-- ---- all three, in every event

pub record NoStory (L : Layout) (m : Moment) (h : History) : Type 0 where
  pub throws : ThrowsFree L m h
  pub falls : Falls L m h
  pub opens : OpensCleared L m h

abbrev pub StoriesKept : Type 0
StoriesKept = (L : Layout) → InUse L → (es : List Event) → Throughout (NoStory L) (history L es)
