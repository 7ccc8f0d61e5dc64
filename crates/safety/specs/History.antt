-- A run as an outsider with a log sees it: of each event its three numbers, the number and the detail of its answer, and the bytes of the panel image after
-- it. What is told of a history looks at nothing else. What is given to a section is told from the layout and the events alone, whatever the box
-- answered: every code counts (section 1), and all that was said of its heads (L1). So is what lamps report (L3).
use Rattle.std.specs.Prelude.{ℕ, ◌≡◌, ◌≢◌, ◌⊎◌, List, [], ◌∷◌, eqb, ltb}
use Rattle.laws.specs.Choice.{when◌then◌else◌}
use Rattle.laws.specs.Tests.{◌and◌}
use Rattle.track.specs.Codes.{free, occupied, reads_none, read_section, release_line, one_second, report_lamp, lamp_stop, lamp_other, lamp_none}
use Rattle.track.specs.Blocks.{joint_reading}
use Rattle.layout.specs.declared.Layout.{Layout}
use Rattle.layout.specs.Layout.{line_in, is_fitted}
use Rattle.axles.specs.HeadLog.{HeadLog, reading_told}
use Rattle.interlocking.specs.declared.State.{State}
use Rattle.interlocking.specs.declared.Answer.{Answer}
use Rattle.interlocking.specs.State.{cold}
use Rattle.panel.specs.Panel.{image}
use Rattle.step_facts.specs.Run.{Event, box}
use Rattle.panel.specs.Shown.{Panel, panel}
use Rattle.safety.specs.Said.{said_of, saying, takes_effect}

-- ---- moments

-- one event of a run: kind, first, second; the answer's number, 0 where it was accepted, and its detail; the panel image after it
pub record Moment : Type 0 where
  pub event : Event
  pub number : ℕ
  pub detail : ℕ
  pub image : List ℕ

-- the moments of a run, newest first: m ∷ h is the history h and then the moment m, [] the cold start
abbrev pub History : Type 0
History = List Moment

-- ---- what is given (section 1)

-- what an event gives something that reads free, occupied or none: one of these, or nothing. It is a function of the moment and of what was before it
abbrev pub Given : Type 0
Given = Moment → History → ℕ

abbrev pub nothing : ℕ
nothing = 0

-- what event e gives section g by a reading of it: code 1 is free, 2 is occupied, every other code is none
unfoldable pub gave_by_reading : ℕ → Event → ℕ
gave_by_reading g e =
    when eqb e.kind read_section and eqb e.first g then (when eqb e.second 1 then free else when eqb e.second 2 then occupied else reads_none) else nothing

-- L1: what it gives section g by what it says of its heads, of which was said es before: what they then read
unfoldable pub gave_by_heads : ℕ → Event → HeadLog → ℕ
gave_by_heads g e es = when said_of g e and takes_effect e es then reading_told (saying e ∷ es) else nothing

-- L1: what was said of the heads of section g, newest first
unfoldable pub head_log : ℕ → History → HeadLog
head_log g [] = []
head_log g (m ∷ h) = when said_of g m.event then saying m.event ∷ head_log g h else head_log g h

-- what an event gives section g: by its heads where it has heads (L1), else by a reading of it; nothing where there is no such section. Every event that
-- gives something is accepted, whatever its code
unfoldable pub gave_section : Layout → ℕ → Given
gave_section L g m h =
    when ltb g L.sections then (when is_fitted L g then gave_by_heads g m.event (head_log g h) else gave_by_reading g m.event) else nothing

-- what it gives block i of line l
abbrev pub gave_block : Layout → ℕ → ℕ → Given
gave_block L l i m h = joint_reading (λ g. gave_section L g m h) (line_in L l) i

-- what it reads: what was last given; none at the cold start
unfoldable pub reads : Given → History → ℕ
reads gave [] = reads_none
reads gave (m ∷ h) = when eqb (gave m h) nothing then reads gave h else gave m h

-- so of section g, and of block i of line l
abbrev pub section_reads : Layout → ℕ → History → ℕ
section_reads L g h = reads (gave_section L g) h

abbrev pub block_reads : Layout → ℕ → ℕ → History → ℕ
block_reads L l i h = reads (gave_block L l i) h

-- ---- what lamps report (L3)

-- the latest report of the lamp of signal x, by its number (L2): code 1 is stop lit, 2 another light lit, every other code none; none at the cold start. Every
-- report of a signal that there is is accepted
unfoldable pub lamp_told : ℕ → History → ℕ
lamp_told x [] = lamp_none
lamp_told x (m ∷ h) =
    when eqb m.event.kind report_lamp and eqb m.event.first x then
    (when eqb m.event.second 1 then lamp_stop else when eqb m.event.second 2 then lamp_other else lamp_none)
    else lamp_told x h

-- ---- what showed, and what was done

-- what shows at the end of a history: after the last event, or at the cold start
unfoldable pub shown : Layout → History → Panel
shown L [] = panel L (image L cold)
shown L (m ∷ h) = panel L m.image

-- an order of kind k for object a was accepted
abbrev pub Accepted : ℕ → ℕ → Moment → Type 0
Accepted k a m = (m.number ≡ 0) × (m.event.kind ≡ k) × (m.event.first ≡ a)

-- so a manual release of line l
abbrev pub Releases : ℕ → Moment → Type 0
Releases l m = Accepted release_line l m

-- the event had these three numbers, whatever the answer: so of what is always accepted (bar and unbar of a block that there is, a second)
abbrev pub Came : ℕ → ℕ → ℕ → Moment → Type 0
Came k a b m = (m.event.kind ≡ k) × (m.event.first ≡ a) × (m.event.second ≡ b)

-- a second has passed
abbrev pub Second : Moment → Type 0
Second m = Came one_second 0 0 m

-- ---- earlier and later

-- an event was as `Began` says, and every later one was as `Kept` says, each of the event and of what was before it
unfoldable pub Since : (Moment → History → Type 0) → (Moment → History → Type 0) → History → Type 0
Since Began Kept [] = ⊥
Since Began Kept (m ∷ h) = Began m h ⊎ (Kept m h × Since Began Kept h)

-- each event of a history, with what was before it, is as P says
unfoldable pub Throughout : (Moment → History → Type 0) → History → Type 0
Throughout P [] = Unit {0}
Throughout P (m ∷ h) = P m h × Throughout P h

-- ---- spells of not reading free; the cold start counts as one

-- the event ended one
abbrev pub EndsSpell : Given → Moment → History → Type 0
EndsSpell gave m h = (reads gave h ≢ free) × (reads gave (m ∷ h) ≡ free)

-- after the event it reads free: so no spell began with it
abbrev pub LeavesFree : Given → Moment → History → Type 0
LeavesFree gave m h = reads gave (m ∷ h) ≡ free

-- ---- runs

-- the moment of an event and its answer
unfoldable pub moment : Layout → Event → Answer → Moment
moment L e a = record { event = e; number = a.number; detail = a.detail; image = image L a.next }

-- a history that goes on from state s through a list of events, each answered by the box f
unfoldable pub goes_on : Layout → (State → Event → Answer) → State → History → List Event → History
goes_on L f s h [] = h
goes_on L f s h (e ∷ es) = goes_on L f (f s e).next (moment L e (f s e) ∷ h) es

-- the history of a list of events from the cold start
unfoldable pub history : Layout → List Event → History
history L es = goes_on L (box L) cold [] es
