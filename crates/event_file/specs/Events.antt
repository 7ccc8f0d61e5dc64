-- The events of an event file (sections 3 and 8), what ends the list that is printed of it, and the lines between.
use Rattle.std.specs.Prelude.{ℕ, zero, suc, ◌≤◌, Bool, length}
use mathlib.Core.List.{List, [], ◌∷◌, ◌++◌, flat_map}
use Rattle.numbers.specs.Number.{largest}
use Rattle.numbers.specs.Form.{encode}
use Rattle.interlocking.specs.declared.State.{State}
use Rattle.interlocking.specs.declared.Answer.{Answer}
use Rattle.step_facts.specs.Run.{Event, event}
use Rattle.event_file.specs.Next.{Next}
use Rattle.event_file.specs.Next.{Taken, Bad, Nothing}
use Rattle.event_file.specs.Read.{event_at}
use Rattle.event_file.specs.Lines.{line_of}
use Rattle.event_file.specs.List.{events_word, fault_line}

-- ---- the events

-- by what stands at a place: an event and those that follow it; none where there is a fault, or the file's end
unfoldable pub events_next : (ℕ → List Event) → Next → List Event
events_next rest (Taken kind first second next) = event kind first second ∷ rest next
events_next rest (Bad number place) = []
events_next rest Nothing = []

-- the whole events from a place of the file on, so many at most
unfoldable pub events_from : ℕ → List ℕ → ℕ → List Event
events_from zero file at = []
events_from (suc most) file at = events_next (events_from most file) (event_at file at)

-- section 8, the whole events of a file, in order; it has no more of them than bytes
unfoldable pub events_of : List ℕ → List Event
events_of file = events_from (length file) file 0

-- ---- what ends the list

-- by what stands at a place: what lies behind an event tells; where there is a fault, or the file's end, it is the place itself
unfoldable pub behind_next : ℕ → (ℕ → ℕ) → Next → ℕ
behind_next at rest (Taken kind first second next) = rest next
behind_next at rest (Bad number place) = at
behind_next at rest Nothing = at

-- the place behind the whole events from a place of the file on, so many at most
unfoldable pub behind_from : ℕ → List ℕ → ℕ → ℕ
behind_from zero file at = at
behind_from (suc most) file at = behind_next at (behind_from most file) (event_at file at)

-- the place behind the whole events of a file
unfoldable pub behind_events : List ℕ → ℕ
behind_events file = behind_from (length file) file 0

-- section 8, by what stands there: the line `events`, 21 or 22, and the offset; nothing at the file's end
unfoldable pub ending_by : Next → List ℕ
ending_by (Taken kind first second next) = []
ending_by (Bad number place) = fault_line events_word number place
ending_by Nothing = []

-- section 8, what ends the list that is printed of a file
unfoldable pub ending_of : List ℕ → List ℕ
ending_of file = ending_by (event_at file (behind_events file))

-- ---- the lines between

-- what one line tells: the event's number, the answer's number and detail, and the panel's bytes then
pub record ToldLine : Type 0 where
  pub count : ℕ
  pub number : ℕ
  pub detail : ℕ
  pub image : List ℕ

-- the lines, one after another, with the panel's bytes where that is asked for
unfoldable pub lines_of : Bool → List ToldLine → List ℕ
lines_of panel lines = flat_map (λ (t : ToldLine). line_of panel t.image t.count t.number t.detail) lines

-- what the line of an answered event tells, where show says what is shown of a state
unfoldable pub told : (State → List ℕ) → ℕ → Answer → ToldLine
told show n r = record { count = n; number = r.number; detail = r.detail; image = show r.next }

-- and so for answers one after another: each event's number follows the one before it
unfoldable pub told_of : (ℕ → ℕ) → (State → List ℕ) → ℕ → List Answer → List ToldLine
told_of follows show n [] = []
told_of follows show n (r ∷ rs) = told show (follows n) r ∷ told_of follows show (follows n) rs

-- ---- a file that is written for events

-- sections 2 and 3, the bytes of an event: its three numbers
unfoldable pub event_form : Event → List ℕ
event_form e = encode e.kind ++ encode e.first ++ encode e.second

-- the bytes of one event after another
unfoldable pub written : List Event → List ℕ
written es = flat_map event_form es

-- section 2, none of an event's numbers is too large to be written
pub record Writable (e : Event) : Type 0 where
  pub kind : e.kind ≤ largest
  pub first : e.first ≤ largest
  pub second : e.second ≤ largest

-- nor of a list of events
unfoldable pub AllWritable : List Event → Type 0
AllWritable [] = Unit {0}
AllWritable (e ∷ es) = Writable e × AllWritable es
