-- A run over an event file, a piece of the file at a time (section 8).
use Rattle.std.specs.Prelude.{ℕ, ◌-◌, ◌≡◌, Bool, not, List, [], ◌++◌, length, eqb, ltb, Option, Some, None}
use Rattle.numbers.specs.declared.Fault.{Fault}
use Rattle.numbers.specs.Given.{number_of, detail_of}
use Rattle.laws.specs.Choice.{when◌then◌else◌}
use Rattle.laws.specs.Tests.{◌and◌}
use Rattle.laws.specs.Tables.{iter}
use Rattle.interlocking.specs.declared.State.{State}
use Rattle.interlocking.specs.declared.Answer.{Answer}
use Rattle.step_facts.specs.Run.{Event}
use Rattle.event_file.specs.Next.{Next}
use Rattle.event_file.specs.Next.{Taken, Bad, Nothing}
use Rattle.event_file.specs.declared.pieces.Piece.{Piece as PieceGiven}
use Rattle.event_file.specs.declared.pieces.End.{End}
use Rattle.event_file.specs.declared.pieces.End.TheVariants.{Turned, Full, Later, AtEnd, Bad as BadGiven}
use Rattle.event_file.specs.Read.{event_at}
use Rattle.event_file.specs.Lines.{next_count, most_line}
use Rattle.event_file.specs.List.{answer_line}
use Rattle.numerals.specs.Writes.{Put}

-- how far a run came: the state, how many events there were, the place of the next one, why it stopped, and what is printed.
-- 0 it did not stop; 1 no room for another line; 2 the next event lies past the piece's end; 3 the file's end; 21, 22 a fault, at its place
pub record Run : Type 0 where
  pub state : State
  pub count : ℕ
  pub at : ℕ
  pub stop : ℕ
  pub text : List ℕ

-- nothing more is printed
unfoldable pub stopped : State → ℕ → ℕ → ℕ → Run
stopped s n at why = record { state = s; count = n; at = at; stop = why; text = [] }

-- an event is answered, and its line is printed
unfoldable pub took : Bool → (State → List ℕ) → ℕ → ℕ → Answer → Run
took panel show n next r = record { state = r.next; count = n; at = next; stop = 0; text = answer_line panel show n r }

-- what stands at the next place; where the piece is not the file's last, an event that lies past its end is not a fault
unfoldable pub next_of : (State → Event → Answer) → Bool → (State → List ℕ) → Bool → State → ℕ → ℕ → Next → Run
next_of f panel show last s n at (Taken kind first second next) =
    took panel show (next_count n) next (f s (record { kind = kind; first = first; second = second }))
next_of f panel show last s n at (Bad number place) = when eqb number 21 and not last then stopped s n at 2 else stopped s n place number
next_of f panel show last s n at Nothing = when last then stopped s n at 3 else stopped s n at 2

-- one turn, with so much room for its line
unfoldable pub turn_of : (State → Event → Answer) → Bool → (State → List ℕ) → Bool → List ℕ → ℕ → State → ℕ → ℕ → Run
turn_of f panel show last bytes room s n at =
    when ltb room (most_line panel) then stopped s n at 1 else next_of f panel show last s n at (event_at bytes at)

-- what is printed after what was printed
unfoldable pub after : Run → Run → Run
after g t = record { state = t.state; count = t.count; at = t.at; stop = t.stop; text = g.text ++ t.text }

-- a turn of a run that did not stop
unfoldable pub turn_run : (State → Event → Answer) → Bool → (State → List ℕ) → Bool → List ℕ → ℕ → Run → Run
turn_run f panel show last bytes room g =
    when eqb g.stop 0 then after g (turn_of f panel show last bytes (room - length g.text) g.state g.count g.at) else g

-- before the first turn
unfoldable pub start : State → ℕ → ℕ → Run
start s n at = record { state = s; count = n; at = at; stop = 0; text = [] }

-- the turns of one call
abbrev pub turns : ℕ
turns = 65536

-- a run over a piece of the file from a place on
unfoldable pub piece_of : (State → Event → Answer) → Bool → (State → List ℕ) → Bool → List ℕ → ℕ → State → ℕ → ℕ → Run
piece_of f panel show last bytes room s n at = iter (λ i. turn_run f panel show last bytes room) turns (start s n at)

-- ---- how the code holds it

-- how far a run came, with how many bytes were written in place of what is printed
pub record Piece : Type 0 where
  pub state : State
  pub count : ℕ
  pub at : ℕ
  pub written : ℕ
  pub stop : ℕ

-- where a run ended, and why
abbrev pub place_of : End → ℕ
place_of (Turned at) = at
place_of (Full at) = at
place_of (Later at) = at
place_of (AtEnd at) = at
place_of (BadGiven fault) = detail_of fault

abbrev pub stop_given : End → ℕ
stop_given (Turned at) = 0
stop_given (Full at) = 1
stop_given (Later at) = 2
stop_given (AtEnd at) = 3
stop_given (BadGiven fault) = number_of fault

-- what the code gives for a run, by its numbers
abbrev pub in_numbers : PieceGiven → Piece
in_numbers p = record { state = p.state; count = p.count; at = place_of p.end; written = p.written; stop = stop_given p.end }

-- what stands at a place where there is no event: a fault, or nothing
abbrev pub no_event : Option Fault → Next
no_event (Some f) = Bad (number_of f) (detail_of f)
no_event None = Nothing

-- the same run with another end
unfoldable pub halted : Piece → ℕ → ℕ → Piece
halted p at why = record { state = p.state; count = p.count; at = at; written = p.written; stop = why }

-- and with the end that what stands at the next place makes; an event makes none
unfoldable pub halted_by : Bool → Piece → Next → Piece
halted_by last p (Taken kind first second next) = p
halted_by last p (Bad number place) = when eqb number 21 and not last then halted p p.at 2 else halted p place number
halted_by last p Nothing = when last then halted p p.at 3 else halted p p.at 2

-- a run that did not stop
unfoldable pub so_far : State → ℕ → ℕ → ℕ → Piece
so_far s n at written = record { state = s; count = n; at = at; written = written; stop = 0 }

-- the record r holds the run g, whose text was written into a buffer from a place on
pub record Went (before : List ℕ) (from most : ℕ) (later : List ℕ) (r : Piece) (g : Run) : Type 0 where
  pub state : r.state ≡ g.state
  pub count : r.count ≡ g.count
  pub at : r.at ≡ g.at
  pub stop : r.stop ≡ g.stop
  pub text : Put before from g.text most later r.written
