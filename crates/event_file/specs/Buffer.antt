-- How the event program goes through an event file of any length (section 8): it reads into one buffer, runs what lies there, brings what is
-- left to the front, and reads on behind it. A read that gives nothing is the last.
use Rattle.std.specs.Prelude.{ℕ, zero, suc, ◌+◌, Bool, true, false, List, [], ◌∷◌, ◌++◌, drop, eqb, ltb}
use Rattle.laws.specs.Choice.{when◌then◌else◌}
use Rattle.layout.specs.declared.Layout.{Layout}
use Rattle.layout.specs.Records.{Loaded}
use Rattle.layout.specs.Load.{load}
use Rattle.fitted.specs.Records.{Fitting}
use Rattle.fitted.specs.Pieces.{fit_in_reads}
use Rattle.interlocking.specs.declared.State.{State}
use Rattle.interlocking.specs.declared.Answer.{Answer}
use Rattle.interlocking.specs.State.{cold}
use Rattle.step_facts.specs.Run.{Event, box_in_run}
use Rattle.event_file.specs.Lines.{shown_in_run}
use Rattle.event_file.specs.Run.{Run, piece_of}
use Rattle.event_file.specs.List.{layout_word, fitted_word, events_word, fault_in, opening_in}

-- the bytes of the buffer that lines are written into, and the most calls: more than any file uses up
abbrev pub room_for_lines : ℕ
room_for_lines = 65536

abbrev pub most_calls : ℕ
most_calls = 18446744073709551615

-- nothing more is to be read
unfoldable pub is_last : List (List ℕ) → Bool
is_last [] = true
is_last (r ∷ reads) = false

-- a run goes on with the bytes of the buffer, the reads still to come, the bytes of the file before the buffer's, the state, the count and a place
abbrev pub Onward : Type 0
Onward = List ℕ → List (List ℕ) → ℕ → State → ℕ → ℕ → List ℕ

-- with the bytes that are left, and the next read behind them
unfoldable pub read_on : Onward → List ℕ → List (List ℕ) → ℕ → Run → List ℕ
read_on on bytes [] before g = []
read_on on bytes (r ∷ reads) before g = on (drop g.at bytes ++ r) reads (before + g.at) g.state g.count 0

-- after a call, by why it stopped: in the same bytes; with more of the file; the file's end; a fault, at its place in the file
unfoldable pub go_on : ℕ → Onward → List ℕ → List (List ℕ) → ℕ → Run → List ℕ
go_on room on bytes reads before g =
    when ltb g.stop 2 then on bytes reads before g.state g.count g.at
    else when eqb g.stop 2 then read_on on bytes reads before g
    else when eqb g.stop 3 then []
    else fault_in room events_word g.stop (before + g.at)

-- the list from a place of the buffer on in so many calls at most, each with so much room
unfoldable pub list_in_calls : ℕ → (State → Event → Answer) → Bool → (State → List ℕ) → ℕ → Onward
list_in_calls zero f panel show room bytes reads before s n at = []
list_in_calls (suc calls) f panel show room bytes reads before s n at =
    let g : Run = piece_of f panel show (is_last reads) bytes room s n at in
    g.text ++ go_on room (list_in_calls calls f panel show room) bytes reads before g

-- the list on a layout, from the first read of the event file on
unfoldable pub list_on_in_calls : ℕ → ℕ → Bool → Layout → List ℕ → List (List ℕ) → List ℕ
list_on_in_calls calls room panel L first reads =
    opening_in room panel L ++ list_in_calls calls (box_in_run L) panel (shown_in_run L) room first reads 0 cold 0 0

-- L1, by the answer to a file of fitted sections
unfoldable pub printed_by_in_calls : ℕ → ℕ → Bool → Fitting → List ℕ → List (List ℕ) → List ℕ
printed_by_in_calls calls room panel r first reads =
    when eqb r.number 0 then list_on_in_calls calls room panel r.layout first reads else fault_in room fitted_word r.number r.detail

-- all that the program prints of a layout file and the reads of the other two, of each the first and those after it
unfoldable pub printed_in_calls : ℕ → ℕ → Bool → List ℕ → List ℕ → List (List ℕ) → List ℕ → List (List ℕ) → List ℕ
printed_in_calls calls room panel layout_file told tells first reads =
    let loaded : Loaded = load layout_file in
    when eqb loaded.number 0 then printed_by_in_calls calls room panel (fit_in_reads loaded.layout told tells) first reads
    else fault_in room layout_word loaded.number loaded.detail
