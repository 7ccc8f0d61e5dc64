-- What the event program prints of a layout file, a file of fitted sections (L1) and an event file (section 8), as one list of bytes.
use Rattle.std.specs.Prelude.{ℕ, zero, suc, ◌<◌, ◌≡◌, Bool, List, [], ◌∷◌, ◌++◌, length, eqb}
use Rattle.laws.specs.Choice.{when◌then◌else◌}
use Rattle.numerals.specs.Digits.{fitting}
use Rattle.numerals.specs.Words.{ascii}
use Rattle.layout.specs.declared.Layout.{Layout}
use Rattle.layout.specs.Records.{Loaded}
use Rattle.layout.specs.Load.{load}
use Rattle.fitted.specs.Records.{Fitting}
use Rattle.fitted.specs.Numbers.{numbers_of}
use Rattle.fitted.specs.Fitted.{Among, fit}
use Rattle.interlocking.specs.declared.State.{State}
use Rattle.interlocking.specs.declared.Answer.{Answer}
use Rattle.interlocking.specs.State.{cold}
use Rattle.step_facts.specs.Run.{Event, box}
use Rattle.event_file.specs.Next.{Next}
use Rattle.event_file.specs.Next.{Taken, Bad, Nothing}
use Rattle.event_file.specs.Read.{event_at}
use Rattle.event_file.specs.Lines.{two_numbers, line_end, next_count, shown, line_of, most_line}

-- what begins the line of a layout file's answer
unfoldable pub layout_word : List ℕ
layout_word = ascii "layout "

-- what begins the line of a fault in a file of fitted sections (L1)
unfoldable pub fitted_word : List ℕ
fitted_word = ascii "fitted "

-- what begins the line of a fault in an event file
unfoldable pub events_word : List ℕ
events_word = ascii "events "

-- the header of a list without panels
unfoldable pub header : List ℕ
header = ascii "event answer detail\n"

-- a word with an answer and its detail
unfoldable pub fault_line : List ℕ → ℕ → ℕ → List ℕ
fault_line word number detail = word ++ two_numbers number detail ++ (line_end ∷ [])

-- the most bytes of that: seven, two numbers with a space between, and the end
abbrev pub most_fault : ℕ
most_fault = 49

-- the line of an answered event, where show says what is shown of a state
unfoldable pub answer_line : Bool → (State → List ℕ) → ℕ → Answer → List ℕ
answer_line panel show n r = line_of panel (show r.next) n r.number r.detail

-- what stands at a place: an event's line and what follows it; a fault ends the list, and so does the file's end
unfoldable pub list_next : (State → Event → Answer) → Bool → (State → List ℕ) → State → ℕ → (State → ℕ → List ℕ) → Next → List ℕ
list_next f panel show s n rest (Taken kind first second next) =
    answer_line panel show n (f s (record { kind = kind; first = first; second = second }))
    ++ rest (f s (record { kind = kind; first = first; second = second })).next next
list_next f panel show s n rest (Bad number at) = fault_line events_word number at
list_next f panel show s n rest Nothing = []

-- the list from a place of the file on, of so many events at most
unfoldable pub list_from : ℕ → (State → Event → Answer) → Bool → (State → List ℕ) → List ℕ → State → ℕ → ℕ → List ℕ
list_from zero f panel show file s n at = []
list_from (suc most) f panel show file s n at =
    list_next f panel show s (next_count n) (λ t next. list_from most f panel show file t (next_count n) next) (event_at file at)

-- before the first event: the header, or the cold start's line with its panel
unfoldable pub opening : Bool → Layout → List ℕ
opening panel L = when panel then line_of panel (shown L cold) 0 0 0 else header

-- a fault's line and the opening in a buffer of so much room, and nothing where that may be too little
abbrev pub fault_in : ℕ → List ℕ → ℕ → ℕ → List ℕ
fault_in room word number detail = fitting room 0 most_fault (fault_line word number detail)

abbrev pub opening_in : ℕ → Bool → Layout → List ℕ
opening_in room panel L = fitting room 0 (most_line panel) (opening panel L)

-- the list on a layout; a file has no more events than bytes, and one more place to end at
unfoldable pub list_on : Bool → Layout → List ℕ → List ℕ
list_on panel L file = opening panel L ++ list_from (suc (length file)) (box L) panel (shown L) file cold 0 0

-- L1, by the answer to a file of fitted sections: the list on the layout with them, or only the line of that file's fault
unfoldable pub printed_by : Bool → Fitting → List ℕ → List ℕ
printed_by panel r file = when eqb r.number 0 then list_on panel r.layout file else fault_line fitted_word r.number r.detail

-- all that is printed; the file of fitted sections has no bytes where none is told
unfoldable pub printed : Bool → List ℕ → List ℕ → List ℕ → List ℕ
printed panel layout_file fitted_file file =
    let loaded : Loaded = load layout_file in
    when eqb loaded.number 0 then printed_by panel (fit loaded.layout fitted_file) file
    else fault_line layout_word loaded.number loaded.detail

-- L1, a file of fitted sections is whole, and the layout has each section that it tells
pub record WellFitted (L : Layout) (fitted_file : List ℕ) : Type 0 where
  pub whole : (fit L fitted_file).number ≡ 0
  pub there : (g : ℕ) → Among (numbers_of fitted_file).list g → g < L.sections
