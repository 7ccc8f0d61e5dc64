-- L13: both tables on paper, a row for each minute of headway.
use Rattle.std.specs.Prelude.{ℕ, ◌+◌, ◌*◌, Bool, true, false, List, ◌++◌, get_or}
use Rattle.laws.specs.Choice.{when◌then◌else◌}
use Rattle.laws.specs.Tables.{join}
use Rattle.numerals.specs.Words.{ascii}
use Rattle.numerals.specs.Digits.{fitting}
use Rattle.block_lengths.specs.Paper.{speeds, entry, table71, table72}
use Rattle.lengths_text.specs.Places.{filled}

-- table 7.2, next to a stopping place, or table 7.1
unfoldable pub table_of : Bool → List (List ℕ)
table_of stopping = when stopping then table72 else table71

-- so many numbers side by side
unfoldable pub side_by_side : ℕ → (ℕ → ℕ) → List ℕ
side_by_side n f = join n (λ column. filled 32 7 (f column))

-- a row: the headway in minutes and in seconds, and the length for each speed
unfoldable pub row_text : Bool → ℕ → List ℕ
row_text stopping row = filled 32 4 (row + 2) ++ filled 32 5 (60 * (row + 2)) ++ side_by_side 6 (entry (table_of stopping) row) ++ ascii "\n"

-- a table with the head of its columns
unfoldable pub table_text : Bool → List ℕ
table_text stopping =
    ascii "    headway   speed in km/h\n  min     s" ++ side_by_side 6 (λ column. get_or speeds column 0) ++ ascii "\n" ++ join 9 (row_text stopping)

-- the sheet
unfoldable pub sheet : List ℕ
sheet =
    ascii "JD 550 chapter 7: greatest length in metres of two blocks one after the other\n\nTable 7.1: where there is no stopping place\n"
    ++ table_text false
    ++ ascii "\nTable 7.2: next to a stopping place and past it\n"
    ++ table_text true
    ++ ascii "\nFor trains that follow one another. One block may be half as long, as a rule;\nthe stopping distance is to be checked apart (chapter 6).\nTwo misprints are put right: table 7.1, 180 s, 90 km/h, 3030 for 3930; table\n7.2, 180 s, 100 km/h, 2900 for 2290. Between two headways the length is on the\nstraight line: lengths HEADWAY SPEED, in whole seconds and km/h.\n"

-- the most bytes of it
abbrev pub most_sheet : ℕ
most_sheet = 2048

-- the sheet in a buffer of so much room, and nothing where that may be too little
abbrev pub sheet_in : ℕ → List ℕ
sheet_in room = fitting room 0 most_sheet sheet
