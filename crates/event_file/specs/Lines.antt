-- What is printed of an event (section 8), in ASCII.
use Rattle.std.specs.Prelude.{ℕ, ◌+◌, Bool, List, [], ◌∷◌, ◌++◌, length, get_or, eqb, ltb}
use Rattle.laws.specs.Choice.{when◌then◌else◌}
use Rattle.laws.specs.Tables.{join}
use Rattle.numerals.specs.Digits.{decimal_digits}
use Rattle.layout.specs.declared.Layout.{Layout}
use Rattle.interlocking.specs.declared.State.{State}
use Rattle.panel.specs.declared.Drawn.{Drawn}
use Rattle.panel.specs.Panel.{image, answer, answer_in_run}

-- a space, a line's end, and the stroke before a panel's bytes
abbrev pub space : ℕ
space = 32

abbrev pub line_end : ℕ
line_end = 10

abbrev pub stroke : ℕ
stroke = 124

-- a number of at most 20 digits, as every number below 2 ^ 64 is
unfoldable pub decimal : ℕ → List ℕ
decimal n = decimal_digits 20 n

-- two and three numbers with a space between
unfoldable pub two_numbers : ℕ → ℕ → List ℕ
two_numbers a b = decimal a ++ (space ∷ []) ++ decimal b

unfoldable pub three_numbers : ℕ → ℕ → ℕ → List ℕ
three_numbers a b c = decimal a ++ (space ∷ []) ++ two_numbers b c

-- a byte after a space, in three places at most, as every byte is
unfoldable pub after_space : ℕ → List ℕ
after_space byte = (space ∷ []) ++ decimal_digits 3 byte

-- n bytes of a panel, each after a space
unfoldable pub spaced : ℕ → List ℕ → List ℕ
spaced n bytes = join n (λ i. after_space (get_or bytes i 0))

-- ---- a line

-- the event's number: counted as far as 64 bits go, further than any file
unfoldable pub next_count : ℕ → ℕ
next_count n = when ltb n 18446744073709551615 then n + 1 else n

-- what is shown by a panel's answer: the image; nothing where the answer is not 0
unfoldable pub shown_by : Drawn → List ℕ → List ℕ
shown_by d bytes = when eqb d.number 0 then bytes else []

-- what is shown of a state: its panel image (section 7), by the panel's answer into 512 bytes; the same in a run that asked soundness before its
-- first event
unfoldable pub shown : Layout → State → List ℕ
shown L s = shown_by (answer L s 512) (image L s)

unfoldable pub shown_in_run : Layout → State → List ℕ
shown_in_run L s = shown_by (answer_in_run L s 512) (image L s)

-- the bytes that are shown, after a space and a stroke
unfoldable pub panel_text : List ℕ → List ℕ
panel_text bytes = (space ∷ stroke ∷ []) ++ spaced (length bytes) bytes

-- event number, answer and detail, and where that is asked for the panel's bytes then; the same with its line's end
unfoldable pub line_text : Bool → List ℕ → ℕ → ℕ → ℕ → List ℕ
line_text panel bytes n a d = when panel then three_numbers n a d ++ panel_text bytes else three_numbers n a d

unfoldable pub line_of : Bool → List ℕ → ℕ → ℕ → ℕ → List ℕ
line_of panel bytes n a d = line_text panel bytes n a d ++ (line_end ∷ [])

-- the most bytes of that: three numbers of 20 digits and two spaces; with a panel also a space, a stroke and 512 bytes in four places each; with the
-- line's end
unfoldable pub most_text : Bool → ℕ
most_text panel = when panel then 2112 else 62

unfoldable pub most_line : Bool → ℕ
most_line panel = most_text panel + 1
