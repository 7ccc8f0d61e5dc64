-- Numbers of a file in the number form as text: so many in a line, with a space between.
use Rattle.std.specs.Prelude.{ℕ, ◌+◌, List, [], ◌∷◌, ◌++◌, eqb, ltb}
use Rattle.laws.specs.Choice.{when◌then◌else◌}
use Rattle.laws.specs.Tables.{iter}
use Rattle.numbers.specs.Number.{Number}
use Rattle.numbers.specs.Number.{Value, Fault}
use Rattle.numbers.specs.Number.{number_at}
use Rattle.numerals.specs.Digits.{decimal_digits}
use Rattle.number_text.specs.Text.{line_end}

-- how many numbers stand in the line after one more: none where it is full
unfoldable pub next_column : ℕ → ℕ → ℕ
next_column per column = when ltb (column + 1) per then column + 1 else 0

-- a space before a number that is not the line's first, and the line's end after its last
unfoldable pub before : ℕ → List ℕ
before column = when eqb column 0 then [] else 32 ∷ []

unfoldable pub behind : ℕ → List ℕ
behind column = when eqb column 0 then line_end ∷ [] else []

-- a number, of five digits at most as every number of the form is
unfoldable pub number_text : ℕ → ℕ → ℕ → List ℕ
number_text per column n = before column ++ decimal_digits 5 n ++ behind (next_column per column)

-- how far the file was read: numbers in the line so far, the next number's place, the fault there (0 none, 21 the file ends, 22 a bad number), and the text
pub record Run : Type 0 where
  pub column : ℕ
  pub at : ℕ
  pub stop : ℕ
  pub text : List ℕ

-- before the first number of a piece
unfoldable pub begun : ℕ → ℕ → Run
begun column at = record { column = column; at = at; stop = 0; text = [] }

-- what stands at the next place
unfoldable pub onward : ℕ → Run → Number → Run
onward per u (Value n next) = record { column = next_column per u.column; at = next; stop = 0; text = u.text ++ number_text per u.column n }
onward per u (Fault number place) = record { column = u.column; at = place; stop = number; text = u.text }

-- one turn of a run that did not stop
unfoldable pub turn_of : ℕ → List ℕ → Run → Run
turn_of per bytes u = when eqb u.stop 0 then onward per u (number_at bytes u.at) else u

-- so many numbers of a piece at most, from a place on
unfoldable pub unpacked : ℕ → ℕ → List ℕ → ℕ → ℕ → Run
unpacked most per bytes column at = iter (λ i. turn_of per bytes) most (begun column at)

-- a whole file as text: the last line is ended too
unfoldable pub ended : Run → List ℕ
ended u = when eqb u.column 0 then u.text else u.text ++ (line_end ∷ [])
