-- What a text of numbers stands for, byte by byte: numbers in decimal, spaces, commas, and comments from `#` to the line's end.
use Rattle.std.specs.Prelude.{ℕ, ◌+◌, ◌-◌, ◌*◌, Bool, List, [], ◌∷◌, ◌++◌, eqb, ltb, leb, replicate, set}
use Rattle.laws.specs.Choice.{when◌then◌else◌}
use Rattle.laws.specs.Tests.{◌and◌, ◌or◌}
use Rattle.numbers.specs.Number.{largest}
use Rattle.numbers.specs.Form.{encode}
use Rattle.number_text.specs.declared.pack.Reader.{Reader}

-- ---- bytes

-- the end of a line, and the start of a comment
abbrev pub line_end : ℕ
line_end = 10

abbrev pub hash : ℕ
hash = 35

-- a byte that no word holds: space, tab, carriage return, line end, comma, `#`
unfoldable pub ends_word : ℕ → Bool
ends_word byte = eqb byte 32 or eqb byte 9 or eqb byte 13 or eqb byte line_end or eqb byte 44 or eqb byte hash

-- a decimal digit
unfoldable pub is_digit : ℕ → Bool
is_digit byte = leb 48 byte and leb byte 57

-- ---- where the reading stands

-- the line after a line, as far as 64 bits go
unfoldable pub next_line : ℕ → ℕ
next_line line = when ltb line 18446744073709551615 then line + 1 else line

-- nothing of a word is read. What is being read (doing): 0 between words, 1 in a number, 2 in a word that is no number, 3 in a comment; and it stopped at
-- 4 a word that is no number, 5 a number too large
unfoldable pub standing : ℕ → ℕ → Reader
standing line doing = record { line = line; doing = doing; value = 0; size = 0; word = replicate 32 0 }

-- before the first byte: line 1, between words
unfoldable pub first : Reader
first = standing 1 0

-- the number with one more digit, as far as it is not too large already
unfoldable pub next_value : ℕ → ℕ → ℕ
next_value value byte = when ltb largest value then value else value * 10 + (byte - 48)

-- how many bytes of the word are kept, to be shown
unfoldable pub next_size : ℕ → ℕ
next_size size = when ltb size 32 then size + 1 else size

-- a byte of a word: a digit after nothing or after digits, or else the word is no number
unfoldable pub in_word : Reader → ℕ → Reader
in_word s byte =
    when ltb s.doing 2 and is_digit byte then
    record { line = s.line; doing = 1; value = next_value s.value byte; size = next_size s.size; word = set s.word s.size byte }
    else record { line = s.line; doing = 2; value = s.value; size = next_size s.size; word = set s.word s.size byte }

-- the reading stops at the word that it read
unfoldable pub refused : Reader → ℕ → Reader
refused s why = record { line = s.line; doing = why; value = s.value; size = s.size; word = s.word }

-- after a byte that no word holds: the next line, a comment, or the same line
unfoldable pub after_end : ℕ → ℕ → Reader
after_end line byte = when eqb byte line_end then standing (next_line line) 0 else when eqb byte hash then standing line 3 else standing line 0

-- a byte that ends the word, if there is one: it may be no number, or too large
unfoldable pub after_word : Reader → ℕ → Reader
after_word s byte = when eqb s.doing 2 then refused s 4 else when ltb largest s.value then refused s 5 else after_end s.line byte

-- one more byte: a reading that stopped stays; a comment goes to the line's end
unfoldable pub next : Reader → ℕ → Reader
next s byte =
    when ltb 3 s.doing then s
    else when eqb s.doing 3 then (when eqb byte line_end then standing (next_line s.line) 0 else s)
    else when ends_word byte then after_word s byte
    else in_word s byte

-- the number that this byte ends, in the number form
unfoldable pub given : Reader → ℕ → List ℕ
given s byte = when eqb s.doing 1 then (when ltb largest s.value then [] else when ends_word byte then encode s.value else []) else []

-- ---- a text

-- where the reading stands after a text
unfoldable pub reader_after : Reader → List ℕ → Reader
reader_after s [] = s
reader_after s (byte ∷ bytes) = reader_after (next s byte) bytes

-- its numbers in the number form, one after another
unfoldable pub packed : Reader → List ℕ → List ℕ
packed s [] = []
packed s (byte ∷ bytes) = given s byte ++ packed (next s byte) bytes

-- a whole text, which ends as a line does: its last word is refused or not, and its numbers
unfoldable pub stops_at : List ℕ → Reader
stops_at text = reader_after first (text ++ (line_end ∷ []))

unfoldable pub packed_text : List ℕ → List ℕ
packed_text text = packed first (text ++ (line_end ∷ []))
