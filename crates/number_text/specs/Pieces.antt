-- What is done with a piece of a file, and how the code holds it.
use Rattle.std.specs.Prelude.{ℕ, ◌/◌, ◌≡◌, List, [], ltb, length, take, Result, Ok, Err}
use Rattle.laws.specs.Choice.{when◌then◌else◌}
use Rattle.numbers.specs.declared.Fault.{Fault}
use Rattle.numbers.specs.Given.{number_of, detail_of}
use Rattle.numerals.specs.Writes.{Put}
use Rattle.number_text.specs.declared.pack.Reader.{Reader}
use Rattle.number_text.specs.declared.pack.Packed.{Packed}
use Rattle.number_text.specs.declared.unpack.Unpacked.{Unpacked as UnpackedGiven}
use Rattle.number_text.specs.Text.{reader_after, packed}
use Rattle.number_text.specs.Lines.{Run}

-- the smaller of two
unfoldable pub fewer : ℕ → ℕ → ℕ
fewer a b = when ltb a b then a else b

-- as many bytes of a piece of text as a buffer surely has room for, three bytes for each: where the reading stands, how many they are, and
-- their numbers in the buffer
pub record PackedPiece (buffer : List ℕ) (s : Reader) (bytes : List ℕ) (later : List ℕ) (r : Packed) : Type 0 where
  pub read : r.read ≡ fewer (length bytes) (length buffer / 3)
  pub reader : r.reader ≡ reader_after s (take r.read bytes)
  pub text : Put buffer 0 (packed s (take r.read bytes)) (length buffer) later r.written

-- how far a file was read, with how many bytes were written in place of the text
pub record Unpacked : Type 0 where
  pub column : ℕ
  pub at : ℕ
  pub written : ℕ
  pub stop : ℕ

-- the place of the next number, or of the fault there; and the fault, 0 where there is none
abbrev pub place_of : Result ℕ Fault → ℕ
place_of (Ok at) = at
place_of (Err fault) = detail_of fault

abbrev pub stop_given : Result ℕ Fault → ℕ
stop_given (Ok at) = 0
stop_given (Err fault) = number_of fault

-- what the code gives, by its numbers
abbrev pub in_numbers : UnpackedGiven → Unpacked
in_numbers p = record { column = p.column; at = place_of p.next; written = p.written; stop = stop_given p.next }

-- how far such a record came, with nothing written yet
unfoldable pub held : Unpacked → Run
held p = record { column = p.column; at = p.at; stop = p.stop; text = [] }

-- the record r holds the run u, whose text, of no more than `most` bytes, was written into a buffer from a place on
pub record Went (buffer : List ℕ) (from most : ℕ) (later : List ℕ) (r : Unpacked) (u : Run) : Type 0 where
  pub column : r.column ≡ u.column
  pub at : r.at ≡ u.at
  pub stop : r.stop ≡ u.stop
  pub text : Put buffer from u.text most later r.written
