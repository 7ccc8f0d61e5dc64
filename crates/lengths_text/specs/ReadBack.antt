-- L13: what a planner reads off the text of a length: metres before the point, millimetres in three places behind it.
use Rattle.std.specs.Prelude.{ℕ, ◌+◌, ◌-◌, ◌*◌, ◌≡◌, true, List, [], ◌∷◌, eqb, length, Float}
use Rattle.laws.specs.Choice.{when◌then◌else◌}
use Rattle.number_text.specs.Text.{is_digit}
use Rattle.block_lengths.specs.declared.BlockLengths.{BlockLengths}
use Rattle.block_lengths.specs.Fractions.{within}
use Rattle.block_lengths.specs.Millimetres.{millimetres}
use Rattle.lengths_text.specs.Places.{metres_text}

-- the bytes before the first point, and those behind it
unfoldable pub before : List ℕ → List ℕ
before [] = []
before (byte ∷ text) = when eqb byte 46 then [] else byte ∷ before text

unfoldable pub behind : List ℕ → List ℕ
behind [] = []
behind (byte ∷ text) = when eqb byte 46 then text else behind text

-- the number so far, with a byte more: a digit behind it, or nothing where the byte is a space
unfoldable pub with_byte : ℕ → ℕ → ℕ
with_byte n byte = when is_digit byte then 10 * n + (byte - 48) else n

-- after all bytes of a text
unfoldable pub read_on : ℕ → List ℕ → ℕ
read_on n [] = n
read_on n (byte ∷ text) = read_on (with_byte n byte) text

-- metres and millimetres, as millimetres
unfoldable pub read_back : List ℕ → ℕ
read_back text = 1000 * read_on 0 (before text) + read_on 0 (behind text)

-- what is printed of a length has three places behind the point, and read back it is within half a millimetre of the float
pub record Printed (x : Float) : Type 0 where
  pub three : length (behind (metres_text (millimetres x))) ≡ 3
  pub half : within 2000 x (read_back (metres_text (millimetres x))) 1000 ≡ true

-- so are both lengths
pub record Legible (b : BlockLengths) : Type 0 where
  pub plain_printed : Printed b.plain
  pub stopping_printed : Printed b.stopping
