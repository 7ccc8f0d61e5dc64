-- L13: what is asked of the answer for a headway of 120 to 600 seconds and one of the six speeds.
use Rattle.std.specs.Prelude.{ℕ, ◌+◌, ◌-◌, ◌*◌, ◌<◌, ◌≡◌, true, List, get_or, Float}
use Rattle.block_lengths.specs.declared.LengthsAnswer.{LengthsAnswer}
use Rattle.block_lengths.specs.Paper.{speeds, entry, table71, table72}
use Rattle.block_lengths.specs.Fractions.{within, exactly}
use Rattle.block_lengths.specs.Millimetres.{millimetres, nearest_millimetre}

-- the straight line, so many seconds on from a row, in sixtieths of a metre: each of two lengths as often as there are seconds to the other
unfoldable pub sixtieths : List (List ℕ) → ℕ → ℕ → ℕ → ℕ
sixtieths t row seconds column = entry t row column * (60 - seconds) + entry t (row + 1) column * seconds

-- a headway is so many seconds on from that of a row, 120 s for the first and a minute more for each
unfoldable pub On : ℕ → ℕ → ℕ → Type 0
On row seconds headway = (headway ≡ 120 + 60 * row + seconds) × (seconds < 60)

-- a table's length: at the table's headways its own number, exactly; within one millimetre of the straight line; and in whole millimetres the
-- nearest both to the float, within half a millimetre, and to the straight line itself
pub record OnTheLine (t : List (List ℕ)) (headway column : ℕ) (x : Float) : Type 0 where
  pub exact : (row : ℕ) → On row 0 headway → exactly x (entry t row column) ≡ true
  pub straight : (row seconds : ℕ) → On row seconds headway → within 1000 x (sixtieths t row seconds column) 60 ≡ true
  pub half : within 2000 x (millimetres x) 1000 ≡ true
  pub nearest : (row seconds : ℕ) → On row seconds headway → millimetres x ≡ nearest_millimetre (sixtieths t row seconds column) 60

-- the answer is 0, with the headway and the speed asked for, and both lengths are right
pub record Right (headway column : ℕ) (a : LengthsAnswer) : Type 0 where
  pub granted : a.number ≡ 0
  pub same_headway : a.lengths.headway ≡ headway
  pub same_speed : a.lengths.speed ≡ get_or speeds column 0
  pub plain_line : OnTheLine table71 headway column a.lengths.plain
  pub stopping_line : OnTheLine table72 headway column a.lengths.stopping
