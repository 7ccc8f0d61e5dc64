-- L13: how long two blocks may be, for a headway in seconds and a speed in km/h.
use Rattle.std.specs.Prelude.{ℕ, ◌+◌, ◌-◌, ◌*◌, List, eqb, ltb, leb, pos, Float}
use Rattle.std.specs.Float.{binary64}
use Rattle.std.specs.Float.Ieee.{add, div, of_int}
use Rattle.laws.specs.Choice.{when◌then◌else◌}
use Rattle.laws.specs.Tests.{◌or◌}
use Rattle.block_lengths.specs.declared.LengthsAnswer.{LengthsAnswer}
use Rattle.block_lengths.specs.Paper.{row_of, seconds_over, column_of, entry, table71, table72}

-- a whole number as a 64-bit float
unfoldable pub float : ℕ → Float
float n = of_int binary64 (pos n)

-- L13: so many seconds on from low, of the 60 to high: the product is whole, one rounded division, one rounded sum
unfoldable pub interpolated : ℕ → ℕ → ℕ → Float
interpolated low high seconds = add binary64 (float low) (div binary64 (float ((high - low) * seconds)) (float 60))

-- L13: the length in metres of a table: its own number at its headways, between them the interpolated
unfoldable pub length_in : List (List ℕ) → ℕ → ℕ → Float
length_in t headway column =
    when eqb (seconds_over headway) 0 then float (entry t (row_of headway) column)
    else interpolated (entry t (row_of headway) column) (entry t (row_of headway + 1) column) (seconds_over headway)

-- L13: a refusal has a record of zeros
unfoldable pub refusal : ℕ → LengthsAnswer
refusal number = record { number = number; lengths = record { headway = 0; speed = 0; plain = float 0; stopping = float 0 } }

-- L13: 28 for the headway, then 29 for the speed; else 0, and one record with headway, speed and both tables' lengths
unfoldable pub answer : ℕ → ℕ → LengthsAnswer
answer headway speed =
    when ltb headway 120 or ltb 600 headway then refusal 28
    else when leb 6 (column_of speed) then refusal 29
    else record {
      number = 0;
      lengths = record {
        headway = headway;
        speed = speed;
        plain = length_in table71 headway (column_of speed);
        stopping = length_in table72 headway (column_of speed);
      };
    }
