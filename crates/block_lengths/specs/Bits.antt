-- What the code makes of a float's bits. This follows the code: the field of the exponent and the 52 digits, of which 2 ^ 52 is the leading one.
use Rattle.std.specs.Prelude.{ℕ, ◌+◌, ◌-◌, ◌*◌, ◌/◌, ◌%◌, ◌^◌, ltb}
use Rattle.laws.specs.Choice.{when◌then◌else◌}

-- the digits are metres over 2 to this
unfoldable pub shift_of : ℕ → ℕ
shift_of bits = 1075 - bits / 4503599627370496

-- the half millimetres, rounded down
unfoldable pub halves_of : ℕ → ℕ
halves_of bits = when ltb 63 (shift_of bits) then 0 else 2000 * (4503599627370496 + bits % 4503599627370496) / 2 ^ shift_of bits
