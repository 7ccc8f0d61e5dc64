-- L13: a length in whole millimetres.
use Rattle.std.specs.Prelude.{ℕ, ◌+◌, ◌*◌, ◌/◌, ◌^◌, true, false, ltb, Float}
use Rattle.std.specs.Float.{nan, inf, fin}
use Rattle.std.specs.Float.Ieee.{up, down}
use Rattle.laws.specs.Choice.{when◌then◌else◌}

-- the whole number of millimetres that is nearest to a fraction of metres, the upper of two that are as near
unfoldable pub nearest_millimetre : ℕ → ℕ → ℕ
nearest_millimetre a b = (2000 * a + b) / (2 * b)

-- the nearest to a length that is a number, not negative, below 2 ^ 53 m, from where on a float has no fractions; 0 of any other float
unfoldable pub millimetres : Float → ℕ
millimetres nan = 0
millimetres (inf s) = 0
millimetres (fin true m e) = 0
millimetres (fin false m e) = when ltb (m * up e) (2 ^ 53 * down e) then nearest_millimetre (m * up e) (down e) else 0
