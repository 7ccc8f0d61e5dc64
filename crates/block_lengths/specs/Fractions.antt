-- How near a float is to a fraction of whole numbers.
use Rattle.std.specs.Prelude.{ℕ, ◌+◌, ◌*◌, Bool, true, false, leb, eqb, Float}
use Rattle.std.specs.Float.{nan, inf, fin}
use Rattle.std.specs.Float.Ieee.{up, down}
use Rattle.laws.specs.Tests.{◌and◌}

-- the fractions a / b and c / d are at most 1 / n apart
unfoldable pub near : ℕ → ℕ → ℕ → ℕ → ℕ → Bool
near n a b c d = leb (n * a * d) (n * c * b + b * d) and leb (n * c * b) (n * a * d + b * d)

-- x is a number, not negative, and at most 1 / n from the fraction c / d; a float is m * 2 ^ e, the fraction m * up e over down e
unfoldable pub within : ℕ → Float → ℕ → ℕ → Bool
within n nan c d = false
within n (inf s) c d = false
within n (fin true m e) c d = false
within n (fin false m e) c d = near n (m * up e) (down e) c d

-- x is the whole number c
unfoldable pub exactly : Float → ℕ → Bool
exactly nan c = false
exactly (inf s) c = false
exactly (fin true m e) c = false
exactly (fin false m e) c = eqb (m * up e) (c * down e)
