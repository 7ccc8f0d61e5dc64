-- Numbers in decimal, in ASCII.
use Rattle.std.specs.Prelude.{ℕ, zero, suc, ◌+◌, ◌/◌, ◌%◌, List, [], ◌∷◌, ◌++◌, ltb}
use Rattle.laws.specs.Choice.{when◌then◌else◌}

-- a number in decimal, in so many places at most
unfoldable pub decimal_digits : ℕ → ℕ → List ℕ
decimal_digits zero n = []
decimal_digits (suc places) n = when ltb n 10 then (48 + n) ∷ [] else decimal_digits places (n / 10) ++ ((48 + n % 10) ∷ [])

-- text of so many places at most, where a buffer of a length has room for them from a place on
unfoldable pub fitting : ℕ → ℕ → ℕ → List ℕ → List ℕ
fitting room at places text = when ltb room (at + places) then [] else text
