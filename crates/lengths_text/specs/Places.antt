-- Numbers one under the other: each in so many places.
use Rattle.std.specs.Prelude.{ℕ, zero, suc, ◌+◌, ◌/◌, ◌%◌, List, [], ◌∷◌, ◌++◌, eqb}
use Rattle.laws.specs.Choice.{when◌then◌else◌}
use Rattle.numerals.specs.Words.{ascii}

-- a place before the last: a digit, or what fills it where the number is over
unfoldable pub place : ℕ → ℕ → ℕ
place fill n = when eqb n 0 then fill else 48 + n % 10

-- so many places before the last, of a number without its last digit
unfoldable pub places : ℕ → ℕ → ℕ → List ℕ
places fill zero n = []
places fill (suc k) n = places fill k (n / 10) ++ (place fill n ∷ [])

-- the last digit of a number and so many places before it, which are filled; a number of more digits loses its first
unfoldable pub filled : ℕ → ℕ → ℕ → List ℕ
filled fill k n = places fill k (n / 10) ++ ((48 + n % 10) ∷ [])

-- a length of so many millimetres, in metres and millimetres: eight places, a point, three places
unfoldable pub metres_text : ℕ → List ℕ
metres_text mm = filled 32 7 (mm / 1000) ++ ascii "." ++ filled 48 2 (mm % 1000)
