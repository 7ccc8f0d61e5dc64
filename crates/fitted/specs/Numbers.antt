-- The numbers of a file, one after another in the number form (section 2).
use Rattle.std.specs.Prelude.{ℕ, zero, suc, List, [], ◌∷◌, length, ltb}
use Rattle.laws.specs.Choice.{when◌then◌else◌}
use Rattle.numbers.specs.Number.{Number}
use Rattle.numbers.specs.Number.{Value, Fault}
use Rattle.numbers.specs.Number.{number_at}

-- numbers, and what ends them: 0 the end of the bytes, 21 the file ends inside a number, 22 badly formed; with its place
pub record Numbers : Type 0 where
  pub list : List ℕ
  pub fault : ℕ
  pub place : ℕ

-- no number
unfoldable pub no_numbers : ℕ → ℕ → Numbers
no_numbers fault place = record { list = []; fault = fault; place = place }

-- a number before others
unfoldable pub before : ℕ → Numbers → Numbers
before n r = record { list = n ∷ r.list; fault = r.fault; place = r.place }

-- by what stands at a place: a number and those that follow it; a fault ends them
unfoldable pub numbers_next : (ℕ → Numbers) → Number → Numbers
numbers_next rest (Value value next) = before value (rest next)
numbers_next rest (Fault number place) = no_numbers number place

-- the numbers from a place of the file on, so many at most
unfoldable pub numbers_from : ℕ → List ℕ → ℕ → Numbers
numbers_from zero file at = no_numbers 0 at
numbers_from (suc most) file at = when ltb at (length file) then numbers_next (numbers_from most file) (number_at file at) else no_numbers 0 at

-- all of them: a file has no more numbers than bytes, and one more place to end at
unfoldable pub from_place : List ℕ → ℕ → Numbers
from_place file at = numbers_from (suc (length file)) file at

-- the numbers of a file
unfoldable pub numbers_of : List ℕ → Numbers
numbers_of file = from_place file 0
