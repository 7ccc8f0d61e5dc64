-- The number form of the layout file (section 2), as it is read.
use Rattle.std.specs.Prelude.{ℕ, zero, suc, ◌+◌, ◌-◌, ◌*◌, List, [], ◌∷◌, length, get_or, ltb, eqb}
use Rattle.laws.specs.Choice.{when◌then◌else◌}

-- section 2, what stands at a place: a number with the place after it, or a fault's number with the number's first place
pub data Number : Type 0 where
  Value : ℕ → ℕ → Number
  Fault : ℕ → ℕ → Number

-- section 2, the most bytes of a number
abbrev pub max_groups : ℕ
max_groups = 3

-- section 2, the largest number
abbrev pub largest : ℕ
largest = 65535

-- section 2, lowest group first: a group below the number in the groups after it; where that is 0, the form is not the shortest
unfoldable pub with_group : ℕ → ℕ → Number → Number
with_group first low (Value value next) = when eqb value 0 then Fault 22 first else Value (low + 128 * value) next
with_group first low (Fault number at) = Fault number at

-- section 2, top bit set on every byte but the last: the number from a place on in so many bytes at most; 21 where the file ends, 22 where they are too few
unfoldable pub groups_at : ℕ → List ℕ → ℕ → ℕ → Number
groups_at zero s first at = Fault 22 first
groups_at (suc left) s first at =
    when ltb at (length s) then
    (when ltb (get_or s at 0) 128 then Value (get_or s at 0) (at + 1) else with_group first (get_or s at 0 - 128) (groups_at left s first (at + 1)))
    else Fault 21 first

-- section 2, a number that is too large gets 22 too
unfoldable pub at_most : ℕ → ℕ → Number → Number
at_most first limit (Value value next) = when ltb limit value then Fault 22 first else Value value next
at_most first limit (Fault number at) = Fault number at

-- section 2, what stands at a place: a number with the place after it, or a fault with the number's first place
unfoldable pub number_at : List ℕ → ℕ → Number
number_at s at = at_most at largest (groups_at max_groups s at at)

-- section 2, the paper's number and values of each case: 0, the number and the place after it; or 21 or 22 and the number's first place
unfoldable pub number_told : Number → List ℕ
number_told (Value value next) = 0 ∷ value ∷ next ∷ []
number_told (Fault number at) = number ∷ at ∷ []
