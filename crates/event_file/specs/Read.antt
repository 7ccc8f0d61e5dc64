-- Events in a file (sections 3 and 8): three numbers of the number form each, one event after another.
use Rattle.std.specs.Prelude.{ℕ, ◌≤◌, ◌≡◌, List, [], ◌∷◌, length, ltb}
use Rattle.laws.specs.Choice.{when◌then◌else◌}
use Rattle.numbers.specs.Number.{Number}
use Rattle.numbers.specs.Number.{Value, Fault}
use Rattle.numbers.specs.Number.{largest, number_at}
use Rattle.event_file.specs.Next.{Next}
use Rattle.event_file.specs.Next.{Taken, Bad, Nothing}

-- a number, where it is one, is not too large
abbrev pub Small : Number → Type 0
Small n = (value next : ℕ) → n ≡ Value value next → value ≤ largest

-- the second number (section 3), after kind and first
unfoldable pub with_second : ℕ → ℕ → Number → Next
with_second kind first (Value second next) = Taken kind first second next
with_second kind first (Fault number at) = Bad number at

-- the first number, then the second
unfoldable pub with_first : List ℕ → ℕ → Number → Next
with_first file kind (Value first next) = with_second kind first (number_at file next)
with_first file kind (Fault number at) = Bad number at

-- the kind, then the first and the second number
unfoldable pub with_kind : List ℕ → Number → Next
with_kind file (Value kind next) = with_first file kind (number_at file next)
with_kind file (Fault number at) = Bad number at

-- section 8, what stands at a place: an event with the place after it; 21 where the file ends inside the event or 22 for a bad number,
-- with the place that section 2 tells of; or nothing, where the file ended after the event before
unfoldable pub event_at : List ℕ → ℕ → Next
event_at file at = when ltb at (length file) then with_kind file (number_at file at) else Nothing

-- section 8, the paper's number and values of each case: 0, the event's three numbers and the place after it; or 21 or 22 and the place that section 2
-- tells of; nothing where the file ended after the event before
unfoldable pub next_told : Next → List ℕ
next_told (Taken kind first second next) = 0 ∷ kind ∷ first ∷ second ∷ next ∷ []
next_told (Bad number at) = number ∷ at ∷ []
next_told Nothing = []
