-- One number of the layout file, with the fault that it may bring (section 2).
use Rattle.std.specs.Prelude.{ℕ, ◌+◌, List, ltb, eqb}
use Rattle.laws.specs.Choice.{when◌then◌else◌}
use Rattle.numbers.specs.Number.{Number}
use Rattle.numbers.specs.Number.{Value, Fault}
use Rattle.numbers.specs.Number.{number_at}
use Rattle.fields.specs.declared.Cursor.{Cursor}

-- a fault, told of a place
unfoldable pub failed : ℕ → ℕ → Cursor
failed at fault = record { at = at; fault = fault; value = 0 }

-- what was read at a place: a number from low to just below limit, else the fault given there; or the number form's own fault
unfoldable pub judge : Number → ℕ → ℕ → ℕ → ℕ → Cursor
judge (Value v next) at low limit fault =
    when ltb v low then failed at fault else when ltb v limit then record { at = next; fault = 0; value = v } else failed at fault
judge (Fault number place) at low limit fault = failed place number

-- the next number is read, unless a fault was met before: the first fault met stays
unfoldable pub field : List ℕ → Cursor → ℕ → ℕ → ℕ → Cursor
field s c low limit fault = when eqb c.fault 0 then judge (number_at s c.at) c.at low limit fault else failed c.at c.fault

-- a version, count or code, low to high: 23 outside its range
unfoldable pub code : List ℕ → Cursor → ℕ → ℕ → Cursor
code s c low high = field s c low (high + 1) 23

-- a reference to one of so many objects: 24 if there is none
unfoldable pub reference : List ℕ → Cursor → ℕ → Cursor
reference s c objects = field s c 0 objects 24

-- 0 for none, or the number of one of so many objects plus 1: 24 if there is none (L2)
unfoldable pub none_or_reference : List ℕ → Cursor → ℕ → Cursor
none_or_reference s c objects = reference s c (objects + 1)
