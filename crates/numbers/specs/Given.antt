-- The faults of section 2 by their numbers, and what a reading gives.
use Rattle.std.specs.Prelude.{ℕ, Result, Ok, Err}
use Rattle.numbers.specs.declared.Given.{Given}
use Rattle.numbers.specs.declared.Fault.{Fault}
use Rattle.numbers.specs.declared.Fault.TheVariants.{EndsEarly, BadlyFormed, OutOfRange, NoSuchObject, RuleBroken, LeftOver}
use Rattle.numbers.specs.Number.{Number, Value, Fault as Failed}

-- a fault's number
abbrev pub number_of : Fault → ℕ
number_of (EndsEarly at) = 21
number_of (BadlyFormed at) = 22
number_of (OutOfRange at) = 23
number_of (NoSuchObject at) = 24
number_of (RuleBroken rule) = 25
number_of (LeftOver at) = 26

-- the place that a fault is told of; of a broken rule its number
abbrev pub detail_of : Fault → ℕ
detail_of (EndsEarly at) = at
detail_of (BadlyFormed at) = at
detail_of (OutOfRange at) = at
detail_of (NoSuchObject at) = at
detail_of (RuleBroken rule) = rule
detail_of (LeftOver at) = at

-- what a reading gives: a number with the place after it, or a fault's number with its place
abbrev pub given : Result Given Fault → Number
given (Ok g) = Value g.value g.next
given (Err f) = Failed (number_of f) (detail_of f)
