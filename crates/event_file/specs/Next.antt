-- What stands at a place of an event file, by the numbers of section 8, and what the code gives for it.
use Rattle.std.specs.Prelude.{ℕ, Option, Some, None, Result, Ok, Err}
use Rattle.numbers.specs.declared.Fault.{Fault}
use Rattle.numbers.specs.Given.{number_of, detail_of}
use Rattle.event_file.specs.declared.Event.{Event}

-- an event by its kind, its two numbers and the place after it; or a fault's number, 21 or 22, with the place that it is told of; or nothing, where
-- the file ended after the event before
pub data Next : Type 0 where
  Taken : ℕ → ℕ → ℕ → ℕ → Next
  Bad : ℕ → ℕ → Next
  Nothing : Next

-- what the code gives for it
abbrev pub found : Result (Option Event) Fault → Next
found (Ok (Some e)) = Taken e.kind e.first e.second e.next
found (Ok None) = Nothing
found (Err f) = Bad (number_of f) (detail_of f)
