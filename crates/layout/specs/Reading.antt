-- What the readings of the file give, told of what stands in it, and the answer to it by its numbers (section 2).
use Rattle.std.specs.Prelude.{ℕ, ◌≡◌, Option, MatchOption, Result, Ok, Err}
use Rattle.numbers.specs.declared.Fault.{Fault}
use Rattle.numbers.specs.Given.{number_of, detail_of}
use Rattle.fields.specs.Reading.{Reads}
use Rattle.layout.specs.declared.Layout.{Layout}
use Rattle.layout.specs.declared.file.Heading.{Heading as HeadingGiven}
use Rattle.layout.specs.Records.{Heading, Whole, Loaded}
use Rattle.layout.specs.Load.{refused}

-- what the file begins with
abbrev pub HeadingRead : Result HeadingGiven Fault → ℕ → Heading → Type 0
HeadingRead r at t = Reads r at t.cur (λ a.
    (a.version ≡ t.version) × (a.sections ≡ t.sections) × (a.points ≡ t.points) × (a.pointsection ≡ t.pointsection) × (a.signals ≡ t.signals))

-- the whole file
abbrev pub WholeRead : Result Layout Fault → ℕ → Whole → Type 0
WholeRead r at t = Reads r at t.cur (λ L. L ≡ t.layout)

-- a broken rule's number, where it is not 0
abbrev pub RuleGiven : Option ℕ → ℕ → Type 0
RuleGiven r k = MatchOption r (k ≡ 0) (λ n. (n ≡ k) × (n ≡ 0 → ⊥))

-- the answer to a layout file by its numbers
abbrev pub told : Result Layout Fault → Loaded
told (Ok L) = record { number = 0; detail = 0; layout = L }
told (Err f) = refused (number_of f) (detail_of f)
