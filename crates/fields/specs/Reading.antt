-- What a reading gives, told of the cursor that it ends at (section 2).
use Rattle.std.specs.Prelude.{ℕ, ◌≡◌, Result, MatchResult}
use Rattle.numbers.specs.declared.Fault.{Fault}
use Rattle.numbers.specs.Given.{number_of, detail_of}
use Rattle.fields.specs.declared.Cursor.{Cursor}
use Rattle.fields.specs.declared.Items.{Items}
use Rattle.fields.specs.declared.Points.{Points}
use Rattle.fields.specs.declared.place.Items.{Items as ItemsGiven}
use Rattle.fields.specs.declared.place.Points.{Points as PointsGiven}

-- a cursor stands at a place, with no fault met
pub record Stands (c : Cursor) (at : ℕ) : Type 0 where
  pub none : c.fault ≡ 0
  pub place : c.at ≡ at

-- a cursor has met a fault
pub record Met (c : Cursor) (f : Fault) : Type 0 where
  pub number : c.fault ≡ number_of f
  pub place : c.at ≡ detail_of f

-- a reading that ends at c gives a value, with the place after it, or the fault that was met, and stands where the fault is told of
abbrev pub Reads : {A : Type 0} → Result A Fault → ℕ → Cursor → (A → Type 0) → Type 0
Reads r at c Gives = MatchResult r (λ a. Stands c at × Gives a) (λ f. Met c f × (at ≡ detail_of f))

-- the number read last
abbrev pub NumberRead : Result ℕ Fault → ℕ → Cursor → Type 0
NumberRead r at c = Reads r at c (λ v. v ≡ c.value)

-- a list of objects
abbrev pub ItemsRead : Result ItemsGiven Fault → ℕ → Items → Type 0
ItemsRead r at t = Reads r at t.cur (λ a. (a.count ≡ t.count) × (a.item ≡ t.item))

-- points with positions
abbrev pub PointsRead : Result PointsGiven Fault → ℕ → Points → Type 0
PointsRead r at t = Reads r at t.cur (λ a. (a.count ≡ t.count) × (a.point ≡ t.point) × (a.position ≡ t.position))
