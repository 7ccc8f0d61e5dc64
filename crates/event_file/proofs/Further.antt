-- An event stands as many places further on as other bytes are put before the string.
use Prim.Native.Nat.{ℕ, ◌+◌}
use mathlib.Core.Path.{◌≡◌, refl, ap, ◌∙◌}
use mathlib.Core.Bool.{Bool, true, false}
use mathlib.Core.List.{List, ◌++◌}
use lib.Dec.{ltb}
use lib.ListN.{length}
use Rattle.laws.specs.Choice.{when◌then◌else◌}
use Rattle.numbers.specs.Number.{Number}
use Rattle.numbers.specs.Number.{Value, Fault}
use Rattle.numbers.specs.Number.{number_at}
use Rattle.numbers.proofs.Further.{further, inside_further, number_further}
use Rattle.event_file.specs.Next.{Next}
use Rattle.event_file.specs.Next.{Taken, Bad, Nothing}
use Rattle.event_file.specs.Read.{with_second, with_first, with_kind, event_at}

-- so many places further on
abbrev pub further_next : ℕ → Next → Next
further_next d (Taken kind first second next) = Taken kind first second (d + next)
further_next d (Bad number at) = Bad number (d + at)
further_next d Nothing = Nothing

-- before the end, or at it
end_further : (d : ℕ) (t : Bool) (x : Next) → when t then further_next d x else Nothing ≡ further_next d (when t then x else Nothing)
unfolding when◌then◌else◌
end_further d true x = refl
end_further d false x = refl

module _ (front s : List ℕ) where
  -- the second number of an event
  second_further : (kind first : ℕ) (n : Number) → with_second kind first (further (length front) n) ≡ further_next (length front) (with_second kind first n)
  unfolding with_second
  second_further kind first (Value value next) = refl
  second_further kind first (Fault number at) = refl

  -- the first number, with the second behind it
  first_further : (kind : ℕ) (n : Number) → with_first (front ++ s) kind (further (length front) n) ≡ further_next (length front) (with_first s kind n)
  unfolding with_first
  first_further kind (Value value next) = ap (with_second kind value) (number_further front s next) ∙ second_further kind value (number_at s next)
  first_further kind (Fault number at) = refl

  -- the kind, with both numbers behind it
  kind_further : (n : Number) → with_kind (front ++ s) (further (length front) n) ≡ further_next (length front) (with_kind s n)
  unfolding with_kind
  kind_further (Value value next) = ap (with_first (front ++ s) value) (number_further front s next) ∙ first_further value (number_at s next)
  kind_further (Fault number at) = refl

  -- so an event or a fault is the same, and so is the end, with the places of the longer string
  pub event_further : (at : ℕ) → event_at (front ++ s) (length front + at) ≡ further_next (length front) (event_at s at)
  unfolding event_at
  event_further at =
      rw (inside_further front s at, ap (with_kind (front ++ s)) (number_further front s at) ∙ kind_further (number_at s at))
      (end_further (length front) (ltb at (length s)) (with_kind s (number_at s at)))
