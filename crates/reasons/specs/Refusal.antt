-- A refusal: its number and its detail; number 0 where there is none (section 3).
use Rattle.std.specs.Prelude.{ℕ, Bool, List, [], ◌∷◌, eqb, ltb}
use Rattle.laws.specs.Choice.{when◌then◌else◌}
use Rattle.laws.specs.Tests.{lowest}
use Rattle.reasons.specs.declared.refusal.Refusal.{Refusal as Declared}

-- a number and a detail: the record that the code declares
abbrev pub Refusal : Type 0
Refusal = Declared

-- a refusal by its number and detail; no refusal
unfoldable pub refused : ℕ → ℕ → Refusal
refused number detail = record { number = number; detail = detail }

unfoldable pub no_refusal : Refusal
no_refusal = refused 0 0

-- refused where the test holds
unfoldable pub refused_if : Bool → ℕ → ℕ → Refusal
refused_if t number detail = when t then refused number detail else no_refusal

-- refused where the test holds for one of 0 .. n - 1: the detail is the lowest that applies
unfoldable pub found : ℕ → ℕ → (ℕ → Bool) → Refusal
found number n p = refused_if (ltb (lowest n p) n) number (lowest n p)

-- the first refusal of a list, in the paper's order; the last is taken as it stands
unfoldable pub first_of : List Refusal → Refusal
first_of [] = no_refusal
first_of (x ∷ []) = x
first_of (x ∷ y ∷ ys) = when eqb x.number 0 then first_of (y ∷ ys) else x
