-- No two results are given alike: each fault has a number of its own.
use Prim.Native.Nat.{ℕ, ◌≤◌}
use native.Mathlib.Omega.{arith}
use mathlib.Core.Path.{◌≡◌, refl, ap, ◌∙◌}
use lib.Dec.{eqb}
use Rattle.std.specs.Prelude.{Result, Ok, Err}
use Rattle.laws.specs.Choice.{when◌then◌else◌}
use Rattle.numbers.specs.declared.Given.{Given}
use Rattle.numbers.specs.declared.Fault.{Fault}
use Rattle.numbers.specs.declared.Fault.TheVariants.{EndsEarly, BadlyFormed, OutOfRange, NoSuchObject, RuleBroken, LeftOver}
use Rattle.numbers.specs.Given.{number_of, detail_of, given}

-- the fault of a number, told of a place
abbrev fault_of : ℕ → ℕ → Fault
fault_of n d =
    when eqb n 21 then EndsEarly d
    else when eqb n 22 then BadlyFormed d
    else when eqb n 23 then OutOfRange d
    else when eqb n 24 then NoSuchObject d
    else when eqb n 25 then RuleBroken d
    else LeftOver d

-- a fault is that of its number, told of its place
of_its_number : (f : Fault) → fault_of (number_of f) (detail_of f) ≡ f
unfolding when◌then◌else◌
of_its_number (EndsEarly at) = refl
of_its_number (BadlyFormed at) = refl
of_its_number (OutOfRange at) = refl
of_its_number (NoSuchObject at) = refl
of_its_number (RuleBroken rule) = refl
of_its_number (LeftOver at) = refl

-- faults are numbered from 21 on
pub from_21 : (f : Fault) → 21 ≤ number_of f
from_21 (EndsEarly at) = omega arith
from_21 (BadlyFormed at) = omega arith
from_21 (OutOfRange at) = omega arith
from_21 (NoSuchObject at) = omega arith
from_21 (RuleBroken rule) = omega arith
from_21 (LeftOver at) = omega arith

-- so none has the number 0
pub not_none : (f : Fault) → number_of f ≡ 0 → ⊥
not_none f e = omega (arith, from_21 f)

-- two faults of one number, told of one place, are one
pub fault_same : (f g : Fault) → number_of f ≡ number_of g → detail_of f ≡ detail_of g → f ≡ g
fault_same f g n d = cc (of_its_number f, of_its_number g)

-- two results that are given alike are one
pub given_same : (r q : Result Given Fault) → given r ≡ given q → r ≡ q
given_same (Ok a) (Ok b) e =
    let v : a.value ≡ b.value = cc in
    let n : a.next ≡ b.next = cc in
    ap (λ (v : ℕ). Ok (record { value = v; next = a.next })) v ∙ ap (λ (n : ℕ). Ok (record { value = b.value; next = n })) n
given_same (Ok a) (Err g) e = cc
given_same (Err f) (Ok b) e = cc
given_same (Err f) (Err g) e =
    let n : number_of f ≡ number_of g = cc in
    let d : detail_of f ≡ detail_of g = cc in
    ap Err (fault_same f g n d)
