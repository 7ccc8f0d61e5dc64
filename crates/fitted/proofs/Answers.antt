-- The answer to a file of fitted sections by its numbers, whatever the layout (L1).
use Prim.Native.Nat.{ℕ}
use mathlib.Core.Path.{◌≡◌, refl, sym, ◌∙◌}
use mathlib.Core.Bool.{Bool, true, false}
use mathlib.Core.List.{List}
use borrow.Author.Tests.{eq-eqb, eqb-true}
use lib.Dec.{eqb}
use Rattle.laws.specs.Choice.{when◌then◌else◌}
use Rattle.layout.specs.declared.Layout.{Layout}
use Rattle.fitted.specs.Numbers.{Numbers, numbers_of}
use Rattle.fitted.specs.Fitted.{equipped, fit_by, fit}
use Rattle.fitted.proofs.Whole.{Known, from_known}

-- the answer's number is the numbers' fault
by_number : (L : Layout) (r : Numbers) (t : Bool) → eqb r.fault 0 ≡ t → (fit_by L r).number ≡ r.fault
unfolding fit_by when◌then◌else◌
by_number L r true e = rw e (sym (eqb-true _ 0 e))
by_number L r false e = rw e

pub fit_number : (L : Layout) (bytes : List ℕ) → (fit L bytes).number ≡ (numbers_of bytes).fault
unfolding fit
fit_number L bytes = by_number L (numbers_of bytes) (eqb (numbers_of bytes).fault 0) refl

-- where there is none the layout is equipped with them
pub fit_layout : (L : Layout) (bytes : List ℕ) → eqb (numbers_of bytes).fault 0 ≡ true → (fit L bytes).layout ≡ equipped (numbers_of bytes).list L
unfolding fit fit_by when◌then◌else◌
fit_layout L bytes e = rw e

-- which is where the answer is 0
pub fit_done : (L : Layout) (bytes : List ℕ) → (fit L bytes).number ≡ 0 → (fit L bytes).layout ≡ equipped (numbers_of bytes).list L
fit_done L bytes e = fit_layout L bytes (eq-eqb _ 0 (sym (fit_number L bytes) ∙ e))

-- it is 0, 21 or 22, since what ends numbers is
pub fit_numbers : (L : Layout) (bytes : List ℕ) → Known (fit L bytes).number
unfolding numbers_of
fit_numbers L bytes = rw (fit_number L bytes) (from_known bytes 0)
