-- The lengths at whole minutes are the tables' own numbers.
use Prim.Native.Nat.{ℕ, ◌+◌, ◌*◌, ◌/◌, ◌<◌}
use mathlib.Core.Path.{◌≡◌, sym, ap, subst, ◌∙◌}
use mathlib.Core.Bool.{Bool, true, false}
use mathlib.Core.List.{List}
use native.Mathlib.Omega.{arith}
use lib.ListN.{get_or}
use lib.Ieee.{Float}
use Rattle.laws.specs.Choice.{when◌then◌else◌}
use Rattle.std.specs.Prelude.{Err}
use Rattle.block_lengths.specs.declared.LengthsAnswer.{LengthsAnswer}
use Rattle.block_lengths.specs.declared.Refusal.{Refusal}
use Rattle.block_lengths.specs.declared.Refusal.TheVariants.{BadHeadway, BadSpeed}
use Rattle.block_lengths.specs.Told.{refusal_number, told}
use Rattle.block_lengths.specs.Paper.{speeds, entry, table71, table72}
use Rattle.block_lengths.specs.Lengths.{refusal, answer}
use Rattle.block_lengths.specs.Millimetres.{millimetres}
use Rattle.block_lengths.specs.Right.{On, OnTheLine, Right}
use Rattle.block_lengths.proofs.Right.{right, own_millimetres}
use Rattle.lengths_text.specs.Sheet.{table_of}

-- no refusal has the number 0
pub some_number : (v : Refusal) → refusal_number v ≡ 0 → ⊥
some_number BadHeadway e = omega (arith, e)
some_number BadSpeed e = omega (arith, e)

-- the headway of a row is that of the row, and no second over it
on_the_minute : (row : ℕ) → On row 0 (60 * (row + 2))
unfolding On
on_the_minute row = (omega arith, omega arith)

-- a thousandth of a thousand times a number
thousandth : (m e : ℕ) → m ≡ 1000 * e → m / 1000 ≡ e
thousandth m e p = omega (arith, p)

-- the whole metres of a length that is right for a row's headway
whole : (t : List (List ℕ)) (row column : ℕ) (x : Float) → OnTheLine t (60 * (row + 2)) column x → millimetres x / 1000 ≡ entry t row column
whole t row column x p =
    thousandth (millimetres x) (entry t row column) (own_millimetres t (60 * (row + 2)) column row x p (on_the_minute row))

module _ (row column speed m : ℕ) (a : LengthsAnswer) (r : row < 9) (c : column < 6) (s : speed ≡ get_or speeds column 0) (e : a ≡ answer (60 * (row + 2)) speed) where
  -- the answer for a row's headway and a column's speed is right
  answered : Right (60 * (row + 2)) column a
  answered = subst (Right (60 * (row + 2)) column) (sym (e ∙ ap (answer (60 * (row + 2))) s)) (right (60 * (row + 2)) column (omega arith) (omega arith) c)

  -- of table 7.2, next to a stopping place
  pub metres_stopping : (b : Bool) → b ≡ true → m ≡ millimetres a.lengths.stopping → m / 1000 ≡ entry (table_of b) row column
  unfolding table_of when◌then◌else◌
  metres_stopping b t p = rw (t, p) (whole table72 row column a.lengths.stopping answered.stopping_line)

  -- of table 7.1
  pub metres_plain : (b : Bool) → b ≡ false → m ≡ millimetres a.lengths.plain → m / 1000 ≡ entry (table_of b) row column
  unfolding table_of when◌then◌else◌
  metres_plain b t p = rw (t, p) (whole table71 row column a.lengths.plain answered.plain_line)

-- no row and no column is refused
pub never_refused : {A : Type 0} (row column speed : ℕ) (v : Refusal) → row < 9 → column < 6 → speed ≡ get_or speeds column 0
    → told (Err v) ≡ answer (60 * (row + 2)) speed → A
unfolding refusal
never_refused row column speed v r c s e = absurd (some_number v (answered row column speed 0 (told (Err v)) r c s e).granted)
