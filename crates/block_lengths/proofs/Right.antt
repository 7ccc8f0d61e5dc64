-- Every answer for a headway of 120 to 600 and one of the six speeds is right; every other pair is refused.
use Prim.Native.Nat.{ℕ, ◌+◌, ◌-◌, ◌*◌, ◌^◌, ◌<◌, ◌≤◌}
use mathlib.Core.Path.{◌≡◌, refl, sym, subst, ap, ◌∙◌}
use mathlib.Core.Bool.{Bool, true}
use mathlib.Core.List.{List}
use mathlib.Core.Logic.{◌⊎◌, inl, inr}
use native.Mathlib.Nat.{mul-le-mul_right}
use native.Mathlib.Omega.{arith}
use borrow.Author.Tests.{eqb-true, eqb-false, eq-eqb, lt-ltb, ne_eqb, ltb-false}
use lib.Dec.{eqb, ltb, lit≤}
use lib.ListN.{get_or}
use lib.Ieee.{Float}
use Rattle.laws.specs.Choice.{when◌then◌else◌}
use Rattle.laws.specs.Tests.{all_below, lowest, lowest_from}
use Rattle.laws.proofs.Choice.{if_true, if_both, chosen, which, holds, fails}
use Rattle.laws.proofs.Tests.{all_at, or_left, or_right}
use Rattle.laws.proofs.Searches.{lowest_past}
use Rattle.block_lengths.specs.Paper.{speeds, row_of, seconds_over, column_of, entry, table71, table72}
use Rattle.block_lengths.specs.Lengths.{float, interpolated, length_in, refusal, answer}
use Rattle.block_lengths.specs.Fractions.{within, exactly}
use Rattle.block_lengths.specs.Millimetres.{nearest_millimetre, millimetres}
use Rattle.block_lengths.specs.Tables.{Rises}
use Rattle.block_lengths.specs.Right.{sixtieths, On, OnTheLine, Right}
use Rattle.block_lengths.proofs.Laws.{not_refused, row_after, no_lower, no_column, both_lengths}
use Rattle.block_lengths.proofs.Tables.{Short, rises71, rises72, short71, short72}
use Rattle.block_lengths.proofs.Line.{float_exact, float_on_line, next_to_line}
use Rattle.block_lengths.proofs.Nearest.{next_millimetre}

-- ---- the rows of a headway

-- there are nine
row_below : (headway : ℕ) → headway ≤ 600 → row_of headway < 9
unfolding row_of
row_below headway h = omega arith

-- seconds over a headway are below 60
seconds_below : (headway : ℕ) → seconds_over headway < 60
unfolding seconds_over
seconds_below headway = omega arith

-- a headway that is so many seconds on from a row has that row
on_row : (row seconds headway : ℕ) → On row seconds headway → row_of headway ≡ row
unfolding On row_of
on_row row seconds headway o = omega (arith, o.0, o.1)

-- and is so many seconds over it
on_seconds : (row seconds headway : ℕ) → On row seconds headway → seconds_over headway ≡ seconds
unfolding On seconds_over
on_seconds row seconds headway o = omega (arith, o.0, o.1)

-- a headway from 120 on is as many seconds as it is over its row on from that
pub on_its_row : (headway : ℕ) → 120 ≤ headway → On (row_of headway) (seconds_over headway) headway
unfolding On row_of seconds_over
on_its_row headway l = (omega arith, omega arith)

-- ---- a line between two lengths of 16 bits is no longer than they are

short_line : (low high s : ℕ) → low ≤ 65535 → high ≤ 65535 → s < 60 → low * (60 - s) + high * s ≤ 3932160
short_line low high s l h b =
    let p : low * (60 - s) ≤ 65535 * (60 - s) = mul-le-mul_right (60 - s) l in
    let q : high * s ≤ 65535 * s = mul-le-mul_right s h in
    omega arith

-- a table that rises and is of 16 bits
module _ (t : List (List ℕ)) (rises : Rises t) (short : Short t) (headway column : ℕ) (h : headway ≤ 600) (c : column < 6) where
  -- what a table has is below 65,536 in the headway's row
  own_short : entry t (row_of headway) column < 65536
  own_short = short (row_of headway) column (row_below headway h) c

  -- and where there is a row after it in that too
  next_short : (seconds_over headway ≡ 0 → ⊥) → entry t (row_of headway + 1) column < 65536
  next_short s = let r : row_of headway < 8 = row_after headway h s in short (row_of headway + 1) column (omega arith) c

  -- at one of its headways the length is its number, and on the line
  own_on_line : (k : ℕ) → seconds_over headway ≡ 0 → within k (float (entry t (row_of headway) column)) (sixtieths t (row_of headway) (seconds_over headway) column) 60 ≡ true
  unfolding sixtieths
  own_on_line k s =
      let low = entry t (row_of headway) column in
      let high = entry t (row_of headway + 1) column in
      subst (λ z. within k (float low) (low * (60 - z) + high * z) 60 ≡ true) (sym s) (float_on_line k low high own_short)

  -- between two of them it is next to the line
  next_on_line : (k : ℕ) → k ≤ 2 ^ 35 → (seconds_over headway ≡ 0 → ⊥)
      → within k (interpolated (entry t (row_of headway) column) (entry t (row_of headway + 1) column) (seconds_over headway)) (sixtieths t (row_of headway) (seconds_over headway) column) 60 ≡ true
  unfolding sixtieths
  next_on_line k K s =
      next_to_line k (entry t (row_of headway) column) (entry t (row_of headway + 1) column) (seconds_over headway) K
      (no_lower t headway column rises h c s) (next_short s) (seconds_below headway)

  -- so every length is within 1 / k of it for any k up to 2 ^ 35
  pub on_line : (k : ℕ) → k ≤ 2 ^ 35 → within k (length_in t headway column) (sixtieths t (row_of headway) (seconds_over headway) column) 60 ≡ true
  unfolding length_in
  on_line k K =
      if_both (λ x. within k x (sixtieths t (row_of headway) (seconds_over headway) column) 60 ≡ true) (eqb (seconds_over headway) 0)
      (λ e. own_on_line k (eqb-true (seconds_over headway) 0 e)) (λ e. next_on_line k K (eqb-false (seconds_over headway) 0 e))

  -- at the table's headways it is the table's number
  own_number : seconds_over headway ≡ 0 → length_in t headway column ≡ float (entry t (row_of headway) column)
  unfolding length_in
  own_number s = chosen _ _ _ (eq-eqb (seconds_over headway) 0 s)

  -- the line is no longer than 65,536 m
  pub line_short : sixtieths t (row_of headway) (seconds_over headway) column ≤ 3932160
  unfolding sixtieths
  line_short = elim (which (eqb (seconds_over headway) 0)) [
    | holds e ↦
        subst (λ z. entry t (row_of headway) column * (60 - z) + entry t (row_of headway + 1) column * z ≤ 3932160) (sym (eqb-true (seconds_over headway) 0 e))
        (omega (arith, own_short))
    | fails e ↦
        short_line (entry t (row_of headway) column) (entry t (row_of headway + 1) column) (seconds_over headway) (omega (arith, own_short))
        (omega (arith, next_short (eqb-false (seconds_over headway) 0 e))) (seconds_below headway)
  ]

  -- all that is asked of a length, for the row and the seconds that the headway is on
  pub on_the_line : OnTheLine t headway column (length_in t headway column)
  on_the_line =
      let x = length_in t headway column in
      let m = next_millimetre x (sixtieths t (row_of headway) (seconds_over headway) column) line_short (on_line 10000 (lit≤ tt)) in
      record {
        exact =
            λ row o.
            subst (λ r. exactly x (entry t r column) ≡ true) (on_row row 0 headway o)
            (subst (λ y. exactly y (entry t (row_of headway) column) ≡ true) (sym (own_number (on_seconds row 0 headway o))) (float_exact _ own_short));
        straight =
            λ row seconds o.
            subst (λ n. within 1000 x n 60 ≡ true) (same_line row seconds o) (on_line 1000 (lit≤ tt));
        half = m.0;
        nearest = λ row seconds o. m.1 ∙ ap (λ n. nearest_millimetre n 60) (same_line row seconds o);
      }
    where
      same_line : (row seconds : ℕ) → On row seconds headway → sixtieths t (row_of headway) (seconds_over headway) column ≡ sixtieths t row seconds column
      same_line row seconds o = rw (on_row row seconds headway o, on_seconds row seconds headway o)

-- a whole number of metres on the line
own_nearest : (e high : ℕ) → nearest_millimetre (e * (60 - 0) + high * 0) 60 ≡ 1000 * e
unfolding nearest_millimetre
own_nearest e high = omega arith

-- at the table's headways a length that is right has the thousands of the table's number
pub own_millimetres : (t : List (List ℕ)) (headway column row : ℕ) (x : Float) → OnTheLine t headway column x → On row 0 headway
    → millimetres x ≡ 1000 * entry t row column
unfolding sixtieths
own_millimetres t headway column row x p o = p.nearest row 0 o ∙ own_nearest (entry t row column) (entry t (row + 1) column)

-- ---- the answer

-- the column of a speed is the one that has it
found : ℕ → Bool
found k = eqb (column_of (get_or speeds k 0)) k

-- this holds of the six
column_found : (k : ℕ) → k < 6 → column_of (get_or speeds k 0) ≡ k
unfolding found all_below speeds column_of lowest lowest_from when◌then◌else◌
column_found k l = eqb-true (column_of (get_or speeds k 0)) k (all_at 6 found refl k l)

-- the answer for a headway from 120 to 600 and the speed of a column is right
pub right : (headway column : ℕ) → 120 ≤ headway → headway ≤ 600 → column < 6 → Right headway column (answer headway (get_or speeds column 0))
right headway column l h c =
    subst (Right headway column)
    (both_lengths headway (get_or speeds column 0) column (sym (column_found column c)) (not_refused headway l h)
    (length_in table71 headway column) (length_in table72 headway column) table71 table72 c refl refl refl refl)
    (record {
      granted = refl;
      same_headway = refl;
      same_speed = refl;
      plain_line = on_the_line table71 rises71 short71 headway column h c;
      stopping_line = on_the_line table72 rises72 short72 headway column h c;
    })

-- any other headway is refused with 28, whatever the speed
pub headway_refused : (headway speed : ℕ) → (headway < 120) ⊎ (600 < headway) → refusal 28 ≡ answer headway speed
unfolding answer
headway_refused headway speed (inl l) = if_true _ _ _ (refusal 28) (or_left (ltb headway 120) (ltb 600 headway) (lt-ltb headway 120 l)) refl
headway_refused headway speed (inr h) = if_true _ _ _ (refusal 28) (or_right (ltb headway 120) (ltb 600 headway) (lt-ltb 600 headway h)) refl

-- a speed that is none of the six is then refused with 29
pub speed_refused : (headway speed : ℕ) → 120 ≤ headway → headway ≤ 600 → ((k : ℕ) → k < 6 → speed ≡ get_or speeds k 0 → ⊥) → refusal 29 ≡ answer headway speed
unfolding column_of
speed_refused headway speed l h other =
    no_column headway speed (column_of speed) refl (not_refused headway l h) (refusal 29)
    (ltb-false (column_of speed) 6 (lowest_past 6 (λ k. eqb speed (get_or speeds k 0)) (λ k b. ne_eqb speed (get_or speeds k 0) (other k b)))) refl
