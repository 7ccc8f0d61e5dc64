-- What the proofs of the functions cite.
use Prim.Native.Nat.{ℕ, ◌+◌, ◌*◌, ◌<◌, ◌≤◌}
use mathlib.Core.Path.{◌≡◌, sym, subst}
use mathlib.Core.Bool.{false}
use mathlib.Core.List.{List}
use native.Mathlib.Nat.{mul-le-mul}
use native.Mathlib.Omega.{arith}
use borrow.Author.Tests.{le-ltb}
use lib.Dec.{ltb}
use lib.Ieee.{Float}
use Rattle.laws.specs.Tests.{◌or◌}
use Rattle.laws.proofs.Choice.{if_ne, if_false, if_le, if_gt}
use Rattle.block_lengths.specs.declared.LengthsAnswer.{LengthsAnswer}
use Rattle.block_lengths.specs.Paper.{column_of, row_of, seconds_over, entry, table71, table72}
use Rattle.block_lengths.specs.Lengths.{interpolated, length_in, refusal, answer}
use Rattle.block_lengths.specs.Tables.{Rises}

-- the product of a rise of 16 bits and fewer than 60 seconds
pub small_product : (rise seconds : ℕ) → rise < 65536 → seconds < 60 → rise * seconds ≤ 3866565
small_product rise seconds p q =
    let r : rise ≤ 65535 = omega arith in
    let s : seconds ≤ 59 = omega arith in
    let m : rise * seconds ≤ 65535 * 59 = mul-le-mul r s in
    omega arith

-- a headway from 120 to 600 is not refused
pub not_refused : (headway : ℕ) → 120 ≤ headway → headway ≤ 600 → ltb headway 120 or ltb 600 headway ≡ false
unfolding ◌or◌
not_refused headway l h = rw (le-ltb headway 120 l, le-ltb 600 headway h)

-- a table that is one that rises, rises
pub rises_too : (t u : List (List ℕ)) → t ≡ u → Rises u → Rises t
rises_too t u e r = subst Rises (sym e) r

-- a headway that is none of the table's has a row after its own
pub row_after : (headway : ℕ) → headway ≤ 600 → (seconds_over headway ≡ 0 → ⊥) → row_of headway < 8
unfolding row_of seconds_over
row_after headway h s = omega (arith, s)

module _ (t : List (List ℕ)) (headway column : ℕ) where
  -- between two headways the upper of the two entries is no lower
  pub no_lower : Rises t → headway ≤ 600 → column < 6 → (seconds_over headway ≡ 0 → ⊥) → entry t (row_of headway) column ≤ entry t (row_of headway + 1) column
  unfolding Rises
  no_lower r h c s = r (row_of headway) column (row_after headway h s) c

  -- and the length is interpolated
  pub between_rows : (r : Float) → (seconds_over headway ≡ 0 → ⊥)
      → r ≡ interpolated (entry t (row_of headway) column) (entry t (row_of headway + 1) column) (seconds_over headway) → r ≡ length_in t headway column
  unfolding length_in
  between_rows r s e = if_ne (seconds_over headway) 0 _ _ r s e

-- a headway from 120 to 600, and the column that the code found
module _ (headway speed column : ℕ) (e : column ≡ column_of speed) (n : ltb headway 120 or ltb 600 headway ≡ false) where
  -- no column: 29
  pub no_column : (r : LengthsAnswer) → 6 ≤ column → r ≡ refusal 29 → r ≡ answer headway speed
  unfolding answer
  no_column r h q = if_false _ _ _ r n (if_le 6 (column_of speed) _ _ r (subst (λ k. 6 ≤ k) e h) q)

  -- a column: both tables' lengths in it
  pub both_lengths : (p s : Float) (t u : List (List ℕ)) → column < 6 → t ≡ table71 → u ≡ table72 → p ≡ length_in t headway column → s ≡ length_in u headway column
      → ◌≡◌ {A = LengthsAnswer} (record { number = 0; lengths = record { headway = headway; speed = speed; plain = p; stopping = s } }) (answer headway speed)
  unfolding answer
  both_lengths p s t u h i j v w = if_false _ _ _ _ n (if_gt 6 (column_of speed) _ _ _ (subst (λ k. k < 6) e h) (rw (v, w, i, j, e)))
