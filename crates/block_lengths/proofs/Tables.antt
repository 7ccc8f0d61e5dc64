-- What holds of every entry of the two tables, each by one test that is computed over the table.
use Prim.Native.Nat.{ℕ, ◌+◌, ◌<◌}
use mathlib.Core.Path.{◌≡◌, refl, sym, ap, ◌∙◌}
use mathlib.Core.Bool.{Bool, true}
use mathlib.Core.List.{List, []}
use native.Mathlib.Decide.{ℕ_discrete}
use borrow.Author.Tests.{leb-true, ltb-true}
use lib.Dec.{leb, ltb}
use lib.ListN.{get_or, set}
use lib.Seq.{get_or-set_other}
use Rattle.laws.specs.Tests.{all_below, lowest, lowest_from}
use Rattle.laws.specs.Choice.{when◌then◌else◌}
use Rattle.laws.proofs.Arrays.{set_keeps}
use Rattle.laws.proofs.Tests.{all_at}
use Rattle.block_lengths.specs.Paper.{speeds, row_of, column_of, entry, corrected, printed71, printed72, table71, table72}
use Rattle.block_lengths.specs.Tables.{Rises}

-- a test that passes in each of n rows and 6 columns
passes : ℕ → (ℕ → ℕ → Bool) → Bool
passes n p = all_below n (λ row. all_below 6 (p row))

-- it passes in each of them
passed : (n : ℕ) (p : ℕ → ℕ → Bool) → passes n p ≡ true → (row column : ℕ) → row < n → column < 6 → p row column ≡ true
unfolding passes
passed n p e row column l c = all_at 6 (p row) (all_at n (λ row. all_below 6 (p row)) e row l) column c

-- an entry is at most the one below it
no_higher : List (List ℕ) → ℕ → ℕ → Bool
no_higher t row column = leb (entry t row column) (entry t (row + 1) column)

-- an entry has at most 16 bits
short : List (List ℕ) → ℕ → ℕ → Bool
short t row column = ltb (entry t row column) 65536

-- every entry of a table has at most 16 bits
abbrev pub Short : List (List ℕ) → Type 0
Short t = (row column : ℕ) → row < 9 → column < 6 → entry t row column < 65536

-- a table whose first eight rows pass rises
rising : (t : List (List ℕ)) → passes 8 (no_higher t) ≡ true → Rises t
unfolding Rises no_higher
rising t e row column l c = leb-true (entry t row column) (entry t (row + 1) column) (passed 8 (no_higher t) e row column l c)

-- a table whose nine rows pass is of 16 bits
shortened : (t : List (List ℕ)) → passes 9 (short t) ≡ true → Short t
unfolding short
shortened t e row column l c = ltb-true (entry t row column) 65536 (passed 9 (short t) e row column l c)

-- both tests pass
abbrev Tested : List (List ℕ) → Type 0
Tested t = (passes 8 (no_higher t) ≡ true) × (passes 9 (short t) ≡ true)

-- of both tables, and this is computed
tested : Tested table71 × Tested table72
unfolding no_higher short printed71 printed72 table71 table72 speeds row_of column_of lowest lowest_from when◌then◌else◌ corrected entry all_below passes
tested = ((refl, refl), (refl, refl))

-- so table 7.1 rises
pub rises71 : Rises table71
rises71 = rising table71 tested.0.0

-- and is of 16 bits
pub short71 : Short table71
short71 = shortened table71 tested.0.1

-- table 7.2 rises
pub rises72 : Rises table72
rises72 = rising table72 tested.1.0

-- and is of 16 bits
pub short72 : Short table72
short72 = shortened table72 tested.1.1

-- ---- every other number as it is printed

module _ (t : List (List ℕ)) (r c length row column : ℕ) (e : row ≡ r → column ≡ c → ⊥) where
  -- in another row, or in another column of the misprint's
  elsewhere : Dec (row ≡ r) → entry (corrected t r c length) row column ≡ entry t row column
  unfolding entry corrected
  elsewhere (no d) = ap (λ xs. get_or xs column 0) (get_or-set_other t r row (set (get_or t r []) c length) [] d)
  elsewhere (yes d) =
      set_keeps (λ xs. get_or xs column 0 ≡ get_or (get_or t row []) column 0) t r (set (get_or t r []) c length) [] row refl
      (get_or-set_other (get_or t r []) c column length 0 (e d) ∙ ap (λ k. get_or (get_or t k []) column 0) (sym d))

  -- a correction changes no other number
  as_printed : entry (corrected t r c length) row column ≡ entry t row column
  as_printed = elsewhere (ℕ_discrete row r)

-- so in table 7.1 but for 180 s, 90 km/h
pub as_printed71 : (row column : ℕ) → (row ≡ row_of 180 → column ≡ column_of 90 → ⊥) → entry table71 row column ≡ entry printed71 row column
unfolding table71
as_printed71 row column = as_printed printed71 (row_of 180) (column_of 90) 3030 row column

-- and in table 7.2 but for 180 s, 100 km/h
pub as_printed72 : (row column : ℕ) → (row ≡ row_of 180 → column ≡ column_of 100 → ⊥) → entry table72 row column ≡ entry printed72 row column
unfolding table72
as_printed72 row column = as_printed printed72 (row_of 180) (column_of 100) 2900 row column

-- and there are 3030 and 2900
pub put_right : (entry table71 (row_of 180) (column_of 90) ≡ 3030) × (entry table72 (row_of 180) (column_of 100) ≡ 2900)
unfolding printed71 printed72 table71 table72 speeds row_of column_of lowest lowest_from when◌then◌else◌ corrected entry
put_right = (refl, refl)
