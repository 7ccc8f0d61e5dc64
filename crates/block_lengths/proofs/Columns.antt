-- The first of a list that passes is the lowest number whose entry does.
use Prim.Native.Nat.{ℕ, suc, ◌+◌, ◌<◌, ◌≤◌}
use mathlib.Core.Path.{◌≡◌, refl, sym, ap, ◌∙◌}
use mathlib.Core.Bool.{Bool, true, false, not}
use mathlib.Core.List.{List, [], ◌∷◌}
use native.Mathlib.Nat.{zero-add}
use native.Mathlib.Omega.{arith}
use borrow.Author.Tests.{eq-eqb, eqb-true, ltb-true, ltb-false}
use lib.Dec.{eqb, ltb}
use lib.ListN.{length, get_or}
use Rattle.std.specs.Prelude.{Option, Some, None, cond}
use Rattle.std.specs.List.{prefix_len, position_or_len, position}
use Rattle.laws.specs.Choice.{when◌then◌else◌}
use Rattle.laws.specs.Tests.{lowest, lowest_from}
use Rattle.laws.proofs.Choice.{Is, holds, fails, which}
use Rattle.laws.proofs.Tests.{alike}
use Rattle.laws.proofs.Searches.{from_here, from_next}
use Rattle.block_lengths.specs.Paper.{speeds, column_of}
use Rattle.block_lengths.specs.Told.{column_found}

-- the first passes, and nothing is before it; or it fails, and it is before what is found from the next on
at_first : (p : ℕ → Bool) (x : ℕ) (xs : List ℕ) (i : ℕ) (q : ℕ → Bool) → q i ≡ p x → lowest_from (length xs) (suc i) q ≡ suc i + prefix_len (λ y. not (p y)) xs
    → Is (p x) → lowest_from (suc (length xs)) i q ≡ i + prefix_len (λ y. not (p y)) (x ∷ xs)
at_first p x xs i q h later (holds e) = from_here (length xs) i q (h ∙ e) ∙ rw e (omega arith)
at_first p x xs i q h later (fails e) = from_next (length xs) i q (h ∙ e) ∙ later ∙ rw e (omega arith)

-- looked for from i on, it is as far on as there are entries before it that fail
from : (p : ℕ → Bool) (xs : List ℕ) (i : ℕ) (q : ℕ → Bool) → ((k : ℕ) → q (i + k) ≡ p (get_or xs k 0))
    → lowest_from (length xs) i q ≡ i + prefix_len (λ x. not (p x)) xs
unfolding lowest_from
from p [] i q h = omega arith
from p (x ∷ xs) i q h =
    at_first p x xs i q (ap q (omega arith) ∙ h 0) (from p xs (suc i) q (λ k. ap q (omega arith) ∙ h (suc k))) (which (p x))

-- the two forms of a choice are one
same_choice : (t : Bool) (n : ℕ) → cond t (Some n) None ≡ when t then Some n else None
unfolding when◌then◌else◌
same_choice true n = refl
same_choice false n = refl

-- there are six speeds
six : length speeds ≡ 6
unfolding speeds
six = refl

-- the first of them that is the one asked for is the lowest
first_lowest : (speed : ℕ) → position_or_len (λ own. eqb own speed) speeds ≡ column_of speed
unfolding column_of lowest
first_lowest speed =
    let p : ℕ → Bool = λ k. eqb speed (get_or speeds k 0) in
    let same : (k : ℕ) → eqb speed (get_or speeds k 0) ≡ eqb (get_or speeds k 0) speed =
    λ k. alike (eqb speed (get_or speeds k 0)) (eqb (get_or speeds k 0) speed) (λ t. eq-eqb (get_or speeds k 0) speed (sym (eqb-true speed (get_or speeds k 0) t)))
    (λ t. eq-eqb speed (get_or speeds k 0) (sym (eqb-true (get_or speeds k 0) speed t))) in
    sym (zero-add _) ∙ sym (from (λ own. eqb own speed) speeds 0 p (λ k. ap p (zero-add k) ∙ same k)) ∙ ap (λ n. lowest_from n 0 p) six

-- so it is the column
pub first_found : (speed : ℕ) (r : Option ℕ) → r ≡ position (λ own. eqb own speed) speeds → r ≡ column_found (column_of speed)
unfolding column_found
first_found speed r e =
    e ∙ ap (λ n. cond (ltb (position_or_len (λ own. eqb own speed) speeds) n) (Some (position_or_len (λ own. eqb own speed) speeds)) None) six
    ∙ ap (λ k. cond (ltb k 6) (Some k) None) (first_lowest speed) ∙ same_choice (ltb (column_of speed) 6) (column_of speed)

-- a number that is told is the one below 6, and none is told of one from 6 on
is_told : (t : Bool) (k : ℕ) {column : ℕ} → (when t then Some k else None) ≡ Some column → (column ≡ k) × (t ≡ true)
unfolding when◌then◌else◌
is_told true k e = (cc, refl)
is_told false k e = cc

none_told : (t : Bool) (k : ℕ) → ◌≡◌ {A = Option ℕ} (when t then Some k else None) None → t ≡ false
unfolding when◌then◌else◌
none_told true k e = cc
none_told false k e = refl

module _ (k : ℕ) where
  -- so a column that is found is one of the six
  pub column_is : {column : ℕ} → column_found k ≡ Some column → (column ≡ k) × (column < 6)
  unfolding column_found
  column_is e = let t = is_told (ltb k 6) k e in (t.0, omega (arith, t.0, ltb-true k 6 t.1))

  -- and where none is found it is none
  pub column_none : column_found k ≡ None → 6 ≤ k
  unfolding column_found
  column_none e = ltb-false k 6 (none_told (ltb k 6) k e)
