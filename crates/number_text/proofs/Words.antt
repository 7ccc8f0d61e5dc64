-- A word that is a number has digits only.
use Prim.Native.Nat.{ℕ, ◌<◌, ◌≤◌}
use mathlib.Core.Path.{◌≡◌, sym, subst}
use mathlib.Core.Bool.{Bool, true, false, true≢false}
use mathlib.Core.List.{List}
use borrow.Author.Tests.{leb-true}
use lib.Dec.{leb, eqb}
use lib.ListN.{length, get_or}
use Rattle.laws.specs.Choice.{when◌then◌else◌}
use Rattle.laws.proofs.Tests.{all_at, and_left}
use Rattle.number_text.specs.Text.{is_digit}
use Rattle.number_text.specs.Word.{is_number}

-- a choice that holds, of which the first half is false, is the second
second : (t b : Bool) → (when t then false else b) ≡ true → b ≡ true
unfolding when◌then◌else◌
second true b e = absurd (true≢false (sym e))
second false b e = e

-- so each of its bytes is 48 at least
pub digit_least : (word : List ℕ) (n i : ℕ) → is_number word ≡ true → n ≡ length word → i < n → 48 ≤ get_or word i 0
unfolding is_number is_digit
digit_least word n i t e l =
    leb-true 48 (get_or word i 0)
    (and_left (leb 48 (get_or word i 0)) (leb (get_or word i 0) 57) (all_at (length word) (λ k. is_digit (get_or word k 0)) (second (eqb (length word) 0) _ t) i (subst (λ k. i < k) e l)))
