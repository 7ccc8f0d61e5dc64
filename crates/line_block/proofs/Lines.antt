-- So many lines, but no more than the tables hold.
use Prim.Native.Nat.{ℕ, ◌*◌, ◌≤◌}
use mathlib.Core.Path.{◌≡◌, refl, sym}
use mathlib.Core.List.{List}
use native.Mathlib.Omega.{arith}
use borrow.Author.Tests.{leb-true}
use lib.Dec.{leb}
use lib.ListN.{length}
use Rattle.laws.proofs.Choice.{if_both, if_le}
use Rattle.track.specs.Sizes.{most_lines, most_blocks, most_places}
use Rattle.line_block.specs.Entries.{few_lines}

-- the tables hold them
pub few_fit : (m k : ℕ) → k ≡ few_lines m → k ≤ most_lines
unfolding few_lines
few_fit m k e = rw e (if_both (λ x. x ≤ most_lines) (leb m most_lines) (λ t. leb-true m most_lines t) (λ t. omega arith))

-- they are all where the tables hold them all
pub few_all : (m : ℕ) → m ≤ most_lines → few_lines m ≡ m
unfolding few_lines
few_all m l = sym (if_le m most_lines _ _ m l refl)

-- a table of all places holds their blocks
pub few_long : (m k : ℕ) (xs : List ℕ) → k ≡ few_lines m → length xs ≡ most_places → most_blocks * k ≤ length xs
few_long m k xs e q = omega (arith, few_fit m k e)
