-- The one section that a block has today.
use Prim.Native.Nat.{ℕ}
use mathlib.Core.Path.{◌≡◌, refl}
use mathlib.Core.Bool.{true}
use borrow.Author.Tests.{eqb-true, eq-eqb}
use Rattle.track.specs.declared.Line.{Line}
use Rattle.track.specs.Blocks.{only_section, in_block}

-- it belongs to the block
pub only_in : (b : Line) (i : ℕ) → in_block b i (only_section b i) ≡ true
unfolding in_block
only_in b i = eq-eqb (only_section b i) _ refl

-- and no other does
pub in_only : (b : Line) (i g : ℕ) → in_block b i g ≡ true → only_section b i ≡ g
unfolding in_block
in_only b i g h = eqb-true (only_section b i) g h
