-- What lies beyond a block, and the section there, a case at each return of the code.
use Prim.Native.Nat.{ℕ, ◌+◌, ◌-◌, ◌<◌, ◌≤◌}
use mathlib.Core.Path.{◌≡◌, refl, ◌∙◌}
use native.Mathlib.Omega.{arith}
use borrow.Author.Rules.{rules}
use Rattle.laws.specs.Choice.{when◌then◌else◌}
use lib.Dec.{eqb}
use Rattle.laws.proofs.Choice.{if_eq, if_ne, if_lt, if_ge, if_both, chosen, passed_over}
use Rattle.track.specs.declared.Line.{Line}
use Rattle.track.specs.Codes.{end_a, end_b, a_to_b}
use Rattle.track.specs.Objects.{nearest}
use Rattle.passage.specs.declared.Beyond.{Beyond}
use Rattle.passage.specs.declared.Beyond.TheVariants.{Block, Station}
use Rattle.passage.specs.Passage.{beyond, from_arrival}

-- the block nearest B is the last
last : (b : Line) → nearest b end_b ≡ b.blocks - 1
unfolding nearest when◌then◌else◌
last b = refl

module _ (b : Line) (i w m : ℕ) (r : Beyond) where
  -- from A to B, before the last block: the next one
  pub beyond_up : w ≡ a_to_b → m ≡ nearest b end_b → i < m → r ≡ Block (i + 1) → r ≡ beyond b i w
  unfolding beyond
  beyond_up h e l q = if_eq w a_to_b _ _ r h (if_lt (i + 1) b.blocks _ _ r (omega (arith, last b)) q)

  -- from A to B, at the last block: the station at B
  pub beyond_last : w ≡ a_to_b → m ≡ nearest b end_b → m ≤ i → r ≡ Station end_b → r ≡ beyond b i w
  unfolding beyond
  beyond_last h e l q = if_eq w a_to_b _ _ r h (if_ge (i + 1) b.blocks _ _ r (omega (arith, last b)) q)

  -- from B to A, at the first block: the station at A
  pub beyond_first : (w ≡ a_to_b → ⊥) → i ≡ 0 → r ≡ Station end_a → r ≡ beyond b i w
  unfolding beyond
  beyond_first h z q = if_ne w a_to_b _ _ r h (if_eq i 0 _ _ r z q)

  -- from B to A, after the first block: the one before it
  pub beyond_down : (w ≡ a_to_b → ⊥) → (i ≡ 0 → ⊥) → r ≡ Block (i - 1) → r ≡ beyond b i w
  unfolding beyond
  beyond_down h z q = if_ne w a_to_b _ _ r h (if_ne i 0 _ _ r z q)

module _ (b : Line) (w i : ℕ) (c : i < b.blocks) where
  -- a block counted from the arrival end is a block
  pub counted_below : from_arrival b w i < b.blocks
  unfolding from_arrival
  counted_below = if_both (λ n. n < b.blocks) (eqb w a_to_b) (λ t. omega arith) (λ f. c)

  -- and counted so twice it is itself
  pub counted_twice : from_arrival b w (from_arrival b w i) ≡ i
  unfolding from_arrival
  counted_twice = if_both (λ n. (when eqb w a_to_b then b.blocks - (n + 1) else n) ≡ i) (eqb w a_to_b) (λ t. chosen _ _ _ t ∙ omega arith) (λ f. passed_over _ _ _ f)

-- for what lies beyond a block
pub ruleset beyonds = (rules, beyond_up, beyond_last, beyond_first, beyond_down)
