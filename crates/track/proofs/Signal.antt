-- Whether a block has a signal for a direction.
use Prim.Native.Nat.{ℕ, ◌+◌}
use mathlib.Core.Path.{◌≡◌, refl, ap₂}
use lib.Dec.{ltb}
use Rattle.laws.proofs.Choice.{if_eq, if_ne}
use Rattle.track.specs.Codes.{a_to_b}
use Rattle.track.specs.Signal.{has_signal}

-- for A to B: block i is not the first
pub has_first : (n i w : ℕ) → w ≡ a_to_b → ltb 0 i ≡ has_signal n i w
unfolding has_signal
has_first n i w e = if_eq w a_to_b _ _ _ e refl

-- else: it is not the last
pub has_last : (n i w x y : ℕ) → (w ≡ a_to_b → ⊥) → x ≡ i → y ≡ n → ltb (x + 1) y ≡ has_signal n i w
unfolding has_signal
has_last n i w x y e p q = if_ne w a_to_b _ _ _ e (ap₂ (λ j m. ltb (j + 1) m) p q)
