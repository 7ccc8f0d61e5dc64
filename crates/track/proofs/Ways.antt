-- The direction in which a train leaves an end.
use Prim.Native.Nat.{ℕ, ◌≤◌}
use mathlib.Core.Path.{◌≡◌, refl}
use mathlib.Core.Logic.{◌≢◌, ◌⊎◌, inl, inr, ⊎_elim}
use native.Mathlib.Omega.{arith}
use borrow.Author.Tests.{eqb-true, eqb-false}
use lib.Dec.{eqb}
use Rattle.laws.proofs.Choice.{if_both}
use Rattle.track.specs.Codes.{leaving}

-- it is one of the two
pub leaving_two : (end : ℕ) → (leaving end ≡ 1) ⊎ (leaving end ≡ 2)
unfolding leaving
leaving_two end = if_both (λ w. (w ≡ 1) ⊎ (w ≡ 2)) (eqb end 0) (λ t. inl refl) (λ f. inr refl)

-- so it is not neutral
pub leaving_some : (end : ℕ) → leaving end ≢ 0
leaving_some end z = ⊎_elim (λ q. omega arith) (λ q. omega arith) (leaving_two end)

-- and from each of the two ends another
pub leaving_once : (a b : ℕ) → a ≤ 1 → b ≤ 1 → leaving a ≡ leaving b → a ≡ b
unfolding leaving
leaving_once a b few fewer =
    if_both (λ w. w ≡ leaving b → a ≡ b) (eqb a 0)
    (λ t. if_both (λ w. 1 ≡ w → a ≡ b) (eqb b 0) (λ u q. let x = eqb-true a 0 t in let y = eqb-true b 0 u in omega arith) (λ u q. absurd (omega arith)))
    (λ t. if_both (λ w. 2 ≡ w → a ≡ b) (eqb b 0) (λ u q. absurd (omega arith)) (λ u q. let x = eqb-false a 0 t in let y = eqb-false b 0 u in omega arith))
