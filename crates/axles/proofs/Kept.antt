-- What an event leaves of the heads.
use Rattle.std.proofs.Common.{◌≡◌, ℕ, eqb, refl}
use Rattle.laws.specs.Choice.{when◌then◌else◌}
use Rattle.laws.proofs.Choice.{if_both}
use Rattle.track.specs.Codes.{reset_axles}
use Rattle.axles.specs.Heads.{head_after, told, with_proof, judged, axles_after}
use Rattle.axles.specs.declared.Head.{Head}
use Rattle.axles.specs.declared.Axles.{Axles}
use Rattle.axles.specs.declared.Said.{Said}

-- the same heads and the same sum, whatever is proved
pub record SameHeads (x y : Axles) : Type 0 where
  pub head0 : x.head0 ≡ y.head0
  pub head1 : x.head1 ≡ y.head1
  pub sum : x.sum ≡ y.sum

-- judging the number changes no head and no sum, whether it proves the reset or not
pub judged_same : (x : Axles) → SameHeads (judged x) x
unfolding judged with_proof
judged_same x = if_both (λ (y : Axles). SameHeads y x) _ (λ t. record { head0 = refl; head1 = refl; sum = refl }) (λ f. record { head0 = refl; head1 = refl; sum = refl })

-- so after an event they are what it tells
pub after_same : (x : Axles) (e : Said) → SameHeads (axles_after x e) (told x e)
unfolding axles_after
after_same x e = judged_same (told x e)

-- a reset leaves each head
pub reset_head : (h : Head) (which : ℕ) (e : Said) → e.kind ≡ reset_axles → head_after h which e ≡ h
unfolding head_after when◌then◌else◌
reset_head h which e p = rw p (if_both (λ (y : Head). y ≡ h) (eqb e.head which) (λ t. refl) (λ f. refl))
