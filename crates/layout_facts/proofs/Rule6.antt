-- The test of rule 6 means what the rule says.
use Prim.Native.Nat.{ℕ, ◌<◌}
use mathlib.Core.Path.{◌≡◌, refl, sym, ◌∙◌}
use mathlib.Core.Bool.{true}
use mathlib.Core.Logic.Iff
use mathlib.Core.Logic.{◌↔◌, ◌≢◌, ◌⊎◌, inl, inr, ⊎_elim}
use native.Mathlib.Omega.{arith}
use Rattle.track.specs.Sizes.{most_sections}
use Rattle.rules.specs.Rules.{has_point, clashes}
use Rattle.layout.specs.declared.Layout.{Layout}
use Rattle.layout.specs.Layout.{route_in}
use Rattle.layout.specs.Rules.{rule6}
use Rattle.layout_facts.specs.Plain.{path, route_point, route_position, Ranges, Conflicts, Clash, same_entry, common_path, common_point, Rule6}
use Rattle.layout_facts.proofs.Means.{eqb_means, and_means, or_means, implies_means, all_means, any_means}
use Rattle.layout_facts.proofs.Order.{either_order}
use Rattle.layout_facts.proofs.Lists.{share_means}
use Rattle.layout_facts.proofs.Rules.{in_path_means}

-- point p is one of route r, in position w
abbrev HasPoint : Layout → ℕ → ℕ → ℕ → Type 0
HasPoint L w r p = (i : ℕ) × (i < (route_in L r).points) × ((route_position L r i ≡ w) × (route_point L r i ≡ p))

-- the test for such a point
point_means : (L : Layout) (w r p : ℕ) → has_point w (route_in L r) p ≡ true ↔ HasPoint L w r p
unfolding has_point route_position route_point
point_means L w r p = any_means (λ i l. and_means (eqb_means _ _) (eqb_means _ _))

-- some point is one of route r in position v and of route q in position w
abbrev Crossed : Layout → ℕ → ℕ → ℕ → ℕ → Type 0
Crossed L v w r q = (p : ℕ) × HasPoint L v r p × HasPoint L w q p

-- where these positions differ, the routes clash
crossed : (L : Layout) (v w r q : ℕ) → v ≢ w → Crossed L v w r q → Clash L r q
crossed L v w r q d (p, (i, hi, (a, e)), (j, hj, (b, f))) = common_point i j hi hj (e ∙ sym f) (λ same. d (sym a ∙ same ∙ b))

-- two routes clash either way round
turned : (L : Layout) (r q : ℕ) → Clash L r q → Clash L q r
turned L r q (same_entry e) = same_entry (sym e)
turned L r q (common_path i j hi hj e) = common_path j i hj hi (sym e)
turned L r q (common_point i j hi hj e d) = common_point j i hj hi (sym e) (λ f. d (sym f))

module _ (L : Layout) (R : Ranges L) where
  -- a common point in different positions is left in one route and right in the other
  sides : (r q i j : ℕ) → r < L.routes → q < L.routes → i < (route_in L r).points → j < (route_in L q).points → route_point L r i ≡ route_point L q j
      → route_position L r i ≢ route_position L q j → Crossed L 1 2 r q ⊎ Crossed L 2 1 r q
  sides r q i j hr hq hi hj e d = go ((R.routes r hr).positions i hi) ((R.routes q hq).positions j hj)
    where
      go : route_position L r i ≡ 1 ⊎ route_position L r i ≡ 2 → route_position L q j ≡ 1 ⊎ route_position L q j ≡ 2 → Crossed L 1 2 r q ⊎ Crossed L 2 1 r q
      go (inl a) (inl b) = absurd (d (a ∙ sym b))
      go (inl a) (inr b) = inl (route_point L r i, (i, hi, (a, refl)), (j, hj, (b, sym e)))
      go (inr a) (inl b) = inr (route_point L r i, (i, hi, (a, refl)), (j, hj, (b, sym e)))
      go (inr a) (inr b) = absurd (d (a ∙ sym b))

  -- a route's point is one that `share` looks through
  point_few : (w r : ℕ) → r < L.routes → (p : ℕ) → HasPoint L w r p → p < most_sections
  point_few w r hr p (i, hi, (a, e)) = let b = (R.routes r hr).points i hi in omega arith

  -- the same entry signal, a common path section, or a common point in different positions
  clashes_means : (r q : ℕ) → r < L.routes → q < L.routes → clashes (route_in L r) (route_in L q) ≡ true ↔ Clash L r q
  unfolding clashes
  clashes_means r q hr hq =
      Iff.trans (or_means (eqb_means _ _)
      (or_means (share_means (in_path_means L r) (in_path_means L q) (λ g (j, hj, e). let b = (R.routes r hr).paths j hj in omega arith))
      (or_means (share_means (point_means L 1 r) (point_means L 2 q) (point_few 1 r hr))
      (share_means (point_means L 2 r) (point_means L 1 q) (point_few 2 r hr))))) (
        ⊎_elim same_entry (⊎_elim (λ (g, (i, hi, e), (j, hj, f)). common_path i j hi hj (e ∙ sym f))
            (⊎_elim (crossed L 1 2 r q (omega arith)) (crossed L 2 1 r q (omega arith)))),
        elim [
          | same_entry e ↦ inl e
          | common_path i j hi hj e ↦ inr (inl (path L r i, (i, hi, refl), (j, hj, sym e)))
          | common_point i j hi hj e d ↦ inr (inr (sides r q i j hr hq hi hj e d))
        ],
      )

  -- two such routes are listed as conflicting
  pub rule6_means : Conflicts L → rule6 L ≡ true ↔ Rule6 L
  unfolding rule6
  rule6_means C =
      Iff.trans (all_means (λ r hr. all_means (λ q l. implies_means (clashes_means r q hr (omega arith)) Iff.rfl))) (
        λ h. record { listed = either_order (λ r q hr hq f c. C.both_ways r q hr hq (f (turned L q r c))) h },
        λ s r hr q l. s.listed r q hr (omega arith) (omega arith),
      )
