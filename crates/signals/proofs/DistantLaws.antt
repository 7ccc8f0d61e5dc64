-- What a distant shows, by its carrier, and what that means for a driver (L2).
use Prim.Native.Nat.{ℕ, ◌+◌, ◌-◌}
use mathlib.Core.Path.{◌≡◌, refl, sym, ap, ◌∙◌}
use mathlib.Core.Bool.{Bool, true, false, not, ◌||◌}
use mathlib.Core.Logic.{◌⊎◌, inl, inr, ⊎_elim}
use native.Mathlib.Decide.{ℕ_discrete}
use native.Mathlib.Omega.{arith}
use borrow.Author.Tests.{eq-eqb, ne_eqb, eqb-true}
use lib.Dec.{eqb}
use Rattle.laws.specs.Tests.{◌and◌, ◌or◌}
use Rattle.laws.proofs.Choice.{if_true, if_false, if_both}
use Rattle.laws.proofs.Tests.{and_both, or_left, or_right, or_cases, fails_from}
use Rattle.signals.specs.Aspects.{dark, stop, proceed_diverging, proceed, warns_of_stop, warns_of_diverging, warns_of_proceed}
use Rattle.signals.specs.Distants.{warning, stop_or_dark, carrier_darkens, distant_shows, Warns}

-- ---- the carrier

module _ (shown : ℕ → ℕ) (carrier : ℕ) where
  -- a free-standing distant has none
  pub free_standing : carrier ≡ 0 → false ≡ carrier_darkens shown carrier
  unfolding carrier_darkens ◌and◌
  free_standing e = rw (eq-eqb carrier 0 e)

  -- else what it shows is asked
  pub carrier_asked : (v : ℕ) → (carrier ≡ 0 → ⊥) → v ≡ shown (carrier - 1) → eqb v stop || eqb v dark ≡ carrier_darkens shown carrier
  unfolding carrier_darkens stop_or_dark ◌and◌ ◌or◌
  carrier_asked v d e = rw (ne_eqb carrier 0 d, e)

  -- ---- what it shows, by what the code found of the carrier

  module _ (announced : ℕ) (t : Bool) (q : t ≡ carrier_darkens shown carrier) where
    -- the carrier darkens it
    pub darkened : t ≡ true → dark ≡ distant_shows shown carrier announced
    unfolding distant_shows
    darkened h = if_true _ _ _ dark (sym q ∙ h) refl

    -- it does not: the warning of what is announced
    pub warned : (x v : ℕ) → t ≡ false → x ≡ shown announced → v ≡ warning x → v ≡ distant_shows shown carrier announced
    unfolding distant_shows
    warned x v h e f = if_false _ _ _ v (sym q ∙ h) (f ∙ ap warning e)

-- ---- what that means for a driver

-- a distant that shows v warns of a signal that shows x, or is dark
data Tells (x v : ℕ) : Type 0 where
  tells_stop : x ≡ stop → v ≡ warns_of_stop → Tells x v
  tells_diverging : x ≡ proceed_diverging → v ≡ warns_of_diverging → Tells x v
  tells_proceed : x ≡ proceed → v ≡ warns_of_proceed → Tells x v
  tells_nothing : v ≡ dark → Tells x v

-- the warning does, by the test that decides it
warning_tells : (x : ℕ) → Tells x (warning x)
unfolding warning
warning_tells x =
    if_both (Tells x) _ (λ t. tells_stop (eqb-true x stop t) refl) (λ f.
    if_both (Tells x) _ (λ t. tells_diverging (eqb-true x proceed_diverging t) refl) (λ g.
    if_both (Tells x) _ (λ t. tells_proceed (eqb-true x proceed t) refl) (λ h. tells_nothing refl)))

-- 23 only of 20
tells_stop_law : (x v : ℕ) → Tells x v → v ≡ warns_of_stop → x ≡ stop
tells_stop_law x v (tells_stop p q) e = p
tells_stop_law x v (tells_diverging p q) e = absurd (omega arith)
tells_stop_law x v (tells_proceed p q) e = absurd (omega arith)
tells_stop_law x v (tells_nothing q) e = absurd (omega arith)

-- 24 only of 21
tells_diverging_law : (x v : ℕ) → Tells x v → v ≡ warns_of_diverging → x ≡ proceed_diverging
tells_diverging_law x v (tells_stop p q) e = absurd (omega arith)
tells_diverging_law x v (tells_diverging p q) e = p
tells_diverging_law x v (tells_proceed p q) e = absurd (omega arith)
tells_diverging_law x v (tells_nothing q) e = absurd (omega arith)

-- 25 only of 22
tells_proceed_law : (x v : ℕ) → Tells x v → v ≡ warns_of_proceed → x ≡ proceed
tells_proceed_law x v (tells_stop p q) e = absurd (omega arith)
tells_proceed_law x v (tells_diverging p q) e = absurd (omega arith)
tells_proceed_law x v (tells_proceed p q) e = p
tells_proceed_law x v (tells_nothing q) e = absurd (omega arith)

-- nothing else
tells_only : (x v : ℕ) → Tells x v → (v ≡ dark) ⊎ (v ≡ warns_of_stop) ⊎ (v ≡ warns_of_diverging) ⊎ (v ≡ warns_of_proceed)
tells_only x v (tells_stop p q) = inr (inl q)
tells_only x v (tells_diverging p q) = inr (inr (inl q))
tells_only x v (tells_proceed p q) = inr (inr (inr q))
tells_only x v (tells_nothing q) = inl q

-- a signal at stop or dark is the one or the other
stop_or_dark_law : (x : ℕ) → (x ≡ stop) ⊎ (x ≡ dark) → stop_or_dark x ≡ true
unfolding stop_or_dark
stop_or_dark_law x (inl e) = or_left _ _ (eq-eqb x stop e)
stop_or_dark_law x (inr e) = or_right _ _ (eq-eqb x dark e)

-- and the other way
dark_or_stop : (x : ℕ) → stop_or_dark x ≡ true → (x ≡ stop) ⊎ (x ≡ dark)
unfolding stop_or_dark
dark_or_stop x t = ⊎_elim (λ e. inl (eqb-true x stop e)) (λ e. inr (eqb-true x dark e)) (or_cases _ _ t)

module _ (shown : ℕ → ℕ) (carrier announced : ℕ) where
  -- dark, or the warning of the signal announced
  shows_tells : Tells (shown announced) (distant_shows shown carrier announced)
  unfolding distant_shows
  shows_tells = if_both (Tells (shown announced)) _ (λ t. tells_nothing refl) (λ t. warning_tells (shown announced))

  -- dark on the mast of a signal at stop or dark: there is a carrier, which darkens it
  shows_carried : (k : ℕ) → carrier ≡ k + 1 → (shown k ≡ stop) ⊎ (shown k ≡ dark) → distant_shows shown carrier announced ≡ dark
  unfolding carrier_darkens
  shows_carried k e d =
      let there : carrier ≡ 0 → ⊥ = λ z. omega arith in
      let back : carrier - 1 ≡ k = omega arith in
      sym (darkened shown carrier announced true (sym (and_both _ _ (ap not (ne_eqb carrier 0 there)) (ap (λ j. stop_or_dark (shown j)) back ∙ stop_or_dark_law (shown k) d))) refl)

  -- unless a carrier is at stop or dark it shows the warning of the signal announced: free-standing, or on the mast of another
  pub unless_carried : ((k : ℕ) → carrier ≡ k + 1 → ¬ ((shown k ≡ stop) ⊎ (shown k ≡ dark))) → distant_shows shown carrier announced ≡ warning (shown announced)
  unfolding stop_or_dark ◌or◌
  unless_carried lights = go (ℕ_discrete carrier 0)
    where
      go : Dec (carrier ≡ 0) → distant_shows shown carrier announced ≡ warning (shown announced)
      go (yes z) = sym (warned shown carrier announced false (free_standing shown carrier z) _ _ refl refl refl)
      go (no z) =
          let lit : stop_or_dark (shown (carrier - 1)) ≡ false = fails_from _ (λ t. lights (carrier - 1) (omega arith) (dark_or_stop _ t)) in
          sym (warned shown carrier announced false (sym (sym (carrier_asked shown carrier _ z refl) ∙ lit)) _ _ refl refl refl)

  -- a distant warns as a driver may trust it
  pub distant_warns : Warns shown carrier announced (distant_shows shown carrier announced)
  distant_warns = record {
    of_stop = tells_stop_law _ _ shows_tells;
    of_diverging = tells_diverging_law _ _ shows_tells;
    of_proceed = tells_proceed_law _ _ shows_tells;
    carried = shows_carried;
    only = tells_only _ _ shows_tells;
  }
