-- The panels that are wrong in distants mislead a driver, or tell him something else than L2 says, by computation; and exactness refuses each.
use Prim.Native.Nat.{ℕ, ◌-◌, ◌<◌}
use mathlib.Core.Path.{◌≡◌, refl}
use mathlib.Core.Logic.{inl, inr, ⊎_elim}
use mathlib.Core.Bool.{Bool, true, not}
use mathlib.Core.List.{List, [], ◌∷◌}
use native.Mathlib.Omega.{arith}
use borrow.Author.Tests.{eqb-true, eqb-false, ltb-true, not-true}
use lib.Dec.{eqb, ltb}
use Rattle.laws.specs.Tests.{◌and◌, ◌or◌, any_below}
use Rattle.laws.proofs.Tests.{and_left, and_right, or_cases, any_some}
use Rattle.signals.specs.Aspects.{dark, stop}
use Rattle.signals.specs.Distants.{distant_shows}
use Rattle.layout.specs.declared.Layout.{Layout}
use Rattle.layout.specs.Layout.{carrier_of, announced_by}
use Rattle.layout_facts.specs.Plain.{CarriedBy}
use Rattle.panel.specs.Distants.{number_read, DistantsWarn}
use Rattle.panel.proofs.DistantLaws.{shows_warn}
use Rattle.safety.specs.History.{History, shown}
use Rattle.safety.specs.Exact.{Exact}
use Rattle.safety.specs.WrongDistants.{Fault, permissive, lit_at_stop, unlike, Misled, DrawnRun, misleading}
use Rattle.safety.proofs.Computed.{run_computed, distants_computed}

-- ---- exactness refuses what misleads

module _ (L : Layout) (h : History) (X : Exact L h) where
  -- an exact distant warns as a driver may trust it
  warns : DistantsWarn L (shown L h)
  warns = shows_warn L (shown L h) X.distants

  -- so it misleads nobody
  pub none_misled : (f : Fault) → Misled f L h → ⊥
  unfolding CarriedBy
  none_misled permissive (d, b, m) = ⊎_elim (λ p. p.1 ((warns d b).of_diverging p.0)) (λ p. p.1 ((warns d b).of_proceed p.0)) m
  none_misled lit_at_stop (d, b, k, e, c, lit) = lit ((warns d b).carried k e c)
  none_misled unlike (d, b, other) = other (X.distants d b)

-- ---- tests

module _ (L : Layout) (h : History) where
  -- what shows of the signal of each number
  abbrev numbered : ℕ → ℕ
  numbered = number_read L (shown L h)

  -- some distant is so
  abbrev misled_test : Fault → Bool
  misled_test permissive =
      any_below L.distants (λ d. (eqb ((shown L h).distant d) 24 and not (eqb (numbered (announced_by L d)) 21)) or (eqb ((shown L h).distant d) 25 and not (eqb (numbered (announced_by L d)) 22)))
  misled_test lit_at_stop =
      any_below L.distants (λ d. ltb 0 (carrier_of L d) and ((eqb (numbered (carrier_of L d - 1)) stop or eqb (numbered (carrier_of L d - 1)) dark) and not (eqb ((shown L h).distant d) dark)))
  misled_test unlike = any_below L.distants (λ d. not (eqb ((shown L h).distant d) (distant_shows numbered (carrier_of L d) (announced_by L d))))

  -- where the test says so
  is_misled : (f : Fault) → misled_test f ≡ true → Misled f L h
  unfolding CarriedBy
  is_misled permissive t =
      let (d, b, u) = any_some _ _ t in (
        d,
        b,
        ⊎_elim (λ v. inl (eqb-true _ 24 (and_left _ _ v), eqb-false _ 21 (not-true _ (and_right _ _ v))))
            (λ v. inr (eqb-true _ 25 (and_left _ _ v), eqb-false _ 22 (not-true _ (and_right _ _ v)))) (or_cases _ _ u),
      )
  is_misled lit_at_stop t =
      let (d, b, u) = any_some _ _ t in
      let some : 0 < carrier_of L d = ltb-true 0 _ (and_left _ _ u) in
      let v = and_right _ _ u in (
        d,
        b,
        carrier_of L d - 1,
        omega arith,
        ⊎_elim (λ w. inl (eqb-true _ stop w)) (λ w. inr (eqb-true _ dark w)) (or_cases _ _ (and_left _ _ v)),
        eqb-false _ dark (not-true _ (and_right _ _ v)),
      )
  is_misled unlike t = let (d, b, u) = any_some _ _ t in (d, b, eqb-false _ _ (not-true _ u))

-- ---- the runs

-- what is true of each case of a list
abbrev pub EachDrawnRun : (DrawnRun → Type 0) → List DrawnRun → Type 0
EachDrawnRun P [] = Unit {0}
EachDrawnRun P (c ∷ cs) = P c × EachDrawnRun P cs

-- each passes the test
abbrev passes : Fault → List DrawnRun → Bool
passes f [] = true
passes f (c ∷ cs) = misled_test c.layout c.history f and passes f cs

-- and so is as it says
each_misled : (f : Fault) (cs : List DrawnRun) → passes f cs ≡ true → EachDrawnRun (λ c. Misled f c.layout c.history) cs
each_misled f [] t = tt
each_misled f (c ∷ cs) t = (is_misled c.layout c.history f (and_left _ _ t), each_misled f cs (and_right _ _ t))

-- computed
tested : (f : Fault) → passes f (misleading f) ≡ true
unfolding run_computed distants_computed
tested permissive = refl
tested lit_at_stop = refl
tested unlike = refl

-- after each of the runs a driver is misled
pub wrong_distants_mislead : (f : Fault) → EachDrawnRun (λ c. Misled f c.layout c.history) (misleading f)
wrong_distants_mislead f = each_misled f (misleading f) (tested f)
