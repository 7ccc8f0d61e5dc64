-- What main signals and block signals show is what the history tells (section 4).
use Prim.Native.Nat.{ℕ, ◌+◌, ◌<◌}
use mathlib.Core.Path.{◌≡◌, sym, ap, ◌∙◌}
use mathlib.Core.Logic.{◌≢◌, ◌⊎◌, ◌↔◌, inl, inr}
use mathlib.Core.Bool.{Bool, true}
use native.Mathlib.Decide.{ℕ_discrete}
use native.Mathlib.Omega.{arith}
use borrow.Author.Tests.{eqb-true, eq-eqb, ne_eqb, ltb-true, lt-ltb}
use lib.Dec.{eqb, ltb}
use Rattle.laws.specs.Choice.{when◌then◌else◌}
use Rattle.laws.specs.Tests.{◌and◌, lowest}
use Rattle.laws.proofs.Choice.{chosen, passed_over}
use Rattle.laws.proofs.Searches.{lowest_some, lowest_holds}
use Rattle.laws.proofs.Tests.{and_left, and_right, and_both, fails_from, any_at, any_some}
use Rattle.track.specs.Signal.{main, into, has_signal}
use Rattle.signals.specs.Signals.{enterable, route_proceeds, main_proceeds}
use Rattle.signals.specs.MainSignals.{proceed_shown, shown_by, shown_for, main_shows}
use Rattle.signals.specs.BlockSignals.{light_shown, block_shows}
use Rattle.signals.proofs.Shows.{main_shows_law, main_stops}
use Rattle.layout.specs.declared.Layout.{Layout}
use Rattle.layout.specs.Layout.{line_in, route_in}
use Rattle.layout_facts.specs.Plain.{Sound, same_entry}
use Rattle.interlocking.specs.declared.State.{State}
use Rattle.panel.specs.Shown.{Panel}
use Rattle.safety.specs.History.{History, shown}
use Rattle.safety.specs.Cleared.{Proceeds}
use Rattle.safety.specs.Lights.{MayEnter, Lit, AtProceed}
use Rattle.safety.specs.Exact.{BlockSignalExact, MainSignalExact}
use Rattle.step_facts.proofs.Entries.{phase, direction}
use Rattle.panel.proofs.Image.{shows_main, shows_into}
use Rattle.safety.proofs.Signals.{main_shown}
use Rattle.safety.proofs.Invariant.{Inv}
use Rattle.safety.proofs.Lights.{SignalsTold, enter_means}

-- ---- a search that finds something

-- ---- main signals

module _ (L : Layout) (s : State) (h : History) (I : Inv L s h) where
  -- a route's phase is proceed just where its signal is at proceed: it is locked, was not cancelled and did not fall
  pub proceed_means : (r : ℕ) → r < L.routes → (phase s r ≡ 1 ↔ AtProceed L r h)
  proceed_means r b = (
    λ z. record {
      locked = (I.routes r b).locks.0 (omega arith);
      standing = λ c. let three = ((I.routes r b).cancels (omega arith)).1 c in omega arith;
      not_fallen = (I.upright r b (omega arith) (omega arith)).0 z;
    },
    λ a.
        let locked = (I.routes r b).locks.1 a.locked in
        (I.upright r b locked (λ z. a.standing (((I.routes r b).cancels locked).0 z))).1 a.not_fallen,
  )

  -- a main signal shows proceed for a route in phase 1 that starts at it
  pub main_for : (x : ℕ) → Proceeds (shown L h) (main x) → (r : ℕ) × (r < L.routes) × (phase s r ≡ 1) × ((route_in L r).entry ≡ x)
  unfolding main_proceeds route_proceeds route_in
  main_for x p =
      let (r, there, t) = any_some _ _ (main_shown L s x (rw I.seen at p)) in
      (r, there, eqb-true _ 1 (and_left _ _ t), eqb-true _ x (and_right _ _ t))

  module _ (S : Sound L) (x : ℕ) (b : x < L.signals) where
    -- what it shows
    byte : (shown L h).signal (main x) ≡ main_shows L.routes L.route s.phase x
    byte = ap (λ (p : Panel). p.signal (main x)) I.seen ∙ shows_main L s x b

    -- a route that starts at it and is at proceed puts it to proceed
    up : (r : ℕ) → r < L.routes → (route_in L r).entry ≡ x → phase s r ≡ 1 → main_proceeds L.routes L.route s.phase x ≡ true
    unfolding main_proceeds route_proceeds route_in
    up r c q z = any_at _ _ r c (and_both _ _ (eq-eqb _ 1 z) (eq-eqb _ x q))

    -- and is the one whose light it shows: by rule 6 two locked routes that start at one signal are one
    light : (r : ℕ) → r < L.routes → (route_in L r).entry ≡ x → phase s r ≡ 1
        → main_shows L.routes L.route s.phase x ≡ when eqb (route_in L r).diverging 1 then 21 else 22
    unfolding main_shows shown_for shown_by proceed_shown main_proceeds route_proceeds route_in
    light r c q z = chosen _ _ _ some ∙ ap (λ k. when eqb (route_in L k).diverging 1 then 21 else 22) (same (ℕ_discrete lamp r))
      where
        test : ℕ → Bool
        test k = eqb (phase s k) 1 and eqb (route_in L k).entry x

        lamp : ℕ
        lamp = lowest L.routes test

        some : ltb lamp L.routes ≡ true
        some = lowest_some _ _ ∙ up r c q z

        there : lamp < L.routes
        there = ltb-true _ _ some

        found : test lamp ≡ true
        found = lowest_holds _ _ there

        same : Dec (lamp ≡ r) → lamp ≡ r
        same (yes k) = k
        same (no d) =
            let one : phase s lamp ≡ 1 = eqb-true _ 1 (and_left _ _ found) in
            absurd (I.apart lamp r there c (S.rule6.listed lamp r there c d (same_entry (eqb-true _ x (and_right _ _ found) ∙ sym q)))
            (λ k. omega arith) (λ k. omega arith))

    -- it shows proceed, and which, just where the history tells it
    pub main_exact : MainSignalExact L h x
    main_exact = record {
      proceeds = (
        λ p. let (r, there, one, starts) = main_for x p in (r, there, starts, (proceed_means r there).0 one),
        λ (r, there, starts, a). rises (up r there starts ((proceed_means r there).1 a)),
      );
      light = λ r c q a. byte ∙ light r c q ((proceed_means r c).1 a);
      stops = λ n. byte ∙ main_stops L.routes L.route s.phase x (fails_from _ (λ t. n (rises t)));
    }
      where
        rises : main_proceeds L.routes L.route s.phase x ≡ true → Proceeds (shown L h) (main x)
        rises t = rw byte (ltb-true 20 _ (main_shows_law L.routes L.route s.phase x ∙ t))

-- ---- block signals

module _ (L : Layout) (S : Sound L) (s : State) (h : History) (I : Inv L s h) (l i w : ℕ) (b : l < L.lines) (c : i < (line_in L l).blocks) (way : (w ≡ 1) ⊎ (w ≡ 2)) where
  -- it is lit just where its line is secured its way and it stands between blocks
  lit_means : eqb (direction s l) w and has_signal (line_in L l).blocks i w ≡ true ↔ Lit L l i w h
  unfolding has_signal
  lit_means = (
    λ t. record {
      secured = (I.lines l b w (one way)).0 (eqb-true _ w (and_left _ _ t));
      upward = λ q. ltb-true 0 i (sym (chosen _ _ _ (eq-eqb w 1 q)) ∙ and_right _ _ t);
      downward = λ q. ltb-true (i + 1) _ (sym (passed_over _ _ _ (ne_eqb w 1 (omega arith))) ∙ and_right _ _ t);
    },
    λ k. and_both _ _ (eq-eqb _ w ((I.lines l b w (one way)).1 k.secured)) (has k way),
  )
    where
      one : (w ≡ 1) ⊎ (w ≡ 2) → w ≢ 0
      one (inl q) z = omega arith
      one (inr q) z = omega arith

      has : Lit L l i w h → (w ≡ 1) ⊎ (w ≡ 2) → has_signal (line_in L l).blocks i w ≡ true
      has k (inl q) = chosen _ _ _ (eq-eqb w 1 q) ∙ lt-ltb 0 i (k.upward q)
      has k (inr q) = passed_over _ _ _ (ne_eqb w 1 (omega arith)) ∙ lt-ltb (i + 1) _ (k.downward q)

  -- it shows 22, 20 or dark as the history tells it
  pub block_signal_exact : BlockSignalExact L h l i w
  unfolding light_shown block_shows line_in
  block_signal_exact = record {
    proceeds = λ k m. lamp ∙ chosen _ _ _ (lit_means.1 k) ∙ chosen _ _ _ (enters.1 m);
    stops = λ k n. lamp ∙ chosen _ _ _ (lit_means.1 k) ∙ passed_over _ _ _ (fails_from _ (λ t. n (enters.0 t)));
    darkens = λ n. lamp ∙ passed_over _ _ _ (fails_from _ (λ t. n (lit_means.0 t)));
  }
    where
      lamp : (shown L h).signal (into l i w) ≡ block_shows L.line s.direction s.point s.stage s.bar l i w
      lamp = ap (λ (p : Panel). p.signal (into l i w)) I.seen ∙ shows_into L s l i w b c way

      told : SignalsTold L s h
      told = record { reads = I.reads; points = I.points; bars = I.bars; opens = λ k j d f. (I.blocks k j d f).opens }

      enters : enterable L.line s.point s.stage s.bar l i ≡ true ↔ MayEnter L l i h
      enters = enter_means L S s h told l i b c
