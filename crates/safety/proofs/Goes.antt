-- A locked route goes just where the history tells so (section 6): by a train, or by the 90th second since it was cancelled.
use Prim.Native.Nat.{ℕ, ◌+◌, ◌<◌, ◌≤◌}
use mathlib.Core.Path.{◌≡◌, refl, sym, ap, ◌∙◌}
use mathlib.Core.Logic.Iff
use mathlib.Core.Logic.{◌≢◌, ◌⊎◌, ◌↔◌, inl, inr}
use mathlib.Core.Bool.{true}
use mathlib.Core.List.{◌∷◌}
use native.Mathlib.Decide.{dec_lt}
use native.Mathlib.Omega.{arith}
use borrow.Author.Tests.{eqb-true, eq-eqb, le-leb, leb-true, lt-ltb}
use lib.Dec.{eqb, leb}
use Rattle.laws.specs.Tests.{◌and◌}
use Rattle.laws.proofs.Tests.{and_left, and_right, and_both, or_left, or_right, or_cases, not_both, fails_from}
use Rattle.track.specs.Sizes.{most_train_routes}
use Rattle.release.specs.Release.{vacated, seconds_after}
use Rattle.release.specs.Release as release
use Rattle.layout.specs.declared.Layout.{Layout}
use Rattle.layout.specs.Layout.{route_in}
use Rattle.layout.specs.Sound.{sound}
use Rattle.layout_facts.specs.Plain.{Sound}
use Rattle.interlocking.specs.declared.State.{State}
use Rattle.interlocking.specs.State.{in_range}
use Rattle.interlocking.specs.Step.{refusal}
use Rattle.step_facts.specs.Run.{Event}
use Rattle.step_facts.proofs.Range.{in_range_means, read_within}
use Rattle.safety.specs.History.{Moment, History, Second, Since}
use Rattle.safety.specs.Locked.{Cancelled, seconds_since, ByTime, Goes}
use Rattle.laws.proofs.Choice.{Is, holds, fails, which, passed_over, chosen}
use Rattle.step_facts.proofs.Entries.{phase, steps_of, seconds_of}
use Rattle.step_facts.proofs.Within.{On, done, lit}
use Rattle.safety.proofs.Given.{granted}
use Rattle.safety.proofs.Steps.{Steps, steps_on}
use Rattle.safety.proofs.Invariant.{Inv, RouteTold}
use Rattle.safety.proofs.LetGo.{OwnRoute, set, cancel, keep, own_route, lit_cancelling, given_by, steps_then, goes_then, pair_told_law, vacated_told}
use Rattle.safety.proofs.Seconds.{tick_told, since_cancel, since_second, since_else}

-- a route that is locked, and is not set by the event
module _ (L : Layout) (S : Sound L) (s : State) (h : History) (I : Inv L s h) (e : Event)
    (pass : (refusal (sound L and in_range s) L s e.kind e.first e.second).number ≡ 0) (r : ℕ) (b : r < L.routes) (locked : phase s r ≢ 0)
    (n : ¬ On 4 e r) where
  -- the moment of the event
  abbrev now : Moment
  now = granted L s e

  -- there are no more routes than the tables hold
  few : L.routes ≤ most_train_routes
  few = S.ranges.route_count

  -- what was told of the route
  was : RouteTold L s h r
  was = I.routes r b

  -- it is cancelling just where it was cancelled since it was set: by this event, or before
  pub cancelled_then : phase (lit L s e) r ≡ 3 ↔ Cancelled r (now ∷ h)
  unfolding Since
  cancelled_then = Iff.trans (lit_cancelling L few s e r b) (go (own_route L few s e r b))
    where
      go : OwnRoute s (done L s e) e r → (phase (done L s e) r ≡ 3 ↔ Cancelled r (now ∷ h))
      go (set u p q) = absurd (n u)
      go (cancel u p q x) = (λ z. inl (refl, u.0, u.1), λ c. p)
      go (keep a c p q x) = (λ z. inr (λ u. n (u.1, u.2), (was.cancels locked).0 (sym p ∙ z)), from)
        where
          from : Cancelled r (now ∷ h) → phase (done L s e) r ≡ 3
          from (inl u) = absurd (c (u.1, u.2))
          from (inr u) = p ∙ (was.cancels locked).1 u.1

  -- its steps are those that the history tells
  pub steps_then_law : Steps L r (steps_then L s e r) (now ∷ h)
  steps_then_law = rw (pair_told_law L S s h I e pass r b, kept (own_route L few s e r b)) (steps_on L r (steps_of s r) now h (was.steps locked) (λ u. n (u.1, u.2)))
    where
      kept : OwnRoute s (done L s e) e r → steps_of (done L s e) r ≡ steps_of s r
      kept (set u p q) = absurd (n u)
      kept (cancel u p q x) = q
      kept (keep a c p q x) = q

  -- a second finds its seconds as they were
  seconds_then : Second now → seconds_of (done L s e) r ≡ seconds_of s r
  seconds_then u = go (own_route L few s e r b)
    where
      go : OwnRoute s (done L s e) e r → seconds_of (done L s e) r ≡ seconds_of s r
      go (set v p q) = absurd (n v)
      go (cancel v p q x) = absurd (let k = u.0 in let j = v.0 in omega arith)
      go (keep a c p q x) = x

  -- and those are the seconds since it was cancelled
  seconds_told : Second now → Cancelled r h → seconds_of (done L s e) r ≡ seconds_since r h
  seconds_told u c = seconds_then u ∙ was.seconds ((was.cancels locked).1 c)

  -- a second does not cancel
  cancelled_before : Second now → phase (lit L s e) r ≡ 3 → Cancelled r h
  unfolding Since
  cancelled_before u z = go (cancelled_then.0 z)
    where
      go : Cancelled r (now ∷ h) → Cancelled r h
      go (inl c) = absurd (let k = u.0 in let j = c.1 in omega arith)
      go (inr c) = c.1

  -- the box lets it go by time just where the history tells so: before the 90th second it has counted 89, and never more
  by_time : (phase (lit L s e) r ≡ 3) × ((given_by L s e).tick ≡ 1) × (89 ≤ seconds_of (done L s e) r) ↔ ByTime r now h
  unfolding Since
  by_time = (
    λ t.
        let second = (tick_told L s e pass).0 t.1 in
        let cancelled = cancelled_before second t.0 in
        let least = t.2 in
        let most = (read_within ((in_range_means s).0 I.ranged).seconds 0 r (omega arith)).1 in
        let kept = seconds_then second in
        let told = seconds_told second cancelled in
        record { cancelled = cancelled; second = second; ninetieth = since_second r now h second ∙ omega arith },
    λ t.
        let told = seconds_told t.second t.cancelled in
        let one = since_second r now h t.second in
        let all = t.ninetieth in
        (cancelled_then.1 (inr (λ u. n (u.1, u.2), t.cancelled)), (tick_told L s e pass).1 t.second, omega arith),
  )

  -- it goes just where the history tells so
  pub goes_told : goes_then L s e r ≡ true ↔ Goes L r now h
  unfolding release.goes
  goes_told = (λ t. goes (or_cases _ _ t), lets)
    where
      goes : (eqb (phase (lit L s e) r) 3 and (eqb (given_by L s e).tick 1 and leb 89 (seconds_of (done L s e) r)) ≡ true)
          ⊎ (eqb (steps_then L s e r) 3 and vacated L.line (done L s e).section (route_in L r) ≡ true) → Goes L r now h
      goes (inl t) = let u = and_right _ _ t in inr (by_time.0 (eqb-true _ 3 (and_left _ _ t), eqb-true _ 1 (and_left _ _ u), leb-true 89 _ (and_right _ _ u)))
      goes (inr t) = inl (steps_then_law.three.0 (eqb-true _ 3 (and_left _ _ t)), (vacated_told L S s h I e pass r b).0 (and_right _ _ t))

      lets : Goes L r now h → goes_then L s e r ≡ true
      lets (inl t) = or_right _ _ (and_both _ _ (eq-eqb _ 3 (steps_then_law.three.1 t.0)) ((vacated_told L S s h I e pass r b).1 t.1))
      lets (inr t) = let u = by_time.1 t in or_left _ _ (and_both _ _ (eq-eqb _ 3 u.0) (and_both _ _ (eq-eqb _ 1 u.1) (le-leb 89 _ u.2)))

  -- the seconds of one that stays cancelling are those since it was cancelled
  pub seconds_after_law : ¬ Goes L r now h → phase (lit L s e) r ≡ 3
      → seconds_after (given_by L s e) (phase (lit L s e) r) (seconds_of (done L s e) r) ≡ seconds_since r (now ∷ h)
  unfolding seconds_after
  seconds_after_law stays z = go (which (eqb (given_by L s e).tick 1))
    where
      below : (given_by L s e).tick ≡ 1 → Dec (seconds_of (done L s e) r < 89) → seconds_of (done L s e) r < 89
      below t (yes d) = d
      below t (no d) = absurd (stays (inr (by_time.0 (z, t, omega arith))))

      same : ¬ Second now → OwnRoute s (done L s e) e r → seconds_of (done L s e) r ≡ seconds_since r (now ∷ h)
      same d (set u p q) = absurd (n u)
      same d (cancel u p q x) = x ∙ sym (since_cancel r now h (refl, u.0, u.1))
      same d (keep a c p q x) =
          x ∙ was.seconds (sym p ∙ (lit_cancelling L few s e r b).0 z) ∙ sym (since_else r now h (λ u. c (u.1, u.2)) d)

      go : Is (eqb (given_by L s e).tick 1)
          → seconds_after (given_by L s e) (phase (lit L s e) r) (seconds_of (done L s e) r) ≡ seconds_since r (now ∷ h)
      go (holds t) =
          let tick = eqb-true (given_by L s e).tick 1 t in
          let second = (tick_told L s e pass).0 tick in
          chosen _ _ _ (and_both _ _ (eq-eqb _ 3 z) t) ∙ chosen _ _ _ (lt-ltb _ 89 (below tick (dec_lt (seconds_of (done L s e) r) 89)))
          ∙ ap (λ k. k + 1) (seconds_told second (cancelled_before second z)) ∙ sym (since_second r now h second)
      go (fails f) =
          passed_over _ _ _ (fails_from _ (λ t. not_both (and_right _ _ t) f))
          ∙ same (λ u. not_both (eq-eqb _ 1 ((tick_told L s e pass).1 u)) f) (own_route L few s e r b)
