-- Tests on a history that hold just where what they test does: locked routes. The steps of a route are taken on event by event, so that a long run is tested
-- in one walk.
use Prim.Native.Nat.{ℕ, ◌+◌}
use mathlib.Core.Path.{◌≡◌, refl}
use mathlib.Core.Logic.Iff
use mathlib.Core.Logic.{◌↔◌, inl, inr, ⊎_elim}
use mathlib.Core.Bool.{Bool, true, false, not}
use mathlib.Core.List.{[], ◌∷◌}
use native.Mathlib.Omega.{arith}
use lib.Dec.{eqb, ltb}
use Rattle.laws.specs.Choice.{when◌then◌else◌}
use Rattle.laws.specs.Tests.{◌and◌, ◌or◌, implies, every, all_below}
use Rattle.laws.proofs.Choice.{if_both}
use Rattle.laws.proofs.Tests.{not_both}
use Rattle.track.specs.Codes.{free, entrance_route, exit_route, set_route, cancel_route, one_second}
use Rattle.release.specs.Release.{steps_after}
use Rattle.layout.specs.declared.Layout.{Layout}
use Rattle.layout.specs.Layout.{route_in}
use Rattle.layout_facts.specs.Plain.{path}
use Rattle.layout_facts.proofs.Means.{eqb_means, ltb_means, not_means, and_means, or_means, implies_means, lastly, ◌also◌, ◌&◌, every_means, all_means}
use Rattle.safety.specs.History.{Moment, History, reads, section_reads, Since}
use Rattle.safety.specs.Locked.{Sets, gave_end, Vacated, Cancelled, seconds_since, ByTime, Goes, Locked}
use Rattle.safety.proofs.Steps.{Steps, pair_told, steps_set, steps_on}
use Rattle.safety.proofs.Tested.{since_test, since_means, accepted_test, accepted_means, came_test, came_means}

-- ---- a route that goes

module _ (L : Layout) (r : ℕ) where
  -- its path, and for an entrance route its block, is vacated
  abbrev vacated_test : History → Bool
  vacated_test h =
      all_below (route_in L r).paths (λ j. implies (implies (not (eqb (route_in L r).kind exit_route)) (ltb (j + 1) (route_in L r).paths)) (eqb (section_reads L (path L r j) h) free))
      and implies (eqb (route_in L r).kind entrance_route) (eqb (reads (gave_end L r) h) free)

  -- section by section, and the block
  vacated_means : (h : History) → vacated_test h ≡ true ↔ Vacated L r h
  vacated_means h =
      Iff.trans
      (and_means (all_means (λ j b. implies_means (implies_means (not_means (eqb_means _ exit_route)) (ltb_means _ _)) (eqb_means _ free)))
      (implies_means (eqb_means _ entrance_route) (eqb_means _ free)))
      (λ (p, b). record { path = p; block = b }, λ v. (v.path, v.block))

  -- it was cancelled since it was set
  abbrev pub cancelled_test : History → Bool
  cancelled_test h = since_test (λ m older. accepted_test cancel_route r m) (λ m older. not (accepted_test set_route r m)) h

  -- by the law of `Since`
  pub cancelled_means : (h : History) → cancelled_test h ≡ true ↔ Cancelled r h
  cancelled_means = since_means (λ m h. accepted_means cancel_route r m) (λ m h. not_means (accepted_means set_route r m))

  -- it goes by time
  abbrev time_test : Moment → History → Bool
  time_test m h = every (came_test one_second 0 0 m ∷ cancelled_test h ∷ eqb (seconds_since r (m ∷ h)) 90 ∷ [])

  -- part by part
  time_means : (m : Moment) (h : History) → time_test m h ≡ true ↔ ByTime r m h
  time_means m h =
      Iff.trans (every_means (came_means one_second 0 0 m also cancelled_means h also lastly (eqb_means _ 90)))
      (λ (s, (c, n)). record { cancelled = c; second = s; ninetieth = n }, λ t. t.second & t.cancelled & t.ninetieth)

  -- it goes, where so many steps are done after the event
  abbrev goes_test : ℕ → Moment → History → Bool
  goes_test steps m h = (eqb steps 3 and vacated_test (m ∷ h)) or time_test m h

  -- by a train, as the steps tell, or by time
  goes_means : (steps : ℕ) (m : Moment) (h : History) → Steps L r steps (m ∷ h) → goes_test steps m h ≡ true ↔ Goes L r m h
  goes_means steps m h S = or_means (and_means (Iff.trans (eqb_means steps 3) S.three) (vacated_means (m ∷ h))) (time_means m h)

-- ---- a route that is locked

-- the steps that are done, and whether the route is locked
record Status : Type 0 where
  steps : ℕ
  locked : Bool

module _ (L : Layout) (r : ℕ) where
  -- one more event, after which so many steps are done: the route stays locked, or goes
  abbrev stays : ℕ → Bool → Moment → History → Status
  stays steps was m h = record { steps = steps; locked = was and not (goes_test L r steps m h) }

  -- it is set, or it stays or goes
  abbrev status_after : Status → Moment → History → Status
  status_after s m h =
      when accepted_test set_route r m then record { steps = 0; locked = true } else stays (steps_after (pair_told L r m h) s.steps) s.locked m h

  -- event by event
  abbrev status : History → Status
  status [] = record { steps = 0; locked = false }
  status (m ∷ h) = status_after (status h) m h

  -- the steps are those of the history
  steps_told : (h : History) → Steps L r (status h).steps h
  unfolding Since
  steps_told [] = record {
    three = (λ z. absurd (omega arith), λ x. absurd x);
    two = λ d. (λ z. absurd (omega arith), λ x. absurd x);
    one = λ d. (λ z. absurd (omega arith), λ x. absurd x);
    few = omega arith;
  }
  steps_told (m ∷ h) =
      if_both (λ (s : Status). Steps L r s.steps (m ∷ h)) (accepted_test set_route r m) (λ t. steps_set L r m h ((accepted_means set_route r m).0 t))
      (λ f. steps_on L r _ m h (steps_told h) (λ u. not_both ((accepted_means set_route r m).1 u) f))

  -- so it is locked just where it is told to be
  abbrev pub locked_test : History → Bool
  locked_test h = (status h).locked

  -- event by event: it was set, or was locked and did not go
  pub locked_means : (h : History) → locked_test h ≡ true ↔ Locked L r h
  unfolding Since
  locked_means [] = (λ t. not_both t refl, λ x. absurd x)
  locked_means (m ∷ h) =
      if_both (λ (s : Status). s.locked ≡ true ↔ Locked L r (m ∷ h)) (accepted_test set_route r m) (λ t. (λ u. inl ((accepted_means set_route r m).0 t), λ u. refl))
      (λ f. let not_set : ¬ Sets r m = λ u. not_both ((accepted_means set_route r m).1 u) f in
      let on = steps_on L r _ m h (steps_told h) not_set in
      Iff.trans (and_means (locked_means h) (not_means (goes_means L r _ m h on)))
      (λ (was, stay). inr (stay, was), ⊎_elim (λ u. absurd (not_set u)) (λ (stay, was). (was, stay))))
