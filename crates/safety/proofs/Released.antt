-- Routes are locked, cancelled and released as the history tells (section 6): through an accepted event, and through a refused one.
use Prim.Native.Nat.{ℕ, ◌<◌, ◌≤◌}
use mathlib.Core.Path.{◌≡◌, refl, sym, ap, ◌∙◌}
use mathlib.Core.Logic.{◌≢◌, inl, inr, ⊎_elim}
use mathlib.Core.Bool.{true}
use mathlib.Core.List.{◌∷◌}
use native.Mathlib.Decide.{ℕ_discrete}
use native.Mathlib.Omega.{arith}
use borrow.Author.Tests.{eqb-true}
use Rattle.laws.specs.Tests.{◌and◌}
use Rattle.laws.proofs.Tests.{and_left, or_cases, not_both}
use Rattle.track.specs.Sizes.{most_train_routes}
use Rattle.release.specs.Release as release
use Rattle.layout.specs.declared.Layout.{Layout}
use Rattle.layout.specs.Sound.{sound}
use Rattle.layout_facts.specs.Plain.{Sound}
use Rattle.interlocking.specs.declared.State.{State}
use Rattle.interlocking.specs.State.{in_range}
use Rattle.interlocking.specs.Step.{refusal}
use Rattle.step_facts.specs.Run.{Event}
use Rattle.safety.specs.History.{Moment, History, gave_section, Second, Since}
use Rattle.safety.specs.Locked.{Sets, Vacated, Cancelled, Goes, Locked}
use Rattle.step_facts.proofs.Entries.{phase, steps_of}
use Rattle.step_facts.proofs.Passed.{cancel_locked}
use Rattle.step_facts.proofs.Within.{On, done, lit, end}
use Rattle.safety.proofs.Given.{granted}
use Rattle.safety.proofs.Told.{reads_kept}
use Rattle.safety.proofs.Steps.{pair_quiet, Steps, steps_set, none_taken, steps_quiet}
use Rattle.safety.proofs.Invariant.{Inv, RouteTold}
use Rattle.safety.proofs.LetGo.{OwnRoute, set, cancel, keep, own_route, lit_idle, lit_cancelling, steps_then, goes_then, EndRoute, idles, leaves, holds_on, end_route, pair_told_law}
use Rattle.safety.proofs.Seconds.{since_else}
use Rattle.safety.proofs.Goes.{cancelled_then, steps_then_law, goes_told, seconds_after_law}

-- ---- through an accepted event

module _ (L : Layout) (S : Sound L) (s : State) (h : History) (I : Inv L s h) (e : Event)
    (pass : (refusal (sound L and in_range s) L s e.kind e.first e.second).number ≡ 0) (r : ℕ) (b : r < L.routes) where
  -- the moment of the event
  abbrev now : Moment
  now = granted L s e

  -- there are no more routes than the tables hold
  few : L.routes ≤ most_train_routes
  few = S.ranges.route_count

  -- what was told of the route
  was : RouteTold L s h r
  was = I.routes r b

  -- one that is idle at the end, and not told locked
  gone : phase (end L s e) r ≡ 0 → ¬ Locked L r (now ∷ h) → RouteTold L (end L s e) (now ∷ h) r
  gone z n = record {
    locks = (λ d. absurd (d z), λ x. absurd (n x));
    cancels = λ d. absurd (d z);
    steps = λ d. absurd (d z);
    stands = λ d. absurd (d z);
    seconds = λ q. absurd (omega arith);
  }

  -- one that the event sets: it is locked, with no step done
  told_set : On 4 e r → phase (done L s e) r ≡ 1 → steps_of (done L s e) r ≡ 0 → RouteTold L (end L s e) (now ∷ h) r
  unfolding Since release.goes
  told_set u p q = go (end_route L few s e r b)
    where
      sets : Sets r now
      sets = (refl, u.0, u.1)

      none : steps_then L s e r ≡ 0
      none = rw (pair_told_law L S s h I e pass r b, q) (none_taken L r now h sets)

      not_three : phase (lit L s e) r ≢ 3
      not_three c = omega (arith, (lit_cancelling L few s e r b).0 c, p)

      not_cancelled : ¬ Cancelled r (now ∷ h)
      not_cancelled (inl c) = let k = u.0 in let j = c.1 in omega arith
      not_cancelled (inr c) = c.0 sets

      stays : goes_then L s e r ≡ true → ⊥
      stays g =
          ⊎_elim (λ t. not_three (eqb-true _ 3 (and_left _ _ t))) (λ t. let three = eqb-true (steps_then L s e r) 3 (and_left _ _ t) in omega (arith, none))
          (or_cases _ _ g)

      go : EndRoute L s e r → RouteTold L (end L s e) (now ∷ h) r
      go (idles z x) = absurd (omega (arith, (lit_idle L few s e r b).0 z))
      go (leaves z g x) = absurd (stays g)
      go (holds_on z g x y w) = record {
        locks = (λ d. inl sets, λ l d. z (sym x ∙ d));
        cancels = λ d. (λ c. absurd (not_three (sym x ∙ c)), λ c. absurd (not_cancelled c));
        steps = λ d. rw (y, none) (steps_set L r now h sets);
        stands = λ d c. absurd (omega (arith, none));
        seconds = λ c. absurd (not_three (sym x ∙ c));
      }

  -- one that was idle, and is not set: it cannot have been cancelled
  told_idle : phase s r ≡ 0 → ¬ On 4 e r → RouteTold L (end L s e) (now ∷ h) r
  unfolding Since
  told_idle z n = gone (ends (end_route L few s e r b)) free
    where
      own_idle : OwnRoute s (done L s e) e r → phase (done L s e) r ≡ 0
      own_idle (set u p q) = absurd (n u)
      own_idle (cancel u p q x) = absurd (cancel_locked L s e pass u.0 (ap (phase s) u.1 ∙ z))
      own_idle (keep a c p q x) = p ∙ z

      ends : EndRoute L s e r → phase (end L s e) r ≡ 0
      ends (idles x p) = p
      ends (leaves x g p) = p
      ends (holds_on x g p y w) = absurd (x ((lit_idle L few s e r b).1 (own_idle (own_route L few s e r b))))

      free : ¬ Locked L r (now ∷ h)
      free (inl u) = n (u.1, u.2)
      free (inr l) = was.locks.1 l.1 z

  -- one that was locked, and is not set: it goes just where the history tells so
  told_locked : phase s r ≢ 0 → ¬ On 4 e r → RouteTold L (end L s e) (now ∷ h) r
  unfolding Since
  told_locked d n = go (end_route L few s e r b)
    where
      own_locked : OwnRoute s (done L s e) e r → phase (done L s e) r ≢ 0
      own_locked (set u p q) z = n u
      own_locked (cancel u p q x) z = omega arith
      own_locked (keep a c p q x) z = d (sym p ∙ z)

      ended : goes_then L s e r ≡ true → ¬ Locked L r (now ∷ h)
      ended g (inl u) = n (u.1, u.2)
      ended g (inr l) = l.0 ((goes_told L S s h I e pass r b d n).0 g)

      go : EndRoute L s e r → RouteTold L (end L s e) (now ∷ h) r
      go (idles z p) = absurd (own_locked (own_route L few s e r b) ((lit_idle L few s e r b).0 z))
      go (leaves z g p) = gone p (ended g)
      go (holds_on z g p q x) =
          let stays : ¬ Goes L r now h = λ w. not_both ((goes_told L S s h I e pass r b d n).1 w) g in
          record {
            locks = (λ y. inr (stays, was.locks.0 d), λ l y. z (sym p ∙ y));
            cancels = λ y. rw p (cancelled_then L S s h I e pass r b d n);
            steps = λ y. rw q (steps_then_law L S s h I e pass r b d n);
            stands = λ y three v. stays (inl ((steps_then_law L S s h I e pass r b d n).three.0 (sym q ∙ three), v));
            seconds = λ y. x ∙ seconds_after_law L S s h I e pass r b d n stays (sym p ∙ y);
          }

  -- so each route is as told after it
  pub route_accepted : RouteTold L (end L s e) (now ∷ h) r
  route_accepted = go (own_route L few s e r b) (ℕ_discrete (phase s r) 0)
    where
      unset : ¬ On 4 e r → Dec (phase s r ≡ 0) → RouteTold L (end L s e) (now ∷ h) r
      unset n (yes z) = told_idle z n
      unset n (no d) = told_locked d n

      go : OwnRoute s (done L s e) e r → Dec (phase s r ≡ 0) → RouteTold L (end L s e) (now ∷ h) r
      go (set u p q) z = told_set u p q
      go (cancel u p q x) z = unset (λ v. let k = u.0 in let j = v.0 in omega arith) z
      go (keep n c p q x) z = unset n z

-- ---- through a refused event, which gives no section anything, is no accepted order and no second

module _ (L : Layout) (S : Sound L) (s : State) (h : History) (m : Moment) (I : Inv L s h) (quiet : (g : ℕ) → gave_section L g m h ≡ 0) (no_answer : m.number ≢ 0)
    (no_second : ¬ Second m) (r : ℕ) (b : r < L.routes) where
  -- nothing changes, and the history tells nothing new of the route
  pub route_refused : RouteTold L s (m ∷ h) r
  unfolding Since
  route_refused = record {
    locks = (λ d. inr (never d, was.locks.0 d), locked);
    cancels = λ d. (λ z. inr (no_set, (was.cancels d).0 z), cancelled d);
    steps = steps;
    stands = stands;
    seconds = λ z. was.seconds z ∙ sym (since_else r m h (λ u. no_answer u.0) no_second);
  }
    where
      was : RouteTold L s h r
      was = I.routes r b

      no_set : ¬ Sets r m
      no_set u = no_answer u.0

      steps : phase s r ≢ 0 → Steps L r (steps_of s r) (m ∷ h)
      steps d = steps_quiet L r _ m h (was.steps d) no_set (pair_quiet L r m h quiet)

      stands : phase s r ≢ 0 → steps_of s r ≡ 3 → ¬ Vacated L r (m ∷ h)
      stands d z v = was.stands d z (record {
        path = λ j c x. sym (reads_kept _ m h (quiet _)) ∙ v.path j c x;
        block = λ k. sym (reads_kept _ m h (quiet _)) ∙ v.block k;
      })

      never : phase s r ≢ 0 → ¬ Goes L r m h
      never d (inl t) = stands d ((steps d).three.1 t.0) t.1
      never d (inr t) = no_second t.second

      locked : Locked L r (m ∷ h) → phase s r ≢ 0
      locked (inl u) = absurd (no_set u)
      locked (inr l) = was.locks.1 l.1

      cancelled : phase s r ≢ 0 → Cancelled r (m ∷ h) → phase s r ≡ 3
      cancelled d (inl u) = absurd (no_answer u.0)
      cancelled d (inr c) = (was.cancels d).1 c.1
