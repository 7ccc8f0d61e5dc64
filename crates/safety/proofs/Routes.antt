-- An accepted event keeps what the invariant says of conflicting routes, of signals at proceed and of the lines of locked exit routes.
use Prim.Native.Nat.{ℕ, ◌<◌, ◌≤◌}
use mathlib.Core.Path.{◌≡◌, refl, sym, ap, ◌∙◌}
use mathlib.Core.Logic.{◌≢◌, ◌⊎◌, inl, inr}
use mathlib.Core.Bool.{true}
use Rattle.laws.specs.Tests.{◌and◌}
use Rattle.track.specs.Codes.{leaving}
use Rattle.track.specs.Sizes.{most_lines}
use Rattle.track.proofs.Ways.{leaving_some}
use Rattle.layout.specs.declared.Layout.{Layout}
use Rattle.layout.specs.Layout.{route_in, conflict}
use Rattle.layout.specs.Sound.{sound}
use Rattle.layout_facts.specs.Plain.{Sound}
use Rattle.interlocking.specs.declared.State.{State}
use Rattle.interlocking.specs.State.{in_range}
use Rattle.interlocking.specs.Settle.{routes}
use Rattle.interlocking.specs.Step.{refusal}
use Rattle.step_facts.specs.Run.{Event}
use Rattle.safety.specs.History.{History}
use Rattle.step_facts.proofs.Entries.{phase, direction}
use Rattle.step_facts.proofs.Passed.{set_alone, cancel_locked, release_unlocked}
use Rattle.step_facts.proofs.Within.{On, done, end, was_locked, direction_locked}
use Rattle.step_facts.proofs.Securing.{direction_same, secures_neutral, set_secures}
use Rattle.safety.proofs.Invariant.{Inv}

module _ (L : Layout) (S : Sound L) (s : State) (h : History) (I : Inv L s h) (e : Event)
    (pass : (refusal (sound L and in_range s) L s e.kind e.first e.second).number ≡ 0) where
  -- a route that is locked afterwards was locked before, or is set by the event
  locked_before : (r : ℕ) → r < L.routes → phase (end L s e) r ≢ 0 → On 4 e r ⊎ (phase s r ≢ 0)
  locked_before r b = was_locked L S.ranges.route_count s e r b (cancel_locked L s e pass)

  -- no two conflicting routes are locked: a route is set only where none that conflicts with it is locked
  pub apart_on : (r q : ℕ) → r < L.routes → q < L.routes → conflict L r q ≡ true → phase (end L s e) r ≢ 0 → phase (end L s e) q ≢ 0 → ⊥
  apart_on r q b c t x y = go (locked_before r b x) (locked_before q c y)
    where
      go : On 4 e r ⊎ (phase s r ≢ 0) → On 4 e q ⊎ (phase s q ≢ 0) → ⊥
      go (inl u) (inl v) = S.conflicts.not_itself r b (rw (sym v.1 ∙ u.1) at t)
      go (inl u) (inr v) = v (set_alone L s e pass u.0 q c (rw u.1 t))
      go (inr u) (inl v) = u (set_alone L s e pass v.0 r b (rw v.1 (S.conflicts.both_ways r q b c t)))
      go (inr u) (inr v) = I.apart r q b c t u v

  -- the line of a locked exit route stays secured its way
  pub exits_on : (r : ℕ) → r < L.routes → (route_in L r).kind ≡ 2 → phase (end L s e) r ≢ 0 → direction (end L s e) (route_in L r).line ≡ leaving (route_in L r).end
  exits_on r b k x =
      direction_locked L S.ranges.line_count s e (route_in L r).line there r b k refl x ∙ go (locked_before r b x)
    where
      there : (route_in L r).line < L.lines
      there = ((S.ranges.routes r b).line (inr k)).0

      few : L.lines ≤ most_lines
      few = S.ranges.line_count

      go : On 4 e r ⊎ (phase s r ≢ 0) → direction (done L s e) (route_in L r).line ≡ leaving (route_in L r).end
      go (inl u) =
          set_secures L s e pass (route_in L r).line few there u.0 (rw u.1 k) (ap (λ n. (route_in L n).line) u.1) ∙ ap (λ n. leaving (route_in L n).end) u.1
      go (inr u) =
          direction_same L few s e (route_in L r).line there
          (λ v. leaving_some (route_in L r).end (sym (I.exits r b k u) ∙ secures_neutral L s e pass (route_in L r).line v))
          (λ v. u (release_unlocked L s e pass v.0 r b k (sym v.1)))
          ∙ I.exits r b k u
