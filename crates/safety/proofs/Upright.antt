-- A signal at proceed is one that has not fallen (section 4), event by event.
use Prim.Native.Nat.{ℕ, ◌<◌, ◌≤◌}
use mathlib.Core.Path.{◌≡◌, refl, sym, ◌∙◌}
use mathlib.Core.Logic.{◌≢◌, ◌↔◌, inl, inr, ⊎_elim}
use mathlib.Core.Bool.{true}
use mathlib.Core.List.{◌∷◌}
use native.Mathlib.Decide.{ℕ_discrete}
use native.Mathlib.Omega.{arith}
use borrow.Author.Tests.{eqb-true, eq-eqb}
use Rattle.laws.specs.Tests.{◌and◌}
use Rattle.laws.proofs.Tests.{implied, implies_same, every_at}
use Rattle.track.specs.Sizes.{most_train_routes}
use Rattle.track.specs.Objects.{nearest}
use Rattle.signals.specs.Signals.{enterable_by, enterable, lets_out, clear, fallen}
use Rattle.layout.specs.declared.Layout.{Layout}
use Rattle.layout.specs.Layout.{line_in, route_in}
use Rattle.layout_facts.specs.Plain.{nearest_block, Sound}
use Rattle.layout_facts.proofs.Uses.{entered_block}
use Rattle.interlocking.specs.declared.State.{State}
use Rattle.layout.specs.Sound.{sound}
use Rattle.tables.specs.Blocks.{is_open}
use Rattle.interlocking.specs.State.{in_range, with_routes, with_lines}
use Rattle.interlocking.specs.Settle.{fallen_at, signals, far_sections, routes_by, routes, arrivals, line_release, settle}
use Rattle.interlocking.specs.Step.{refusal, after}
use Rattle.step_facts.specs.Run.{Event}
use Rattle.safety.specs.History.{Moment, History, Since}
use Rattle.safety.specs.Lights.{Clear, NotFallen}
use Rattle.laws.proofs.Choice.{chosen}
use Rattle.step_facts.proofs.Entries.{phase, stage}
use Rattle.step_facts.proofs.Within.{done, lit, end, fallen_else, phase_lit, phase_kept, phase_clear}
use Rattle.step_facts.proofs.Passed.{set_open}
use Rattle.step_facts.proofs.FarCases.{enterable_same}
use Rattle.safety.proofs.Given.{granted}
use Rattle.safety.proofs.Through.{open_moves}
use Rattle.safety.proofs.Invariant.{Inv}
use Rattle.safety.proofs.LetGo.{OwnRoute, set, cancel, keep, own_route}
use Rattle.safety.proofs.Lights.{SignalsTold, clear_means}

-- an exit route's signal that has all that keeps it at proceed enters an open block
lets_out_law : (L : Layout) (t : State) (r : ℕ) → (route_in L r).kind ≡ 2 → clear L.line t.section t.point t.stage t.bar (route_in L r) ≡ true
    → stage t (route_in L r).line (nearest_block L (route_in L r).line (route_in L r).end) ≡ 0
unfolding clear lets_out enterable enterable_by is_open nearest_block line_in
lets_out_law L t r k c = eqb-true _ 0 (every_at _ (implied _ _ (every_at _ c 3) (eq-eqb _ 2 k)) 0)

-- ---- an accepted event: what keeps a signal at proceed is the same after its own effect and at its end, since a block that is open before the event or after
-- its own effect neither opens nor shuts afterwards

module _ (L : Layout) (S : Sound L) (s : State) (e : Event)
    (r : ℕ) (b : r < L.routes) where
  -- the block that an exit route enters does not wait after the event's own effect
  abbrev Shuts : Type 0
  Shuts = (route_in L r).kind ≡ 2 → stage (done L s e) (route_in L r).line (nearest_block L (route_in L r).line (route_in L r).end) ≢ 4

  -- nothing after the event's own effect touches sections, points and bars
  clear_same : Shuts → clear L.line (end L s e).section (end L s e).point (end L s e).stage (end L s e).bar (route_in L r)
      ≡ clear L.line (done L s e).section (done L s e).point (done L s e).stage (done L s e).bar (route_in L r)
  unfolding clear lets_out nearest nearest_block line_in after settle line_release with_lines arrivals routes routes_by with_routes far_sections signals
  clear_same shuts =
      rw (implies_same _ _ _ (λ t. let k = eqb-true (route_in L r).kind 2 t in enterable_same L S s e _ _ ((S.ranges.routes r b).line (inr k)).0 (entered_block L S r b k) (shuts k)))

  -- a signal that is at proceed after the event's own effect stays so where it has all that keeps it there
  stays_up : phase (done L s e) r ≡ 1
      → clear L.line (done L s e).section (done L s e).point (done L s e).stage (done L s e).bar (route_in L r) ≡ true → phase (lit L s e) r ≡ 1
  unfolding fallen_at fallen route_in
  stays_up z c = phase_lit L S.ranges.route_count s e r b ∙ chosen _ _ _ (eq-eqb _ 1 z) ∙ chosen _ _ _ c

  -- and one that is at proceed at the end has all that keeps it there
  pub lights_accepted : phase (end L s e) r ≡ 1
      → clear L.line (end L s e).section (end L s e).point (end L s e).stage (end L s e).bar (route_in L r) ≡ true
  lights_accepted z =
      let c = phase_clear L S.ranges.route_count s e r b z in
      clear_same (λ k. let o = lets_out_law L (done L s e) r k c in omega arith) ∙ c

  module _ (h : History) (I : Inv L s h) (T : SignalsTold L (end L s e) (granted L s e ∷ h))
      (pass : (refusal (sound L and in_range s) L s e.kind e.first e.second).number ≡ 0) where
    -- where its signal is at proceed after the event's own effect, the block that it enters was open before, so it does not wait
    shuts_up : phase (done L s e) r ≡ 1 → Shuts
    shuts_up z k = open_moves L S s h I e pass _ ((S.ranges.routes r b).line (inr k)).0 _ (entered_block L S r b k) (go (own_route L S.ranges.route_count s e r b))
      where
        go : OwnRoute s (done L s e) e r → stage s (route_in L r).line (nearest_block L (route_in L r).line (route_in L r).end) ≡ 0
        go (set u p q) = rw u.1 at (set_open L s e pass u.0 (rw u.1 k))
        go (cancel u p q x) = absurd (omega arith)
        go (keep n c p q x) = lets_out_law L s r k (I.lights r b (sym p ∙ z))

    -- the signal of a route that stays locked and standing is at proceed just where it is set, or was not fallen, and has all that keeps it there
    pub upright_accepted : phase (end L s e) r ≢ 0 → phase (end L s e) r ≢ 3 → (phase (end L s e) r ≡ 1 ↔ NotFallen L r (granted L s e ∷ h))
    unfolding Since
    upright_accepted locked standing = (λ z. from (own_route L few s e r b) z, λ x. up (to (own_route L few s e r b) x) (kept x))
      where
        few : L.routes ≤ most_train_routes
        few = S.ranges.route_count

        means : clear L.line (end L s e).section (end L s e).point (end L s e).stage (end L s e).bar (route_in L r) ≡ true ↔ Clear L r (granted L s e ∷ h)
        means = clear_means L S (end L s e) (granted L s e ∷ h) T r b

        else_same : phase (done L s e) r ≢ 1 → phase (end L s e) r ≡ phase (done L s e) r
        else_same d = phase_kept L few s e r b locked ∙ phase_lit L few s e r b ∙ fallen_else L (done L s e) r _ d

        was_up : phase (end L s e) r ≡ 1 → phase (done L s e) r ≡ 1
        was_up z = go (ℕ_discrete (phase (done L s e) r) 1)
          where
            go : Dec (phase (done L s e) r ≡ 1) → phase (done L s e) r ≡ 1
            go (yes q) = q
            go (no d) = sym (else_same d) ∙ z

        from : OwnRoute s (done L s e) e r → phase (end L s e) r ≡ 1 → NotFallen L r (granted L s e ∷ h)
        from (set u p q) z = inl ((refl, u.0, u.1), means.0 (lights_accepted z))
        from (cancel u p q x) z = absurd (let w = was_up z in omega arith)
        from (keep n c p q x) z =
            let one : phase s r ≡ 1 = sym p ∙ was_up z in
            inr (means.0 (lights_accepted z), (I.upright r b (omega arith) (omega arith)).0 one)

        kept : NotFallen L r (granted L s e ∷ h) → Clear L r (granted L s e ∷ h)
        kept (inl x) = x.1
        kept (inr x) = x.0

        up : phase (done L s e) r ≡ 1 → Clear L r (granted L s e ∷ h) → phase (end L s e) r ≡ 1
        up z c = phase_kept L few s e r b locked ∙ stays_up z (sym (clear_same (shuts_up z)) ∙ means.1 c)

        to : OwnRoute s (done L s e) e r → NotFallen L r (granted L s e ∷ h) → phase (done L s e) r ≡ 1
        to (set u p q) x = p
        to (cancel u p q x) y = absurd (standing (else_same (omega arith) ∙ p))
        to (keep n c p q x) (inl y) = let u = y.0 in absurd (n (u.1, u.2))
        to (keep n c p q x) (inr y) = go (ℕ_discrete (phase (done L s e) r) 1)
          where
            go : Dec (phase (done L s e) r ≡ 1) → phase (done L s e) r ≡ 1
            go (yes w) = w
            go (no d) = let w = else_same d in p ∙ (I.upright r b (λ z. locked (w ∙ p ∙ z)) (λ z. standing (w ∙ p ∙ z))).1 y.1

-- ---- a refused event sets no route, and leaves what keeps a signal at proceed

pub upright_refused : (L : Layout) (S : Sound L) (s : State) (h : History) (I : Inv L s h) (m : Moment) → m.number ≢ 0 → SignalsTold L s (m ∷ h)
    → (r : ℕ) → r < L.routes → phase s r ≢ 0 → phase s r ≢ 3 → (phase s r ≡ 1 ↔ NotFallen L r (m ∷ h))
unfolding Since
upright_refused L S s h I m d T r b locked standing = (
  λ z. inr ((clear_means L S s (m ∷ h) T r b).0 (I.lights r b z), (I.upright r b locked standing).0 z),
  λ x. ⊎_elim (λ y. let u = y.0 in absurd (d u.0)) (λ y. (I.upright r b locked standing).1 y.1) x,
)
