-- What becomes of a route within one accepted event (section 6): set, cancelled, its steps, let go; and what the release asks is what the history tells.
use Prim.Native.Nat.{ℕ, ◌+◌, ◌<◌, ◌≤◌}
use mathlib.Core.Path.{◌≡◌, refl, sym, ap, ap₂, ◌∙◌}
use mathlib.Core.Logic.{◌≢◌, ◌⊎◌, ◌↔◌, inl, inr}
use mathlib.Core.Bool.{Bool, true, false}
use mathlib.Core.List.{List, ◌∷◌}
use native.Mathlib.Decide.{ℕ_discrete}
use native.Mathlib.Omega.{arith}
use borrow.Author.Tests.{eqb-true, eqb-false, eq-eqb}
use lib.Dec.{eqb}
use Rattle.laws.specs.Choice.{when◌then◌else◌}
use Rattle.laws.specs.Tests.{◌and◌}
use Rattle.laws.specs.Tables.{read, put}
use Rattle.laws.proofs.Choice.{if_both, Is, holds, fails, which, chosen, passed_over}
use Rattle.laws.proofs.Arrays.{read_at}
use Rattle.laws.proofs.Tests.{and_left, and_right, and_both, implied, implies_from, all_at, all_from}
use Rattle.track.specs.Sizes.{most_train_routes, most_routes, most_listed}
use Rattle.tables.specs.declared.Gives.{Gives}
use Rattle.tables.specs.Readings.{given, block_reading, all_free}
use Rattle.tables.specs.Readings as readings
use Rattle.signals.specs.Signals.{fallen}
use Rattle.release.specs.declared.Locking.{Locking}
use Rattle.release.specs.declared.Watched.{Watched}
use Rattle.release.specs.declared.WatchedPair.{WatchedPair}
use Rattle.release.specs.Release.{watched_section, watched_block, exit_pair, path_pair, watched_pair, steps_after, to_vacate, end_reading, vacated, seconds_after, locking_after}
use Rattle.release.specs.Release as release
use Rattle.layout.specs.declared.Layout.{Layout}
use Rattle.layout.specs.Layout.{line_in, route_in}
use Rattle.layout.specs.Sound.{sound}
use Rattle.layout_facts.specs.Plain.{path, nearest_block, Sound}
use Rattle.layout_facts.proofs.Uses.{nearest_there}
use Rattle.interlocking.specs.declared.State.{State}
use Rattle.interlocking.specs.State.{in_range, with_sections, with_routes, with_lines, with_axles}
use Rattle.interlocking.specs.Own.{own_section, own_lock, own_cancel, own_secure, own_manual}
use Rattle.interlocking.specs.Settle.{fallen_at, signals, far_sections, locking_of, route_after, unless_idle, routes_by, routes, arrivals, line_release, settle}
use Rattle.interlocking.specs.Step.{refusal, gives, after}
use Rattle.interlocking.proofs.Departure.{first_directions}
use Rattle.step_facts.specs.Run.{Event}
use Rattle.safety.specs.History.{History, gave_section, reads, section_reads}
use Rattle.safety.specs.Locked.{gave_end, gave_first, gave_second, Vacated}
use Rattle.step_facts.proofs.Entries.{phase, steps_of, seconds_of, block, block_there, read_each, put_here, put_elsewhere}
use Rattle.step_facts.proofs.Tells.{tells_no_order}
use Rattle.step_facts.proofs.Within.{On, done, lit, end, Done, sets, cancels, secures, opens, is_done, phase_lit}
use Rattle.step_facts.proofs.Within as within
use Rattle.safety.proofs.Given.{granted, box_follows}
use Rattle.safety.proofs.GivenBlock.{block_given_law}
use Rattle.safety.proofs.Steps.{pair_told}
use Rattle.safety.proofs.Invariant.{Inv}
use Rattle.safety.proofs.ReadAfter.{reads_done}

-- ---- what the event does itself

-- it sets the route, cancels it, or leaves it
pub data OwnRoute (s t : State) (e : Event) (r : ℕ) : Type 0 where
  set : On 4 e r → phase t r ≡ 1 → steps_of t r ≡ 0 → OwnRoute s t e r
  cancel : On 5 e r → phase t r ≡ 3 → steps_of t r ≡ steps_of s r → seconds_of t r ≡ 0 → OwnRoute s t e r
  keep : ¬ On 4 e r → ¬ On 5 e r → phase t r ≡ phase s r → steps_of t r ≡ steps_of s r → seconds_of t r ≡ seconds_of s r → OwnRoute s t e r

-- by its kind
pub own_route : (L : Layout) → L.routes ≤ most_train_routes → (s : State) (e : Event) (r : ℕ) → r < L.routes → OwnRoute s (done L s e) e r
unfolding own_section own_lock own_cancel own_secure own_manual with_sections with_routes with_lines with_axles
own_route L few s e r b = go (is_done L s e)
  where
    same : {t : State} → e.kind ≢ 4 → e.kind ≢ 5 → (t.phase ≡ s.phase) × (t.steps ≡ s.steps) × (t.seconds ≡ s.seconds) → OwnRoute s t e r
    same x y u =
        keep (λ v. x v.0) (λ v. y v.0) (ap (λ xs. read most_routes 0 xs r) u.0) (ap (λ xs. read most_train_routes 0 xs r) u.1)
        (ap (λ xs. read most_train_routes 0 xs r) u.2)

    here : (n : ℕ) (xs : List ℕ) (v : ℕ) → most_train_routes ≤ n → e.first ≡ r → read n 0 (put n xs e.first v) r ≡ v
    here n xs v c q = put_here n 0 xs _ v r (omega arith) (sym q)

    other : (n : ℕ) (xs : List ℕ) (v : ℕ) → most_train_routes ≤ n → e.first ≢ r → read n 0 (put n xs e.first v) r ≡ read n 0 xs r
    other n xs v c d = put_elsewhere n 0 xs _ v r (omega arith) (λ z. d (sym z))

    go : {t : State} → Done L s e t → OwnRoute s t e r
    go (within.reads t) = same (λ k. tells_no_order t (omega arith)) (λ k. tells_no_order t (omega arith)) (refl, refl, refl)
    go (sets k) = at (ℕ_discrete e.first r)
      where
        at : Dec (e.first ≡ r) → OwnRoute s (own_lock (with_lines s (first_directions s.direction (route_in L e.first)) s.stage) e.first) e r
        at (yes q) = set (k, q) (here most_routes _ 1 (omega arith) q) (here most_train_routes _ 0 (omega arith) q)
        at (no d) =
            keep (λ v. d v.1) (λ v. d v.1) (other most_routes _ 1 (omega arith) d) (other most_train_routes _ 0 (omega arith) d)
            (other most_train_routes _ 0 (omega arith) d)
    go (cancels k) = at (ℕ_discrete e.first r)
      where
        at : Dec (e.first ≡ r) → OwnRoute s (own_cancel s e.first) e r
        at (yes q) = cancel (k, q) (here most_routes _ 3 (omega arith) q) refl (here most_train_routes _ 0 (omega arith) q)
        at (no d) = keep (λ v. d v.1) (λ v. d v.1) (other most_routes _ 3 (omega arith) d) refl (other most_train_routes _ 0 (omega arith) d)
    go (secures k) = same (omega arith) (omega arith) (refl, refl, refl)
    go (opens k) = same (omega arith) (omega arith) (refl, refl, refl)
    go (within.leaves f u) = same f.0 f.1 (u.1, u.4, u.5)

-- a signal falls from proceed, or the phase stays
fell : (L : Layout) → L.routes ≤ most_train_routes → (s : State) (e : Event) (r : ℕ) → r < L.routes
    → (phase (lit L s e) r ≡ phase (done L s e) r) ⊎ ((phase (done L s e) r ≡ 1) × (phase (lit L s e) r ≡ 2))
unfolding fallen_at fallen
fell L few s e r b =
    rw (phase_lit L few s e r b)
    (if_both F _ (λ t. let one = eqb-true (phase (done L s e) r) 1 t in if_both F _ (λ c. inl (sym one)) (λ c. inr (one, refl))) (λ f. inl refl))
  where
    F : ℕ → Type 0
    F n = (n ≡ phase (done L s e) r) ⊎ ((phase (done L s e) r ≡ 1) × (n ≡ 2))

module _ (L : Layout) (few : L.routes ≤ most_train_routes) (s : State) (e : Event) (r : ℕ) (b : r < L.routes) where
  -- so signals leave the other two phases as they are
  lit_same : (p : ℕ) → p ≢ 1 → p ≢ 2 → (phase (lit L s e) r ≡ p ↔ phase (done L s e) r ≡ p)
  lit_same p n m = go (fell L few s e r b)
    where
      go : (phase (lit L s e) r ≡ phase (done L s e) r) ⊎ ((phase (done L s e) r ≡ 1) × (phase (lit L s e) r ≡ 2))
          → (phase (lit L s e) r ≡ p ↔ phase (done L s e) r ≡ p)
      go (inl q) = (λ z. sym q ∙ z, λ z. q ∙ z)
      go (inr (one, two)) = (λ z. absurd (m (sym z ∙ two)), λ z. absurd (n (sym z ∙ one)))

  -- idle
  pub lit_idle : phase (lit L s e) r ≡ 0 ↔ phase (done L s e) r ≡ 0
  lit_idle = lit_same 0 (omega arith) (omega arith)

  -- and cancelling
  pub lit_cancelling : phase (lit L s e) r ≡ 3 ↔ phase (done L s e) r ≡ 3
  lit_cancelling = lit_same 3 (omega arith) (omega arith)

-- ---- what becomes of the route by the end

-- what the event gives
abbrev pub given_by : Layout → State → Event → Gives
given_by L s e = gives L s e.kind e.first e.second

-- the steps done by the end, where the route stays
abbrev pub steps_then : Layout → State → Event → ℕ → ℕ
steps_then L s e r = steps_after (watched_pair L.line (done L s e).section (route_in L r) (given_by L s e)) (steps_of (done L s e) r)

-- whether it goes
abbrev pub goes_then : Layout → State → Event → ℕ → Bool
goes_then L s e r =
    release.goes L.line (done L s e).section (route_in L r) (given_by L s e)
    (record { phase = phase (lit L s e) r; steps = steps_of (done L s e) r; seconds = seconds_of (done L s e) r }) (steps_then L s e r)

-- idle, released, or held on
pub data EndRoute (L : Layout) (s : State) (e : Event) (r : ℕ) : Type 0 where
  idles : phase (lit L s e) r ≡ 0 → phase (end L s e) r ≡ 0 → EndRoute L s e r
  leaves : phase (lit L s e) r ≢ 0 → goes_then L s e r ≡ true → phase (end L s e) r ≡ 0 → EndRoute L s e r
  holds_on : phase (lit L s e) r ≢ 0 → goes_then L s e r ≡ false → phase (end L s e) r ≡ phase (lit L s e) r → steps_of (end L s e) r ≡ steps_then L s e r
      → seconds_of (end L s e) r ≡ seconds_after (given_by L s e) (phase (lit L s e) r) (seconds_of (done L s e) r) → EndRoute L s e r

-- by whether it is idle, and whether it goes
pub end_route : (L : Layout) → L.routes ≤ most_train_routes → (s : State) (e : Event) (r : ℕ) → r < L.routes → EndRoute L s e r
unfolding after settle line_release with_lines arrivals routes routes_by with_routes far_sections signals route_after locking_of locking_after unless_idle route_in
end_route L few s e r b = go (which (eqb (phase (lit L s e) r) 0)) (which (goes_then L s e r))
  where
    far : State
    far = far_sections L s (lit L s e)

    held : Locking
    held = route_after L.line L.route far (given_by L s e) r

    phase_end : phase (end L s e) r ≡ unless_idle far r (phase (lit L s e) r) held.phase
    phase_end = read_each most_routes 0 L.routes _ (lit L s e).phase r (omega arith) b

    steps_end : steps_of (end L s e) r ≡ unless_idle far r (steps_of (done L s e) r) held.steps
    steps_end = read_each most_train_routes 0 L.routes _ (done L s e).steps r (omega arith) b

    seconds_end : seconds_of (end L s e) r ≡ unless_idle far r (seconds_of (done L s e) r) held.seconds
    seconds_end = read_each most_train_routes 0 L.routes _ (done L s e).seconds r (omega arith) b

    go : Is (eqb (phase (lit L s e) r) 0) → Is (goes_then L s e r) → EndRoute L s e r
    go (holds z) g = idles (eqb-true _ 0 z) (phase_end ∙ chosen _ _ _ z ∙ eqb-true _ 0 z)
    go (fails f) (holds g) = leaves (eqb-false _ 0 f) g (phase_end ∙ passed_over _ _ _ f ∙ ap (λ (x : Locking). x.phase) (chosen _ _ _ g))
    go (fails f) (fails g) =
        holds_on (eqb-false _ 0 f) g (phase_end ∙ passed_over _ _ _ f ∙ ap (λ (x : Locking). x.phase) (passed_over _ _ _ g))
        (steps_end ∙ passed_over _ _ _ f ∙ ap (λ (x : Locking). x.steps) (passed_over _ _ _ g))
        (seconds_end ∙ passed_over _ _ _ f ∙ ap (λ (x : Locking). x.seconds) (passed_over _ _ _ g))

-- ---- what the release asks, as the history tells it

module _ (L : Layout) (S : Sound L) (s : State) (h : History) (I : Inv L s h) (e : Event)
    (pass : (refusal (sound L and in_range s) L s e.kind e.first e.second).number ≡ 0) (r : ℕ) (b : r < L.routes) where
  -- a section: what it is given, and what it reads
  of_section : (g : ℕ) → g < L.sections → watched_section (done L s e).section (given_by L s e) g
      ≡ record { given = gave_section L g (granted L s e) h; reads = section_reads L g (granted L s e ∷ h) }
  unfolding watched_section
  of_section g c = rw (box_follows L s e h I.heads pass g (omega (arith, S.ranges.section_count)), reads_done L S s h I e pass g c)

  -- a section of the path is there
  on_path : (j : ℕ) → j < (route_in L r).paths → path L r j < L.sections
  on_path j c = (S.ranges.routes r b).paths j c

  -- and so is that of the block nearest the end of an entrance or exit route
  end_there : ((route_in L r).kind ≡ 1) ⊎ ((route_in L r).kind ≡ 2)
      → block L (route_in L r).line (nearest_block L (route_in L r).line (route_in L r).end) < L.sections
  end_there k = let there = ((S.ranges.routes r b).line k).0 in block_there L S _ _ there (nearest_there L S _ (route_in L r).end there)

  -- the block nearest its end
  of_end : ((route_in L r).kind ≡ 1) ⊎ ((route_in L r).kind ≡ 2)
      → watched_block (done L s e).section (given_by L s e) (line_in L (route_in L r).line) (nearest_block L (route_in L r).line (route_in L r).end)
      ≡ record { given = gave_end L r (granted L s e) h; reads = reads (gave_end L r) (granted L s e ∷ h) }
  unfolding watched_section watched_block block_reading
  of_end k = rw (block_given_law (given_by L s e) (line_in L (route_in L r).line) (nearest_block L (route_in L r).line (route_in L r).end)) (of_section _ (end_there k))

  -- the watched pair
  pub pair_told_law : watched_pair L.line (done L s e).section (route_in L r) (given_by L s e) ≡ pair_told L r (granted L s e) h
  unfolding watched_pair exit_pair path_pair gave_first gave_second when◌then◌else◌ path nearest_block line_in
  pair_told_law = go (which (eqb (route_in L r).kind 2))
    where
      few : 1 ≤ (route_in L r).paths
      few = (S.ranges.routes r b).path_count.0

      pair : Watched → Watched → WatchedPair
      pair x y = record { first = x; second = y }

      go : Is (eqb (route_in L r).kind 2) → watched_pair L.line (done L s e).section (route_in L r) (given_by L s e) ≡ pair_told L r (granted L s e) h
      go (holds t) = rw t (ap₂ pair (of_section _ (on_path _ (omega (arith, few)))) (of_end (inr (eqb-true _ 2 t))))
      go (fails f) = rw f (ap₂ pair (of_section _ (on_path _ (omega (arith, few)))) (of_section _ (on_path _ (omega (arith, few)))))

  -- it is vacated just where the history tells so
  pub vacated_told : vacated L.line (done L s e).section (route_in L r) ≡ true ↔ Vacated L r (granted L s e ∷ h)
  unfolding vacated all_free to_vacate path end_reading block_reading nearest_block line_in
  vacated_told = (
    λ t. record {
      path = λ j c d. sym (section_reads_law j c) ∙ eqb-true _ 1 (all_at _ _ (and_left _ _ t) j (counted j c d));
      block = λ k. sym (end_reads k) ∙ eqb-true _ 1 (implied _ _ (and_right _ _ t) (eq-eqb _ 1 k));
    },
    λ u. and_both _ _ (all_from _ _ (λ j c. let p = uncounted j c in eq-eqb _ 1 (section_reads_law j p.0 ∙ u.path j p.0 p.1)))
        (implies_from _ _ (λ k. let entrance = eqb-true _ 1 k in eq-eqb _ 1 (end_reads entrance ∙ u.block entrance))),
  )
    where
      section_reads_law : (j : ℕ) → j < (route_in L r).paths
          → readings.reading (done L s e).section (read most_listed 0 (route_in L r).path j) ≡ section_reads L (path L r j) (granted L s e ∷ h)
      section_reads_law j c =
          ap (readings.reading (done L s e).section) (read_at most_listed 0 (route_in L r).path j (omega (arith, (S.ranges.routes r b).path_count)))
          ∙ reads_done L S s h I e pass _ (on_path j c)

      end_reads : (route_in L r).kind ≡ 1 → end_reading L.line (done L s e).section (route_in L r) ≡ reads (gave_end L r) (granted L s e ∷ h)
      end_reads k = reads_done L S s h I e pass _ (end_there (inl k))

      counted : (j : ℕ) → j < (route_in L r).paths → ((route_in L r).kind ≢ 2 → j + 1 < (route_in L r).paths) → j < to_vacate (route_in L r)
      counted j c d = if_both (λ n. j < n) _ (λ t. c) (λ f. let y = d (eqb-false _ 2 f) in omega arith)

      uncounted : (j : ℕ) → j < to_vacate (route_in L r) → (j < (route_in L r).paths) × ((route_in L r).kind ≢ 2 → j + 1 < (route_in L r).paths)
      uncounted j =
          if_both (λ n. j < n → (j < (route_in L r).paths) × ((route_in L r).kind ≢ 2 → j + 1 < (route_in L r).paths)) _
          (λ t c. (c, λ d. absurd (d (eqb-true _ 2 t)))) (λ f c. (omega arith, λ d. omega arith))
