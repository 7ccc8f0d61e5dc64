-- A route that is set with all that it is set by is locked, and its signal shows proceed when the event is over.
use Prim.Native.Nat.{ℕ, zero, suc, ◌<◌, ◌≤◌}
use mathlib.Core.Path.{◌≡◌, refl, sym, ap, ◌∙◌}
use mathlib.Core.Logic.{◌≢◌, inr, ⊎_elim}
use mathlib.Core.Bool.{Bool, true, false}
use mathlib.Core.List.{List}
use native.Mathlib.Numerals.{add-one}
use native.Mathlib.Omega.{arith}
use borrow.Author.Tests.{eqb-true, eq-eqb, ne_eqb, lt-ltb}
use lib.ListN.{get_or}
use Rattle.laws.specs.Choice.{when◌then◌else◌}
use Rattle.laws.specs.Tests.{lowest}
use Rattle.laws.specs.Tables.{read}
use Rattle.laws.proofs.Arrays.{read_at}
use Rattle.laws.proofs.Choice.{if_both, chosen, passed_over}
use Rattle.laws.proofs.Searches.{Sought, seek_start, seek_here, seek_on}
use Rattle.laws.proofs.Tests.{and_left, and_both, or_cases, fails_from, implies_from, every_one, every_more, all_from}
use Rattle.track.specs.declared.Line.{Line}
use Rattle.track.specs.declared.Route.{Route}
use Rattle.track.specs.Sizes.{most_listed, most_train_routes, most_routes}
use Rattle.tables.specs.declared.Gives.{Gives}
use Rattle.tables.specs.Readings.{reading, point_reading, all_free, in_position, line_placed, route_placed}
use Rattle.signals.specs.Signals.{enterable_by, enterable, lets_out, clear, fallen, route_proceeds}
use Rattle.signals.specs.MainSignals.{proceed_shown, shown_by, shown_for, main_shows}
use Rattle.release.specs.declared.Locking.{Locking}
use Rattle.release.specs.declared.WatchedPair.{WatchedPair}
use Rattle.release.specs.Release.{watched_pair, steps_after, goes, locking_after}
use Rattle.layout.specs.declared.Layout.{Layout}
use Rattle.layout.specs.Layout.{line_in, route_in}
use Rattle.layout_facts.specs.Plain.{nearest_block, line_point, line_position, path, overlap, route_point, route_position, Sound}
use Rattle.layout_facts.proofs.Uses.{entered_block}
use Rattle.interlocking.specs.declared.State.{State}
use Rattle.interlocking.specs.State.{with_routes, with_lines}
use Rattle.interlocking.specs.Own.{own_lock}
use Rattle.interlocking.specs.Settle.{fallen_at, signals, far_sections, locking_of, route_after, unless_idle, routes_by, routes, arrivals, line_release, settle}
use Rattle.interlocking.specs.Rows.{set_row, row_with, row_of}
use Rattle.interlocking.specs.Step.{own, after}
use Rattle.interlocking.proofs.Departure.{first_directions, set_lines}
use Rattle.step_facts.specs.Run.{event}
use Rattle.step_facts.proofs.Entries.{phase, read_each, put_here, put_elsewhere}
use Rattle.step_facts.proofs.Within.{done, lit, end, phase_lit, phase_stays}
use Rattle.way_out.proofs.OrdersGranted.{Prepared}

-- ---- what keeps the signal at proceed

-- sections of a list of eight that read free
free_listed : (sections xs : List ℕ) (n : ℕ) → n ≤ most_listed → ((j : ℕ) → j < n → reading sections (get_or xs j 0) ≡ 1) → all_free sections n xs ≡ true
unfolding all_free
free_listed sections xs n few h = all_from _ _ (λ j b. eq-eqb _ 1 (ap (reading sections) (read_at most_listed 0 xs j (omega arith)) ∙ h j b))

-- points of a list of eight that read their positions
placed_listed : (points ps ws : List ℕ) (n : ℕ) → n ≤ most_listed → ((j : ℕ) → j < n → point_reading points (get_or ps j 0) ≡ get_or ws j 0)
    → in_position points n ps ws ≡ true
unfolding in_position
placed_listed points ps ws n few h =
    all_from _ _ (λ j b. eq-eqb _ _ (ap (point_reading points) (read_at most_listed 0 ps j (omega arith)) ∙ h j b ∙ sym (read_at most_listed 0 ws j (omega arith))))

-- a route that can be set has all of it
prepared_clear : (L : Layout) → Sound L → (r : ℕ) → r < L.routes → (s : State) → Prepared L r s
    → clear L.line s.section s.point s.stage s.bar (route_in L r) ≡ true
unfolding clear lets_out enterable enterable_by line_placed route_placed line_point line_position route_point route_position path overlap nearest_block line_in
prepared_clear L S r b s P =
    let own = S.ranges.routes r b in
    every_more _ _ _ (free_listed _ _ _ own.path_count.1 P.path)
    (every_more _ _ _ (free_listed _ _ _ (omega (arith, own.overlap_count)) P.overlap)
    (every_more _ _ _ (placed_listed _ _ _ _ own.point_count P.placed)
    (every_one _ (implies_from _ _ (λ t.
    let exit = eqb-true _ 2 t in
    let line = P.line exit in
    let here = entered_block L S r b exit in
    every_more _ _ _ (line.opened _ here) (every_more _ _ _ (line.no_bar _ here)
    (every_one _ (placed_listed _ _ _ _ (S.ranges.lines _ (own.line (inr exit)).0).point_count line.placed))))))))

-- ---- the event

-- from no step done an event does one at most
one_step : (w : WatchedPair) → steps_after w 0 ≢ 3
unfolding steps_after
one_step w =
    if_both R _ (λ t. absurd (omega (arith, eqb-true 0 3 t)))
    (λ f. if_both R _ (λ t. omega arith)
    (λ g. if_both R _ (λ t. absurd (omega (arith, eqb-true 0 2 t)))
    (λ h. if_both R _ (λ t. omega arith)
    (λ k. if_both R _ (λ t. absurd (omega (arith, eqb-true 0 1 t))) (λ m. if_both R _ (λ t. omega arith) (λ t. omega arith))))))
  where
    R : ℕ → Type 0
    R n = n ≢ 3

-- so a route that is at proceed, with no step done, is not let go
fresh_stays : (ls : List Line) (sections : List ℕ) (a : Route) (g : Gives) (h : Locking) → h.phase ≡ 1 → h.steps ≡ 0 → (locking_after ls sections a g h).phase ≡ 1
unfolding locking_after goes
fresh_stays ls sections a g h proceeds none =
    if_both (λ (x : Locking). x.phase ≡ 1) _
    (λ t. ⊎_elim (λ c. absurd (let z = eqb-true h.phase 3 (and_left _ _ c) in omega arith))
    (λ c. absurd (one_step pair (ap (steps_after pair) (sym none) ∙ eqb-true (steps_after pair h.steps) 3 (and_left _ _ c)))) (or_cases _ _ t))
    (λ f. proceeds)
  where
    pair : WatchedPair
    pair = watched_pair ls sections a g

-- a test that holds at r alone, of n: r is the lowest
only_lowest : (n : ℕ) (p : ℕ → Bool) (r : ℕ) → r < n → p r ≡ true → ((q : ℕ) → q < n → q ≢ r → p q ≡ false) → r ≡ lowest n p
only_lowest n p r b t others = seek_here n p r (up_to r (omega arith)) b refl t
  where
    up_to : (i : ℕ) → i ≤ r → Sought n p i
    up_to zero c = seek_start n p
    up_to (suc i) c = rw (← add-one i) (seek_on n p i (up_to i (omega arith)) (omega arith) refl (others i (omega arith) (omega arith)))

module _ (L : Layout) (S : Sound L) (r : ℕ) (b : r < L.routes) (s : State) (P : Prepared L r s) where
  -- what the event itself does: besides what it locks it makes at most the directions anew (L5)
  own_done : done L s (event 4 r 0) ≡ own_lock (with_lines s (first_directions s.direction (route_in L r)) s.stage) r
  unfolding own row_of row_with set_row when◌then◌else◌ route_in
  own_done = set_lines L.route s r

  -- it puts the route to proceed
  own_set : phase (done L s (event 4 r 0)) r ≡ 1
  unfolding own_lock with_routes with_lines
  own_set = rw own_done (put_here most_routes 0 s.phase r 1 r (omega (arith, S.ranges.route_count)) refl)

  -- with no step done
  no_step : read most_train_routes 0 (done L s (event 4 r 0)).steps r ≡ 0
  unfolding own_lock with_routes with_lines
  no_step = rw own_done (put_here most_train_routes 0 s.steps r 0 r (omega (arith, S.ranges.route_count)) refl)

  -- its signal does not fall
  still_lit : phase (lit L s (event 4 r 0)) r ≡ 1
  unfolding fallen_at fallen own_lock with_routes with_lines route_in
  still_lit =
      phase_lit L S.ranges.route_count s (event 4 r 0) r b ∙ chosen _ _ _ (eq-eqb _ 1 own_set) ∙ chosen _ _ _ (rw own_done (prepared_clear L S r b s P))

  -- nor is it let go
  pub set_on : phase (end L s (event 4 r 0)) r ≡ 1
  unfolding after settle line_release with_lines arrivals routes routes_by with_routes far_sections signals route_after locking_of unless_idle
  set_on =
      read_each most_routes 0 L.routes _ (lit L s (event 4 r 0)).phase r (omega (arith, S.ranges.route_count)) b
      ∙ passed_over _ _ _ (ne_eqb (phase (lit L s (event 4 r 0)) r) 0 (omega (arith, still_lit))) ∙ fresh_stays _ _ _ _ _ still_lit no_step

  -- the others stay idle
  others_idle : (q : ℕ) → q < L.routes → q ≢ r → phase (end L s (event 4 r 0)) q ≡ 0
  unfolding own_lock with_routes with_lines
  others_idle q c d =
      ⊎_elim (λ z. z) (λ z. z ∙ idle) (phase_stays L S.ranges.route_count s (event 4 r 0) q c (omega (arith, idle)))
    where
      idle : phase (done L s (event 4 r 0)) q ≡ 0
      idle = rw own_done (put_elsewhere most_routes 0 s.phase r 1 q (omega (arith, S.ranges.route_count)) d ∙ P.idle q c)

  -- so its signal shows what the route says: it is the only one at proceed
  pub set_shows : main_shows L.routes L.route (end L s (event 4 r 0)).phase (route_in L r).entry ≡ proceed_shown (route_in L r)
  unfolding main_shows shown_by shown_for route_proceeds route_in
  set_shows =
      ap (shown_for L.routes L.route) (sym (only_lowest L.routes _ r b (and_both _ _ (eq-eqb _ 1 set_on) (eq-eqb (route_in L r).entry _ refl))
      (λ q c d. fails_from _ (λ t. let z = eqb-true (phase (end L s (event 4 r 0)) q) 1 (and_left _ _ t) in omega (arith, others_idle q c d)))))
      ∙ chosen _ _ _ (lt-ltb r _ b)
