-- Within one accepted event: what it does itself to sections, routes, lines and blocks, and what becomes of routes and lines by its end.
use Prim.Native.Nat.{ℕ, ◌<◌, ◌≤◌}
use mathlib.Core.Path.{◌≡◌, refl, sym, ap, ◌∙◌}
use mathlib.Core.Logic.{◌≢◌, ◌⊎◌, inl, inr, ⊎_elim}
use mathlib.Core.Bool.{true}
use mathlib.Core.List.{List}
use native.Mathlib.Decide.{ℕ_discrete}
use native.Mathlib.Omega.{arith}
use borrow.Author.Tests.{eqb-true, eqb-false, eq-eqb, ne_eqb, not-true}
use lib.Dec.{eqb}
use Rattle.laws.specs.Tests.{any_below}
use Rattle.laws.specs.Tables.{read, put}
use Rattle.laws.proofs.Choice.{if_both, passed_over}
use Rattle.laws.proofs.Tests.{and_left, and_both, not_both, fails_not, every_at, all_at, any_at}
use Rattle.track.specs.Sizes.{most_sections, most_lines, most_train_routes, most_routes}
use Rattle.tables.specs.Readings.{recorded}
use Rattle.tables.specs.Blocks.{is_open}
use Rattle.signals.specs.Signals.{clear, fallen}
use Rattle.tables.specs.declared.Gives.{Gives}
use Rattle.axles.specs.declared.Axles.{Axles}
use Rattle.release.specs.declared.Locking.{Locking}
use Rattle.release.specs.Release.{locking_after}
use Rattle.layout.specs.declared.Layout.{Layout}
use Rattle.layout.specs.Layout.{line_in, route_in}
use Rattle.line_block.specs.LineRelease.{passable, ends_by, direction_after, directions_after}
use Rattle.interlocking.specs.declared.State.{State}
use Rattle.interlocking.specs.State.{with_sections, with_points, with_routes, with_lines, with_bars, with_axles, with_lamps}
use Rattle.interlocking.specs.Own.{own_section, own_point, own_throw, own_lock, own_cancel, own_secure, own_manual, own_bar, heads_of, own_heads, own_lamp}
use Rattle.tables.specs.Locks.{locked, locked_exit_by, locked_exit}
use Rattle.interlocking.specs.Settle.{fallen_at, signals, far_sections, locking_of, route_after, unless_idle, routes_by, routes, arrivals, line_release, settle}
use Rattle.interlocking.specs.Rows.{Row, section_row, point_row, throw_row, set_row, cancel_row, secure_row, manual_row, bar_row, second_row, head_row, count_row, silent_row, reset_row, lamp_row, no_row}
use Rattle.interlocking.specs.Step.{own, gives, after}
use Rattle.interlocking.proofs.Departure.{first_directions, set_lines}
use Rattle.interlocking.proofs.Rows.{OfKind, section_row_kind, point_row_kind, throw_row_kind, set_row_kind, cancel_row_kind, secure_row_kind, manual_row_kind, bar_row_kind, unbar_row, second_row_kind, count_row_kind, silent_row_kind, reset_row_kind, lamp_row_kind, no_row_kind, row_kind_of, heads_row_kind}
use Rattle.step_facts.specs.Run.{Event}
use Rattle.step_facts.proofs.Entries.{phase, direction, stage, ends, read_each, put_elsewhere}
use Rattle.step_facts.proofs.Tells.{Tells, by_code, by_heads, Untold, tells_nothing, tells_no_order, tells_once}

-- ---- the states within one event

-- after what it does itself
abbrev pub done : Layout → State → Event → State
done L s e = own L s e.kind e.first e.second

-- after the signals
abbrev pub lit : Layout → State → Event → State
lit L s e = signals L (done L s e)

-- after far sections and routes
abbrev pub moved : Layout → State → Event → State
moved L s e = routes L (far_sections L s (lit L s e)) (gives L s e.kind e.first e.second)

-- after the blocks that wait (L3)
abbrev pub waited : Layout → State → Event → State
waited L s e = arrivals L s (moved L s e)

-- at its end
abbrev pub end : Layout → State → Event → State
end L s e = after L s e.kind e.first e.second

-- ---- what an event does itself, by its kind

-- it is of kind k, for object a
abbrev pub On : ℕ → Event → ℕ → Type 0
On k e a = (e.kind ≡ k) × (e.first ≡ a)

-- the state that it leaves, by its kind: one that gives a section a reading differs from s in the heads before it is given; the other kinds leave sections,
-- heads, directions, stages and what is held of routes as they are
pub data Done (L : Layout) (s : State) (e : Event) : State → Type 0 where
  reads : {g v : ℕ} {xs : List Axles} → Tells s e g v xs → Done L s e (own_section L.signals L.line L.lines (with_axles s xs) g v)
  sets : e.kind ≡ 4 → Done L s e (own_lock (with_lines s (first_directions s.direction (route_in L e.first)) s.stage) e.first)
  cancels : e.kind ≡ 5 → Done L s e (own_cancel s e.first)
  secures : e.kind ≡ 6 → Done L s e (own_secure s e.first e.second)
  opens : e.kind ≡ 7 → Done L s e (own_manual L.line L.lines s e.first)
  leaves : {t : State} → (e.kind ≢ 4) × (e.kind ≢ 5) × (e.kind ≢ 6) × (e.kind ≢ 7) × Untold e.kind
      → (t.section ≡ s.section) × (t.phase ≡ s.phase) × (t.direction ≡ s.direction) × (t.stage ≡ s.stage) × (t.steps ≡ s.steps) × (t.seconds ≡ s.seconds)
      × (t.axles ≡ s.axles)
      → Done L s e t

-- by its row
pub is_done : (L : Layout) (s : State) (e : Event) → Done L s e (done L s e)
unfolding own section_row point_row throw_row set_row cancel_row secure_row manual_row bar_row second_row head_row count_row silent_row reset_row lamp_row no_row own_point own_throw own_bar own_heads own_lamp
    with_points with_bars with_axles with_lamps heads_of route_in
is_done L s e = go (row_kind_of L s e.kind e.first e.second)
  where
    same : (s.section ≡ s.section) × (s.phase ≡ s.phase) × (s.direction ≡ s.direction) × (s.stage ≡ s.stage) × (s.steps ≡ s.steps) × (s.seconds ≡ s.seconds)
        × (s.axles ≡ s.axles)
    same = (refl, refl, refl, refl, refl, refl, refl)

    told : {row : Row} → OfKind L s e.first e.second e.kind row → (11 ≤ e.kind) × (e.kind ≤ 14) → Done L s e row.does
    told r k = rw (heads_row_kind r k).0 (reads (by_heads k refl refl))

    go : {row : Row} → OfKind L s e.first e.second e.kind row → Done L s e row.does
    go (section_row_kind q) = reads (by_code q)
    go (point_row_kind q) = leaves (omega arith) same
    go (throw_row_kind q) = leaves (omega arith) same
    go (set_row_kind q) = rw (set_lines L.route s e.first) (sets q)
    go (cancel_row_kind q) = cancels q
    go (secure_row_kind q) = secures q
    go (manual_row_kind q) = opens q
    go (bar_row_kind q) = leaves (omega arith) same
    go (unbar_row q) = leaves (omega arith) same
    go (second_row_kind q) = leaves (omega arith) same
    go (count_row_kind (inl q)) = told (count_row_kind (inl q)) (omega arith)
    go (count_row_kind (inr q)) = told (count_row_kind (inr q)) (omega arith)
    go (silent_row_kind q) = told (silent_row_kind q) (omega arith)
    go (reset_row_kind q) = told (reset_row_kind q) (omega arith)
    go (lamp_row_kind q) = leaves (omega arith) same
    go (no_row_kind u) = leaves (u.others.no_set, u.others.no_cancel, u.others.no_secure, u.others.no_release, (u.others.no_section, u.no_in, u.no_out, u.no_silent, u.no_reset)) same

module _ (L : Layout) {s : State} {e : Event} {g v : ℕ} {xs : List Axles} (told : Tells s e g v xs) where
  -- the state that an event leaves which gives section g the reading v: it gives no other
  pub tells_done : done L s e ≡ own_section L.signals L.line L.lines (with_axles s xs) g v
  tells_done = go (is_done L s e)
    where
      go : {t : State} → Done L s e t → t ≡ own_section L.signals L.line L.lines (with_axles s xs) g v
      go (reads u) = let (a, b, c) = tells_once u told in rw (a, b, c)
      go (sets k) = absurd (tells_no_order told (omega arith))
      go (cancels k) = absurd (tells_no_order told (omega arith))
      go (secures k) = absurd (tells_no_order told (omega arith))
      go (opens k) = absurd (tells_no_order told (omega arith))
      go (leaves f u) = absurd (tells_nothing told f.4)

  -- so at its end that section reads v, and any other what it read
  pub tells_readings : (end L s e).section ≡ put most_sections s.section g v
  unfolding after settle line_release with_lines arrivals routes routes_by with_routes far_sections signals own_section with_sections with_axles
  tells_readings = ap (λ (t : State). t.section) tells_done

-- the same of points and bars; the other kinds leave both as they are
pub data Placed (s : State) (e : Event) : State → Type 0 where
  point_read : e.kind ≡ 2 → Placed s e (own_point s e.first (recorded e.second))
  thrown : e.kind ≡ 3 → Placed s e (own_throw s e.first e.second)
  barred : e.kind ≡ 8 → Placed s e (own_bar s e.first e.second 1)
  unbarred : e.kind ≡ 9 → Placed s e (own_bar s e.first e.second 0)
  untouched : {t : State} → (e.kind ≢ 2) × (e.kind ≢ 3) × (e.kind ≢ 8) × (e.kind ≢ 9) → (t.point ≡ s.point) × (t.bar ≡ s.bar) → Placed s e t

-- by its row
pub is_placed : (L : Layout) (s : State) (e : Event) → Placed s e (done L s e)
unfolding own section_row point_row throw_row set_row cancel_row secure_row manual_row bar_row second_row head_row count_row silent_row reset_row lamp_row no_row
    own_section own_lock own_cancel own_secure own_manual own_heads own_lamp with_sections with_routes with_lines with_axles with_lamps
is_placed L s e = go (row_kind_of L s e.kind e.first e.second)
  where
    go : {row : Row} → OfKind L s e.first e.second e.kind row → Placed s e row.does
    go (section_row_kind q) = untouched (omega arith) (refl, refl)
    go (point_row_kind q) = point_read q
    go (throw_row_kind q) = thrown q
    go (set_row_kind q) = rw (set_lines L.route s e.first) (untouched (omega arith) (refl, refl))
    go (cancel_row_kind q) = untouched (omega arith) (refl, refl)
    go (secure_row_kind q) = untouched (omega arith) (refl, refl)
    go (manual_row_kind q) = untouched (omega arith) (refl, refl)
    go (bar_row_kind q) = barred q
    go (unbar_row q) = unbarred q
    go (second_row_kind q) = untouched (omega arith) (refl, refl)
    go (count_row_kind (inl q)) = untouched (omega arith) (refl, refl)
    go (count_row_kind (inr q)) = untouched (omega arith) (refl, refl)
    go (silent_row_kind q) = untouched (omega arith) (refl, refl)
    go (reset_row_kind q) = untouched (omega arith) (refl, refl)
    go (lamp_row_kind q) = untouched (omega arith) (refl, refl)
    go (no_row_kind u) = untouched (u.others.no_point, u.others.no_throw, u.others.no_bar, u.others.no_unbar) (refl, refl)

-- ---- routes

module _ (L : Layout) (s : State) (r was : ℕ) where
  -- only a signal at proceed can fall
  pub fallen_else : was ≢ 1 → fallen_at L.line L.route s r was ≡ was
  unfolding fallen_at fallen
  fallen_else d = passed_over _ _ _ (ne_eqb was 1 d)

  -- one that is still at proceed has all that keeps it there
  fallen_not : fallen_at L.line L.route s r was ≡ 1 → clear L.line s.section s.point s.stage s.bar (route_in L r) ≡ true
  unfolding fallen_at fallen route_in
  fallen_not = if_both R (eqb was 1) (λ t. if_both R _ (λ c z. c) (λ c z. absurd (omega arith))) (λ f z. absurd (eqb-false _ _ f z))
    where
      R : ℕ → Type 0
      R n = n ≡ 1 → clear L.line s.section s.point s.stage s.bar (route_in L r) ≡ true

-- letting routes go makes a route idle, or leaves its phase
let_go : (L : Layout) (s : State) (g : Gives) (r : ℕ) → unless_idle s r (phase s r) (route_after L.line L.route s g r).phase ≢ 0
    → unless_idle s r (phase s r) (route_after L.line L.route s g r).phase ≡ phase s r
unfolding unless_idle route_after locking_after locking_of
let_go L s g r =
    if_both (λ n. n ≢ 0 → n ≡ phase s r) _ (λ t d. refl)
    (λ f. if_both (λ (h : Locking). h.phase ≢ 0 → h.phase ≡ phase s r) _ (λ t d. absurd (d refl)) (λ t d. refl))

module _ (L : Layout) (few : L.routes ≤ most_train_routes) (s : State) (e : Event) (r : ℕ) (b : r < L.routes) where
  -- the signals go route by route
  pub phase_lit : phase (lit L s e) r ≡ fallen_at L.line L.route (done L s e) r (phase (done L s e) r)
  unfolding signals with_routes
  phase_lit = read_each most_routes 0 L.routes _ _ r (omega arith) b

  -- by the end of the event a route is idle, or in the phase that its signal left it in
  pub phase_kept : phase (end L s e) r ≢ 0 → phase (end L s e) r ≡ phase (lit L s e) r
  unfolding after settle line_release with_lines arrivals routes routes_by with_routes far_sections
  phase_kept = rw (read_each most_routes 0 L.routes _ (lit L s e).phase r (omega arith) b) (let_go L (far_sections L s (lit L s e)) _ r)

  -- a route whose signal is not at proceed after the event's own effect goes, or keeps its phase
  pub phase_stays : phase (done L s e) r ≢ 1
      → (phase (end L s e) r ≡ 0) ⊎ (phase (end L s e) r ≡ phase (done L s e) r)
  phase_stays d = go (ℕ_discrete (phase (end L s e) r) 0)
    where
      go : Dec (phase (end L s e) r ≡ 0) → (phase (end L s e) r ≡ 0) ⊎ (phase (end L s e) r ≡ phase (done L s e) r)
      go (yes z) = inl z
      go (no z) = inr (phase_kept z ∙ phase_lit ∙ fallen_else L (done L s e) r _ d)

  -- a signal that still shows proceed had after the event's own effect all that keeps it there
  pub lit_clear : phase (lit L s e) r ≡ 1
      → clear L.line (done L s e).section (done L s e).point (done L s e).stage (done L s e).bar (route_in L r) ≡ true
  lit_clear p = fallen_not L (done L s e) r _ (sym phase_lit ∙ p)

  -- and so had one that shows proceed at the end
  pub phase_clear : phase (end L s e) r ≡ 1
      → clear L.line (done L s e).section (done L s e).point (done L s e).stage (done L s e).bar (route_in L r) ≡ true
  phase_clear p = lit_clear (sym (phase_kept (omega arith)) ∙ p)

  -- a route that is locked at the end was locked before, or is set by the event
  pub was_locked : (e.kind ≡ 5 → phase s e.first ≢ 0) → phase (end L s e) r ≢ 0
      → On 4 e r ⊎ (phase s r ≢ 0)
  unfolding own_section own_lock own_cancel own_secure own_manual with_sections with_routes with_lines with_axles
  was_locked cancelled d = go (is_done L s e) own_locked
    where
      own_locked : phase (done L s e) r ≢ 0
      own_locked z = d (phase_kept d ∙ phase_lit ∙ fallen_else L (done L s e) r _ (omega arith) ∙ z)

      stored : (v : ℕ) → (e.first ≡ r → On 4 e r ⊎ (phase s r ≢ 0)) → Dec (r ≡ e.first)
          → read most_routes 0 (put most_routes s.phase e.first v) r ≢ 0 → On 4 e r ⊎ (phase s r ≢ 0)
      stored v here (yes q) x = here (sym q)
      stored v here (no q) x = inr (λ z. x (put_elsewhere most_routes 0 s.phase e.first v r (omega arith) q ∙ z))

      go : {t : State} → Done L s e t → phase t r ≢ 0
          → On 4 e r ⊎ (phase s r ≢ 0)
      go (reads k) x = inr x
      go (sets k) x = stored 1 (λ q. inl (k, q)) (ℕ_discrete r e.first) x
      go (cancels k) x = stored 3 (λ q. inr (λ z. cancelled k (ap (phase s) q ∙ z))) (ℕ_discrete r e.first) x
      go (secures k) x = inr x
      go (opens k) x = inr x
      go (leaves f u) x = inr (λ z. x (rw u.1 z))

-- ---- lines

module _ (L : Layout) (few : L.lines ≤ most_lines) (s : State) (e : Event) (l : ℕ) (b : l < L.lines) where
  -- by the end of the event the line is as its own effect left it, or the line release made it neutral
  pub released : (direction (end L s e) l ≡ direction (done L s e) l)
      ⊎ ((direction (end L s e) l ≡ 0) × (ends L s (waited L s e) l (direction (done L s e) l) ≡ true))
  unfolding after settle line_release directions_after with_lines arrivals routes routes_by with_routes far_sections signals direction_after line_in
  released =
      rw (read_each most_lines 0 L.lines _ (done L s e).direction l (omega arith) b)
      (if_both R _ (λ t. inl refl) (λ f. if_both R _ (λ t. inr (refl, t)) (λ t. inl refl)))
    where
      R : ℕ → Type 0
      R n = (n ≡ direction (done L s e) l) ⊎ ((n ≡ 0) × (ends L s (waited L s e) l (direction (done L s e) l) ≡ true))

  -- a line with a held block does not become neutral by itself
  pub direction_held : (i : ℕ) → i < (line_in L l).blocks → stage (end L s e) l i ≢ 0
      → direction (end L s e) l ≡ direction (done L s e) l
  unfolding after settle line_release with_lines ends_by passable is_open line_in
  direction_held i h d = ⊎_elim (λ q. q) (λ t. absurd (d (eqb-true _ 0 (and_left _ _ (all_at _ _ (every_at _ t.1 1) i h))))) released

  -- nor does one with an exit route locked
  pub direction_locked : (r : ℕ) → r < L.routes → (route_in L r).kind ≡ 2 → (route_in L r).line ≡ l → phase (end L s e) r ≢ 0
      → direction (end L s e) l ≡ direction (done L s e) l
  unfolding after settle line_release with_lines ends_by locked_exit locked_exit_by locked route_in
  direction_locked r h k q d = ⊎_elim (λ z. z) (λ t. not_both some (not-true _ (every_at _ t.1 2))) released
    where
      some : any_below L.routes (locked_exit L.route (end L s e).phase l) ≡ true
      some = any_at _ _ r h (and_both _ _ (fails_not _ (ne_eqb _ 0 d)) (and_both _ _ (eq-eqb _ 2 k) (eq-eqb _ l q)))
