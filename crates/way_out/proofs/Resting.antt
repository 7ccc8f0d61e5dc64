-- The events that prepare a route to be set, and what they keep: rest (every route idle, every line neutral, every block open and free), sections that
-- read free, blocks that are not barred, the points of the route in position.
use Prim.Native.Nat.{ℕ, ◌<◌, ◌≤◌}
use mathlib.Core.Path.{◌≡◌, refl, sym, ap, ◌∙◌}
use mathlib.Core.Logic.{◌≢◌, ◌⊎◌, inl, inr, ⊎_elim}
use mathlib.Core.Bool.{Bool, true, false}
use mathlib.Core.List.{List}
use native.Mathlib.Decide.{ℕ_discrete}
use native.Mathlib.Omega.{arith}
use borrow.Author.Tests.{eqb-true, eq-eqb}
use lib.Dec.{eqb}
use Rattle.laws.specs.Choice.{when◌then◌else◌}
use Rattle.laws.proofs.Choice.{if_both, chosen, passed_over}
use Rattle.laws.proofs.Tests.{not_both, fails_from, any_at, any_some}
use Rattle.track.specs.declared.Line.{Line}
use Rattle.track.specs.Sizes.{most_points, most_blocks, most_places, most_lamps}
use Rattle.track.specs.Blocks.{only_section}
use Rattle.track.proofs.OnlySection.{only_in, in_only}
use Rattle.rules.specs.Rules.{has_block, is_block}
use Rattle.tables.specs.declared.Gives.{Gives}
use Rattle.tables.specs.Readings.{recorded, reading, block_reading, block_given, point_reading}
use Rattle.axles.specs.declared.Axles.{Axles}
use Rattle.tables.specs.Blocks.{place, stage_of, is_open, unbarred}
use Rattle.passage.specs.Passage.{own_stage}
use Rattle.lamps.specs.Lamps.{lamp_of}
use Rattle.line_block.specs.PassingBack.{waited_stage_at, passed_back}
use Rattle.line_block.specs.OwnReadings.{own_given, own_stage_at, given_stages, own_stages}
use Rattle.layout.specs.declared.Layout.{Layout}
use Rattle.layout.specs.Layout.{line_in, route_in}
use Rattle.layout_facts.specs.Plain.{route_point, route_position, Sound}
use Rattle.interlocking.specs.declared.State.{State}
use Rattle.interlocking.specs.State.{with_sections, with_points, with_routes, with_lines, with_bars, with_axles, with_lamps}
use Rattle.interlocking.specs.Own.{own_section, own_point, throw_reading, own_throw, own_lock, own_cancel, own_secure, own_bar, own_lamp}
use Rattle.interlocking.specs.Settle.{signals, far_sections, routes_by, routes, arrivals, line_release, settle}
use Rattle.interlocking.specs.Rows.{point_row, throw_row, bar_row, lamp_row, row_with, row_of}
use Rattle.interlocking.specs.Step.{own, after}
use Rattle.step_facts.specs.Run.{Event, event}
use Rattle.way_out.specs.WayOut.{AtRest}
use Rattle.step_facts.proofs.Entries.{block, block_below, direction, stage, place_line, place_block, read_block, put_here, put_elsewhere}
use Rattle.step_facts.proofs.Tells.{Tells, tells_nothing, tells_no_order, tells_once}
use Rattle.step_facts.proofs.Within.{end, Done, reads, sets, cancels, secures, opens, leaves, is_done, released}
use Rattle.step_facts.proofs.Securing.{direction_same}
use Rattle.line_block.proofs.PassingBackLaws.{not_waiting}
use Rattle.step_facts.proofs.FarCases.{open_same}
use Rattle.way_out.proofs.Freeing.{told_elsewhere}
use Rattle.way_out.proofs.Calm.{idle_on}
use Rattle.way_out.proofs.OrdersGranted.{AllFree, RoutePlaced, AllUnbarred}

-- ---- blocks

-- section g is no block
abbrev pub OffBlocks : Layout → ℕ → Type 0
OffBlocks L g = (l i : ℕ) → l < L.lines → i < (line_in L l).blocks → block L l i ≢ g

module _ (L : Layout) (g : ℕ) where
  -- it is not found among the blocks
  pub off_blocks : is_block L.lines L.line g ≡ false → OffBlocks L g
  unfolding is_block has_block line_in
  off_blocks f l i b c q = not_both (any_at _ _ l b (any_at _ _ i c (rw (← q) (only_in (line_in L l) i)))) f

  -- it is, and reads free at rest
  pub block_free : (s : State) → AtRest L s → is_block L.lines L.line g ≡ true → reading s.section g ≡ 1
  unfolding is_block has_block block_reading line_in
  block_free s rest t =
      let (l, b, u) = any_some _ _ t in
      let (i, c, v) = any_some _ _ u in
      ap (reading s.section) (sym (in_only (line_in L l) i g v)) ∙ rest.free l i b c

-- an open block to which nothing is given stays open, whatever the lamp of its far signal reports
given_nothing : (lit : Bool) → own_stage 0 lit 0 ≡ 0
unfolding own_stage when◌then◌else◌
given_nothing lit = refl

-- a reading of a section that is not the block's gives it nothing
keeps_open : (e : Gives) (b : Line) (i : ℕ) (lit : Bool) → only_section b i ≢ e.section → own_stage (own_given e b i) lit 0 ≡ 0
unfolding own_given block_given
keeps_open e b i lit d =
    ap (λ v. own_stage v lit 0) (if_both (λ v. v ≡ 0) _ (λ t. passed_over _ _ _ (fails_from _ (λ u. d (in_only b i _ u)))) (λ f. refl)) ∙ given_nothing lit

module _ (L : Layout) (S : Sound L) (s : State) (e : Event) (told : (g v : ℕ) (xs : List Axles) → Tells s e g v xs → OffBlocks L g) (by_hand : e.kind ≢ 7) where
  -- an open block stays open in an event that is no manual release and gives no block anything
  pub open_stays : (l i : ℕ) → l < L.lines → i < (line_in L l).blocks → is_open s.stage l i ≡ true → is_open (end L s e).stage l i ≡ true
  unfolding is_open stage_of own_section own_stages given_stages passed_back waited_stage_at own_lock own_cancel own_secure with_sections with_routes with_lines with_axles own_stage_at line_in
  open_stays l i b h o = let own = go (is_done L s e) in open_same L S s e l i b h (omega (arith, own)) ∙ eq-eqb _ 0 own
    where
      few : i < most_blocks
      few = omega (arith, (S.ranges.lines l b).block_count)

      was : stage s l i ≡ 0
      was = eqb-true _ 0 o

      given : {g v : ℕ} {xs : List Axles} → Tells s e g v xs
          → stage_of (given_stages L.lines L.signals L.line s.direction s.lamp (record { section = g; reading = v; tick = 0 }) s.stage) l i ≡ 0
      given u =
          read_block l i few L.lines _ s.stage b S.ranges.line_count
          ∙ rw (was, place_line l i few, place_block l i few) (keeps_open _ (line_in L l) i _ (told _ _ _ u l i b h))

      go : {t : State} → Done L s e t → stage t l i ≡ 0
      go (reads u) = read_block l i few L.lines _ _ b S.ranges.line_count ∙ not_waiting _ _ _ _ _ _ _ (omega (arith, given u)) ∙ given u
      go (sets k) = was
      go (cancels k) = was
      go (secures k) = was
      go (opens k) = absurd (by_hand k)
      go (leaves f u) = rw u.3 was

-- ---- sections, points and bars

module _ (L : Layout) (s : State) where
  -- a lamp's report of stop leaves points, and it is what the lamp then reports (L3)
  pub stop_reported : (x : ℕ) → ((end L s (event 15 x 1)).point ≡ s.point) × (x < most_lamps → lamp_of (end L s (event 15 x 1)).lamp x ≡ 1)
  unfolding own row_of row_with lamp_row own_lamp with_lamps recorded when◌then◌else◌ after settle line_release with_lines arrivals routes routes_by with_routes far_sections signals lamp_of
  stop_reported x = (refl, λ b. put_here most_lamps 3 s.lamp x 1 x b refl)

  -- after a reading of point p, point q reads v: as it did, or as it is read now
  pub point_reads : (p w q v : ℕ) → q < most_points → (v ≡ 1) ⊎ (v ≡ 2) → (q ≡ p → v ≡ w) → (q ≡ p) ⊎ (point_reading s.point q ≡ v)
      → point_reading (end L s (event 2 p w)).point q ≡ v
  unfolding own row_of row_with point_row own_point with_points when◌then◌else◌ after settle line_release with_lines arrivals routes routes_by with_routes far_sections signals point_reading recorded
  point_reads p w q v b position same was = go (ℕ_discrete q p)
    where
      as_told : (v ≡ 1) ⊎ (v ≡ 2) → recorded v ≡ v
      as_told (inl z) = rw z
      as_told (inr z) = rw z

      go : Dec (q ≡ p) → point_reading (end L s (event 2 p w)).point q ≡ v
      go (yes z) = put_here most_points 3 s.point p (recorded w) q b z ∙ ap recorded (sym (same z)) ∙ as_told position
      go (no d) = put_elsewhere most_points 3 s.point p (recorded w) q b d ∙ ⊎_elim (λ z. absurd (d z)) (λ z. z) was

  -- after a throw of point p, point q reads v as it did, where it is not thrown elsewhere
  throw_reads : (p w q v : ℕ) → q < most_points → (q ≡ p → v ≡ w) → point_reading s.point q ≡ v → point_reading (end L s (event 3 p w)).point q ≡ v
  unfolding own row_of row_with throw_row own_throw throw_reading with_points when◌then◌else◌ after settle line_release with_lines arrivals routes routes_by with_routes far_sections signals point_reading
  throw_reads p w q v b same was = go (ℕ_discrete q p)
    where
      go : Dec (q ≡ p) → point_reading (end L s (event 3 p w)).point q ≡ v
      go (yes z) =
          put_here most_points 3 s.point p (throw_reading s.point p w) q b z
          ∙ chosen _ _ _ (eq-eqb (point_reading s.point p) w (ap (point_reading s.point) (sym z) ∙ was ∙ same z)) ∙ sym (same z)
      go (no d) = put_elsewhere most_points 3 s.point p (throw_reading s.point p w) q b d ∙ was

  -- an unbarred block is not barred, nor is one that was not
  pub unbar_clears : (k i l j : ℕ) → place l j < most_places → (place l j ≡ place k i) ⊎ (unbarred s.bar l j ≡ true) → unbarred (end L s (event 9 k i)).bar l j ≡ true
  unfolding own row_of row_with bar_row own_bar with_bars when◌then◌else◌ after settle line_release with_lines arrivals routes routes_by with_routes far_sections signals unbarred
  unbar_clears k i l j b was = go (ℕ_discrete (place l j) (place k i))
    where
      go : Dec (place l j ≡ place k i) → unbarred (end L s (event 9 k i)).bar l j ≡ true
      go (yes z) = eq-eqb _ 0 (put_here most_places 1 s.bar (place k i) 0 (place l j) b z)
      go (no d) =
          ap (λ n. eqb n 0) (put_elsewhere most_places 1 s.bar (place k i) 0 (place l j) b d)
          ∙ ⊎_elim (λ z. absurd (d z)) (λ z. z) was

-- ---- the events that prepare route r

-- the route does not ask point p in a position other than w
abbrev pub Agrees : Layout → ℕ → ℕ → ℕ → Type 0
Agrees L r p w = (j : ℕ) → j < (route_in L r).points → route_point L r j ≡ p → route_position L r j ≡ w

-- a block is unbarred, a point is thrown to a position, or reads one, that agrees with what the route asks
pub data Prepares (L : Layout) (r : ℕ) : Event → Type 0 where
  by_unbar : (l i : ℕ) → Prepares L r (event 9 l i)
  by_throw : (p w : ℕ) → Agrees L r p w → Prepares L r (event 3 p w)
  by_point : (p w : ℕ) → Agrees L r p w → Prepares L r (event 2 p w)

-- they set, cancel, secure and release nothing, and give no section a reading
quiet : {L : Layout} {r : ℕ} {e : Event} → Prepares L r e → (2 ≤ e.kind) × (e.kind ≤ 10) × (e.kind ≢ 4) × (e.kind ≢ 5) × (e.kind ≢ 6) × (e.kind ≢ 7)
quiet (by_unbar l i) = omega arith
quiet (by_throw p w a) = omega arith
quiet (by_point p w a) = omega arith

-- they leave what sections read
by_sections : (L : Layout) (r : ℕ) (s : State) (e : Event) → Prepares L r e → (end L s e).section ≡ s.section
unfolding own row_of row_with point_row throw_row bar_row own_point own_throw own_bar with_points with_bars when◌then◌else◌ after settle line_release with_lines arrivals routes routes_by with_routes far_sections signals
by_sections L r s e (by_unbar l i) = refl
by_sections L r s e (by_throw p w a) = refl
by_sections L r s e (by_point p w a) = refl

-- they bar no block
by_bars : (L : Layout) → Sound L → (r : ℕ) (s : State) (e : Event) → Prepares L r e → (l i : ℕ) → l < L.lines → i < (line_in L l).blocks → unbarred s.bar l i ≡ true
    → unbarred (end L s e).bar l i ≡ true
unfolding own row_of row_with point_row throw_row own_point own_throw with_points when◌then◌else◌ after settle line_release with_lines arrivals routes routes_by with_routes far_sections signals place
by_bars L S r s e (by_unbar k j) l i b c was = unbar_clears L s k j l i (omega (arith, (S.ranges.lines l b).block_count, S.ranges.line_count)) (inr was)
by_bars L S r s e (by_throw p w a) l i b c was = was
by_bars L S r s e (by_point p w a) l i b c was = was

-- they take no point of the route out of position
by_points : (L : Layout) → Sound L → (r : ℕ) → r < L.routes → (s : State) (e : Event) → Prepares L r e → RoutePlaced L r s → RoutePlaced L r (end L s e)
unfolding own row_of row_with bar_row own_bar with_bars when◌then◌else◌ after settle line_release with_lines arrivals routes routes_by with_routes far_sections signals
by_points L S r b s e (by_unbar l i) was = was
by_points L S r b s e (by_throw p w a) was =
    λ j c. throw_reads L s p w _ _ (omega (arith, (S.ranges.routes r b).points j c, S.ranges.point_count)) (a j c) (was j c)
by_points L S r b s e (by_point p w a) was =
    let own = S.ranges.routes r b in
    λ j c. point_reads L s p w _ _ (omega (arith, own.points j c, S.ranges.point_count)) (own.positions j c) (a j c) (inr (was j c))

-- t is at rest and as far as s on the way to route r: what read free does, what was not barred is not, and the points of the route are in position if they
-- were
pub record Onward (L : Layout) (r : ℕ) (s t : State) : Type 0 where
  pub rest : AtRest L t
  pub free : (g : ℕ) → g < L.sections → reading s.section g ≡ 1 → reading t.section g ≡ 1
  pub bars : (l i : ℕ) → l < L.lines → i < (line_in L l).blocks → unbarred s.bar l i ≡ true → unbarred t.bar l i ≡ true
  pub placed : RoutePlaced L r s → RoutePlaced L r t

-- Q lasts on such a way
abbrev pub Lasting : Layout → ℕ → (State → Type 0) → Type 0
Lasting L r Q = (s t : State) → Onward L r s t → Q s → Q t

-- what lasts, together
pub both_last : {L : Layout} {r : ℕ} {P Q : State → Type 0} → Lasting L r P → Lasting L r Q → Lasting L r (λ t. P t × Q t)
both_last f g s t on q = (f s t on q.0, g s t on q.1)

module _ (L : Layout) (S : Sound L) (s : State) (rest : AtRest L s) where
  -- rest lasts in an event that sets, cancels, secures and releases nothing, gives no block a reading and leaves what blocks read
  rest_on : (e : Event) → (e.kind ≢ 4) × (e.kind ≢ 5) × (e.kind ≢ 6) × (e.kind ≢ 7) → ((g v : ℕ) (xs : List Axles) → Tells s e g v xs → OffBlocks L g)
      → ((l i : ℕ) → l < L.lines → i < (line_in L l).blocks → block_reading (end L s e).section (line_in L l) i ≡ 1) → AtRest L (end L s e)
  rest_on e q told free = record {
    routes = λ a c. idle_on L S s e a c q.0 q.1 (rest.routes a c);
    lines = λ l c.
        ⊎_elim (λ z. z ∙ direction_same L S.ranges.line_count s e l c (⊎_elim (λ o. q.2 o.0) (λ D. q.0 D.is_set)) (λ o. q.3 o.0) ∙ rest.lines l c)
        (λ t. t.0) (released L S.ranges.line_count s e l c);
    blocks = λ l i c h. open_stays L S s e told q.3 l i c h (rest.blocks l i c h);
    free = free;
  }

  -- so it does in any reading of a section that is no block
  pub rest_told : {e : Event} {g v : ℕ} {xs : List Axles} → Tells s e g v xs → OffBlocks L g → AtRest L (end L s e)
  unfolding block_reading
  rest_told {e} told off =
      rest_on e (λ k. tells_no_order told (omega arith), λ k. tells_no_order told (omega arith), λ k. tells_no_order told (omega arith), λ k. tells_no_order told (omega arith))
      (λ h w ys t. rw (tells_once t told).0 off) (λ l i b c. told_elsewhere L told (block L l i) (block_below L S l i b c) (off l i b c) ∙ rest.free l i b c)

  -- each event that prepares a route leads onward
  pub onward : (r : ℕ) → r < L.routes → (e : Event) → Prepares L r e → Onward L r s (end L s e)
  onward r b e by = record {
    rest = let q = quiet by in rest_on e (q.2, q.3, q.4, q.5) (λ g v xs told. absurd (tells_no_order told (q.0, q.1))) (rw (by_sections L r s e by) rest.free);
    free = λ g c. rw (by_sections L r s e by) (λ was. was);
    bars = by_bars L S r s e by;
    placed = by_points L S r b s e by;
  }

  -- so does a lamp's report of stop (L3): it leaves sections, points and bars
  pub stop_onward : (r x : ℕ) → Onward L r s (end L s (event 15 x 1))
  unfolding own row_of row_with lamp_row own_lamp with_lamps when◌then◌else◌ after settle line_release with_lines arrivals routes routes_by with_routes far_sections signals
  stop_onward r x = record {
    rest = rest_on (event 15 x 1) (omega arith) (λ g v xs told. absurd (tells_nothing told (omega arith))) rest.free;
    free = λ g c was. was;
    bars = λ l i b c was. was;
    placed = λ was. was;
  }

-- ---- what lasts

module _ (L : Layout) (r : ℕ) where
  -- rest
  pub rest_lasts : Lasting L r (AtRest L)
  rest_lasts s t on q = on.rest

  -- sections that read free
  pub free_lasts : (n : ℕ) (g : ℕ → ℕ) → ((j : ℕ) → j < n → g j < L.sections) → Lasting L r (AllFree n g)
  free_lasts n g there s t on was = λ j b. on.free (g j) (there j b) (was j b)

  -- blocks that are not barred
  pub bars_last : (l : ℕ) → l < L.lines → Lasting L r (AllUnbarred l (line_in L l).blocks)
  bars_last l b s t on was = λ i c. on.bars l i b c (was i c)

  -- the points of the route in position
  pub points_last : Lasting L r (RoutePlaced L r)
  points_last s t on = on.placed
