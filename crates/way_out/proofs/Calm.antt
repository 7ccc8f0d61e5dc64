-- What the events of the way out do: cancel, one second, a manual release. What a reading does stands in Freeing.
use Prim.Native.Nat.{ℕ, ◌+◌, ◌%◌, ◌<◌}
use mathlib.Core.Path.{◌≡◌, refl, sym, ◌∙◌}
use mathlib.Core.Logic.{◌≢◌, ◌⊎◌, inl, inr, ⊎_elim}
use mathlib.Core.Bool.{false}
use mathlib.Core.List.{List}
use native.Mathlib.Decide.{ℕ_discrete, dec_lt}
use native.Mathlib.Omega.{arith}
use borrow.Author.Tests.{eqb-true, eq-eqb, ne_eqb, le-leb, lt-ltb}
use Rattle.laws.specs.Choice.{when◌then◌else◌}
use Rattle.laws.specs.Tables.{read}
use Rattle.laws.proofs.Choice.{if_both, chosen, passed_over}
use Rattle.laws.proofs.Tests.{and_both, or_left, not_both}
use Rattle.track.specs.declared.Line.{Line}
use Rattle.track.specs.declared.Route.{Route}
use Rattle.track.specs.Sizes.{most_lines, most_blocks, most_train_routes, most_routes}
use Rattle.track.specs.Objects.{line}
use Rattle.tables.specs.Blocks.{place, is_open}
use Rattle.tables.specs.declared.Gives.{Gives}
use Rattle.release.specs.declared.Locking.{Locking}
use Rattle.release.specs.Release.{watched_pair, steps_after, seconds_after, goes, locking_after}
use Rattle.layout.specs.declared.Layout.{Layout}
use Rattle.layout.specs.Layout.{line_in}
use Rattle.layout_facts.specs.Plain.{Sound}
use Rattle.interlocking.specs.declared.State.{State}
use Rattle.interlocking.specs.State.{with_sections, with_routes, with_lines, with_axles}
use Rattle.interlocking.specs.Own.{own_section, own_lock, own_cancel, own_secure, open_at, own_manual}
use Rattle.interlocking.specs.Settle.{signals, far_sections, locking_of, route_after, unless_idle, routes_by, routes, arrivals, line_release, settle}
use Rattle.interlocking.specs.Rows.{a_second, cancel_row, manual_row, second_row, row_with, row_of}
use Rattle.interlocking.specs.Step.{own, gives, after}
use Rattle.step_facts.specs.Run.{Event, event}
use Rattle.step_facts.proofs.Entries.{phase, direction, stage, place_line, place_block, read_block, read_each, put_here, put_elsewhere}
use Rattle.step_facts.proofs.Within.{done, lit, end, Done, reads, sets, cancels, secures, opens, leaves, is_done, fallen_else, phase_lit, phase_stays, released}
use Rattle.step_facts.proofs.FarCases.{open_same}

-- ---- routes

-- the seconds counted of route r
abbrev pub second : State → ℕ → ℕ
second s r = read most_train_routes 0 s.seconds r

-- idle or cancelling
abbrev pub Calm : State → ℕ → Type 0
Calm s r = (phase s r ≡ 0) ⊎ (phase s r ≡ 3)

module _ (L : Layout) (S : Sound L) (s : State) (e : Event) (r : ℕ) (b : r < L.routes) where
  -- an event that sets no route and does not cancel this one does not itself change its phase
  phase_own : e.kind ≢ 4 → (e.kind ≡ 5 → e.first ≢ r) → phase (done L s e) r ≡ phase s r
  unfolding own_section own_lock own_cancel own_secure own_manual with_sections with_routes with_lines with_axles
  phase_own d other = go (is_done L s e)
    where
      go : {t : State} → Done L s e t → phase t r ≡ phase s r
      go (reads k) = refl
      go (sets k) = absurd (d k)
      go (cancels k) = put_elsewhere most_routes 0 s.phase e.first 3 r (omega (arith, S.ranges.route_count)) (λ z. other k (sym z))
      go (secures k) = refl
      go (opens k) = refl
      go (leaves f u) = rw u.1

  -- an idle route stays idle, where the event sets and cancels none
  pub idle_on : e.kind ≢ 4 → e.kind ≢ 5 → phase s r ≡ 0 → phase (end L s e) r ≡ 0
  idle_on d c z =
      let same = phase_own d (λ k. absurd (c k)) in
      ⊎_elim (λ q. q) (λ q. q ∙ same ∙ z) (phase_stays L S.ranges.route_count s e r b (omega arith))

  -- a route that the event left idle or cancelling is so at its end
  calm_then : Calm (done L s e) r → Calm (end L s e) r
  calm_then (inl z) = ⊎_elim inl (λ q. inl (q ∙ z)) (phase_stays L S.ranges.route_count s e r b (omega arith))
  calm_then (inr z) = ⊎_elim inl (λ q. inr (q ∙ z)) (phase_stays L S.ranges.route_count s e r b (omega arith))

  -- and so is one that was so before and that it neither sets nor cancels
  pub calm_on : e.kind ≢ 4 → (e.kind ≡ 5 → e.first ≢ r) → Calm s r → Calm (end L s e) r
  calm_on d other c = calm_then (⊎_elim (λ z. inl (phase_own d other ∙ z)) (λ z. inr (phase_own d other ∙ z)) c)

  -- and so is one that it cancelled
  pub cancelled : e.kind ≡ 5 → e.first ≡ r → Calm (end L s e) r
  unfolding own row_of row_with cancel_row own_cancel with_routes when◌then◌else◌
  cancelled k q = calm_then (inr (rw (k, q) (put_here most_routes 0 s.phase r 3 r (omega (arith, S.ranges.route_count)) refl)))

-- in an event that gives a second a cancelling route goes, or counts it
ticked : (ls : List Line) (sections : List ℕ) (a : Route) (g : Gives) (h : Locking) → g.tick ≡ 1 → h.phase ≡ 3
    → ((locking_after ls sections a g h).phase ≡ 0) ⊎ (((locking_after ls sections a g h).phase ≡ 3) × ((locking_after ls sections a g h).seconds ≡ h.seconds + 1))
unfolding locking_after goes seconds_after
ticked ls sections a g h tick three = if_both R _ (λ t. inl refl) (λ f. inr (three, counts f))
  where
    R : Locking → Type 0
    R x = (x.phase ≡ 0) ⊎ ((x.phase ≡ 3) × (x.seconds ≡ h.seconds + 1))

    few : goes ls sections a g h (steps_after (watched_pair ls sections a g) h.steps) ≡ false → Dec (h.seconds < 89) → h.seconds < 89
    few f (yes d) = d
    few f (no d) = not_both (or_left _ _ (and_both _ _ (eq-eqb _ 3 three) (and_both _ _ (eq-eqb _ 1 tick) (le-leb 89 h.seconds (omega arith))))) f

    counts : goes ls sections a g h (steps_after (watched_pair ls sections a g) h.steps) ≡ false → seconds_after g h.phase h.seconds ≡ h.seconds + 1
    counts f =
        chosen _ _ _ (and_both _ _ (eq-eqb _ 3 three) (eq-eqb _ 1 tick)) ∙ chosen _ _ _ (lt-ltb _ 89 (few f (dec_lt h.seconds 89)))

module _ (L : Layout) (S : Sound L) (s : State) (r : ℕ) (b : r < L.routes) (three : phase s r ≡ 3) where
  -- the state in which routes are let go
  far : State
  far = far_sections L s (lit L s (event 10 0 0))

  -- its signal is not at proceed, so it does not fall
  still_three : phase far r ≡ 3
  unfolding far own row_of row_with second_row when◌then◌else◌ far_sections with_lines
  still_three = phase_lit L S.ranges.route_count s (event 10 0 0) r b ∙ fallen_else L s r (phase s r) (omega arith) ∙ three

  -- a route that is not idle takes what becomes of it
  takes_what_becomes : (was x : ℕ) → unless_idle far r was x ≡ x
  unfolding unless_idle
  takes_what_becomes was x = passed_over _ _ _ (ne_eqb (phase far r) 0 (omega (arith, still_three)))

  -- so by the end of a second it goes, or has counted one more
  pub second_on : (phase (end L s (event 10 0 0)) r ≡ 0) ⊎ ((phase (end L s (event 10 0 0)) r ≡ 3) × (second (end L s (event 10 0 0)) r ≡ second s r + 1))
  unfolding far own gives row_of row_with second_row a_second when◌then◌else◌ after settle line_release with_lines arrivals routes routes_by with_routes far_sections signals route_after locking_of
  second_on =
      rw (
        read_each most_routes 0 L.routes _ (lit L s (event 10 0 0)).phase r (omega (arith, S.ranges.route_count)) b,
        read_each most_train_routes 0 L.routes _ s.seconds r (omega (arith, S.ranges.route_count)) b,
        takes_what_becomes (phase far r),
        takes_what_becomes (second s r),
      )
      (ticked L.line s.section _ _ _ refl still_three)

-- ---- sections, lines and blocks

-- a manual release leaves the sections
pub release_sections : (L : Layout) (s : State) (l : ℕ) → (end L s (event 7 l 1)).section ≡ s.section
unfolding own row_of row_with manual_row own_manual when◌then◌else◌ after settle line_release with_lines arrivals routes routes_by with_routes far_sections signals
release_sections L s l = refl

module _ (L : Layout) (S : Sound L) (s : State) (l : ℕ) (k : ℕ) (b : k < L.lines) where
  -- a manual release makes its line neutral, and leaves neutral what is
  pub neutral_on : (k ≡ l) ⊎ (direction s k ≡ 0) → direction (end L s (event 7 l 1)) k ≡ 0
  unfolding own row_of row_with manual_row own_manual with_lines when◌then◌else◌
  neutral_on c = ⊎_elim (λ q. q ∙ own_neutral c (ℕ_discrete k l)) (λ t. t.0) (released L S.ranges.line_count s (event 7 l 1) k b)
    where
      own_neutral : (k ≡ l) ⊎ (direction s k ≡ 0) → Dec (k ≡ l) → direction (done L s (event 7 l 1)) k ≡ 0
      own_neutral c (yes q) = put_here most_lines 0 s.direction l 0 k (omega (arith, S.ranges.line_count)) q
      own_neutral (inl q) (no d) = absurd (d q)
      own_neutral (inr z) (no d) = put_elsewhere most_lines 0 s.direction l 0 k (omega (arith, S.ranges.line_count)) d ∙ z

  -- it opens the line's blocks, and leaves open what is, as far as the event itself goes
  opened : (i : ℕ) → i < (line_in L k).blocks → i < most_blocks → (k ≡ l) ⊎ (stage s k i ≡ 0) → open_at L.line l (place k i) (stage s k i) ≡ 0
  unfolding open_at line_in
  opened i h few (inl q) =
      chosen _ _ _ (and_both _ _ (eq-eqb _ _ (place_line k i few ∙ q)) (lt-ltb (place k i % most_blocks) (line L.line l).blocks (rw (place_block k i few, ← q) h)))
  opened i h few (inr z) = if_both (λ n. n ≡ 0) _ (λ t. refl) (λ f. z)

  -- and at its end: an open block does not wait, and far sections do not shut one
  pub open_on : (i : ℕ) → i < (line_in L k).blocks → (k ≡ l) ⊎ (stage s k i ≡ 0) → stage (end L s (event 7 l 1)) k i ≡ 0
  unfolding own row_of row_with manual_row own_manual with_lines when◌then◌else◌ is_open
  open_on i h c =
      let few : i < most_blocks = omega (arith, (S.ranges.lines k b).block_count) in
      let own = read_block k i few L.lines _ s.stage b S.ranges.line_count ∙ opened i h few c in
      eqb-true _ 0 (open_same L S s (event 7 l 1) k i b h (omega (arith, own)) ∙ eq-eqb _ 0 own)
