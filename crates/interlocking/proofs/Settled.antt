-- What follows an event, from the tables that one walk over the routes makes: signals fall and routes are let go in the same turn, since far
-- sections move no route, and line release looks at both.
use Prim.Native.Nat.{ℕ, ◌<◌, ◌≤◌}
use mathlib.Core.Path.{◌≡◌, refl, sym, ap, ap₂, ◌∙◌, fun_ext}
use mathlib.Core.Bool.{Bool}
use mathlib.Core.List.{List}
use native.Mathlib.Decide.{ℕ_discrete}
use native.Mathlib.Omega.{arith}
use lib.Dec.{eqb}
use lib.ListN.{length, get_or}
use Rattle.laws.specs.Choice.{when◌then◌else◌}
use Rattle.laws.specs.Tests.{◌and◌}
use Rattle.laws.specs.Tables.{each, read}
use Rattle.laws.proofs.Choice.{if_eq, if_ne, if_both}
use Rattle.laws.proofs.Tests.{any_same}
use Rattle.laws.proofs.Arrays.{read_in, read_at}
use Rattle.laws.proofs.Each.{Redone, each_at, each_past, length_each, each_over}
use Rattle.track.specs.declared.Line.{Line}
use Rattle.track.specs.declared.Route.{Route}
use Rattle.track.specs.Codes.{idle, at_proceed}
use Rattle.track.specs.Sizes.{most_lines, most_train_routes, most_routes}
use Rattle.track.specs.Objects.{route, no_route}
use Rattle.track.specs.Signal.{Signal, main, into}
use Rattle.signals.specs.Signals.{clear, fallen, route_proceeds, main_proceeds}
use Rattle.tables.specs.declared.Gives.{Gives}
use Rattle.tables.specs.Tables.{Tables}
use Rattle.release.specs.declared.Locking.{Locking}
use Rattle.release.specs.declared.Settled.{Settled}
use Rattle.release.specs.Release.{locking_after, settled_from, settled}
use Rattle.line_block.specs.FarSections.{far_stages}
use Rattle.line_block.specs.PassingBack.{no_opening, arrives, passed_back}
use Rattle.line_block.specs.LineRelease.{directions_after}
use Rattle.line_block.specs.Entries.{entry_proceeds, main_proceeds_by, proceeds_by, few_lines}
use Rattle.line_block.proofs.Lines.{few_all}
use Rattle.layout.specs.declared.Layout.{Layout}
use Rattle.interlocking.specs.declared.State.{State}
use Rattle.interlocking.specs.State.{tables_of, with_routes, with_lines}
use Rattle.interlocking.specs.declared.answering.Walked.{Walked}
use Rattle.interlocking.specs.declared.Core.{Core}
use Rattle.interlocking.specs.Parts.{core_of, headless, bare}
use Rattle.interlocking.specs.Walk.{IsWalk}
use Rattle.interlocking.proofs.Walk.{fell}
use Rattle.interlocking.specs.Settle.{fallen_at, signals, proceeds_in, far_sections, locking_of, route_after, unless_idle, routes_by, routes, arrivals, line_release, settle}

-- ---- one turn of the walk

-- a signal's fall makes no route idle
fallen_live : (ls : List Line) (sections points stages bars : List ℕ) (a : Route) (was : ℕ) → (was ≡ 0 → ⊥)
    → fallen ls sections points stages bars a was ≡ 0 → ⊥
unfolding fallen
fallen_live ls sections points stages bars a was h =
    if_both (λ x. x ≡ 0 → ⊥) (eqb was 1)
    (λ t. if_both (λ x. x ≡ 0 → ⊥) (clear ls sections points stages bars a) (λ u z. omega arith) (λ u z. omega arith)) (λ t. h)

-- nor an idle one locked
pub fallen_idle : (ls : List Line) (sections points stages bars : List ℕ) (a : Route) (was : ℕ) → was ≡ 0 → was ≡ fallen ls sections points stages bars a was
unfolding fallen
fallen_idle ls sections points stages bars a was h = if_ne was 1 _ _ was (λ z. omega arith) refl

-- a route that there is stands in the table, so the default is not read
pub route_in : (rs : List Route) (r n : ℕ) (d : Route) → length rs ≡ most_train_routes → r < n → n ≤ most_train_routes → get_or rs r d ≡ route rs r
unfolding route
route_in rs r n d q b few = read_in rs r most_train_routes d no_route q (omega arith)

-- a turn with the lent tables of a state is one with its own
pub turn_lent : (ls : List Line) (s : Core) (lamps : List ℕ) (t : Tables) (a : Route) (e : Gives) (h : Locking) (x : Settled) → t ≡ tables_of (headless s lamps)
    → x ≡ settled ls t.section t.point t.stage t.bar a e h → x ≡ settled ls s.section s.point s.stage s.bar a e h
turn_lent ls s lamps t a e h x q p = rw q at p

module _ (ls : List Line) (rs : List Route) (n : ℕ) (s : State) (r : ℕ) (b : r < n) (few : n ≤ most_train_routes) where
  -- what the fallen state has at a route that there is
  fell_at : read most_routes idle (each n (fallen_at ls rs s) s.phase) r ≡ fallen_at ls rs s r (get_or s.phase r 0)
  fell_at = read_at most_routes idle _ r (omega arith) ∙ each_at n (fallen_at ls rs s) s.phase r b

  -- an idle route stays as it is
  pub idle_stays : (was x : ℕ) → get_or s.phase r 0 ≡ 0 → was ≡ unless_idle (fell ls rs n s) r was x
  unfolding unless_idle fell with_routes fallen_at
  idle_stays was x h =
      if_eq (read most_routes idle (each n (fallen_at ls rs s) s.phase) r) 0 _ _ was
      (fell_at ∙ sym (fallen_idle ls s.section s.point s.stage s.bar (route rs r) (get_or s.phase r 0) h) ∙ h) refl

  -- a route that is not idle takes what becomes of it
  module _ (e : Gives) (a : Route) (x : Settled) (same : a ≡ route rs r) (live : get_or s.phase r 0 ≡ 0 → ⊥)
      (g : x ≡ settled ls s.section s.point s.stage s.bar a e
      (record { phase = get_or s.phase r 0; steps = get_or s.steps r 0; seconds = get_or s.seconds r 0 })) where
    -- what the route holds once its signal has fallen
    held : Locking
    held = record { phase = fallen_at ls rs s r (get_or s.phase r 0); steps = get_or s.steps r 0; seconds = get_or s.seconds r 0 }

    -- the turn gives the fallen phase and what becomes of that, for the route in the table
    turned : x ≡ settled_from (fallen_at ls rs s r (get_or s.phase r 0)) (locking_after ls s.section (route rs r) e held)
    unfolding settled held fallen_at
    turned =
        g ∙ ap (λ (c : Route). settled ls s.section s.point s.stage s.bar c e
        (record { phase = get_or s.phase r 0; steps = get_or s.steps r 0; seconds = get_or s.seconds r 0 })) same

    -- the fallen state holds the same of the route: its tables are read at a route that there is
    same_held : held ≡ locking_of (fell ls rs n s) r
    unfolding held locking_of fell with_routes
    same_held =
        ap (λ p. record { phase = p; steps = get_or s.steps r 0; seconds = get_or s.seconds r 0 }) (sym fell_at)
        ∙ ap₂ (λ (y z : ℕ). record { phase = read most_routes idle (each n (fallen_at ls rs s) s.phase) r; steps = y; seconds = z })
        (sym (read_at most_train_routes 0 s.steps r (omega arith))) (sym (read_at most_train_routes 0 s.seconds r (omega arith)))

    -- so the same becomes of it
    becomes : locking_after ls s.section (route rs r) e held ≡ route_after ls rs (fell ls rs n s) e r
    unfolding route_after fell with_routes
    becomes = ap (locking_after ls s.section (route rs r) e) same_held

    -- the first that the turn gives is the fallen phase
    pub signal_falls : x.fallen ≡ fallen_at ls rs s r (get_or s.phase r 0)
    unfolding settled_from
    signal_falls = ap (λ (y : Settled). y.fallen) turned

    -- a route that is not idle is not idle once its signal has fallen, so it takes each part of what becomes of it
    takes : (f : Locking → ℕ) (was : ℕ) → f (locking_after ls s.section (route rs r) e held) ≡ unless_idle (fell ls rs n s) r was (f (route_after ls rs (fell ls rs n s) e r))
    unfolding unless_idle fell with_routes fallen_at
    takes f was =
        if_ne (read most_routes idle (each n (fallen_at ls rs s) s.phase) r) 0 _ _ _
        (λ z. fallen_live ls s.section s.point s.stage s.bar (route rs r) (get_or s.phase r 0) live (sym fell_at ∙ z)) (ap f becomes)

    -- its phase
    pub phase_takes : (was : ℕ) → x.phase ≡ unless_idle (fell ls rs n s) r was (route_after ls rs (fell ls rs n s) e r).phase
    unfolding settled_from
    phase_takes was = ap (λ (y : Settled). y.phase) turned ∙ takes (λ h. h.phase) was

    -- its step
    pub step_takes : (was : ℕ) → x.steps ≡ unless_idle (fell ls rs n s) r was (route_after ls rs (fell ls rs n s) e r).steps
    unfolding settled_from
    step_takes was = ap (λ (y : Settled). y.steps) turned ∙ takes (λ h. h.steps) was

    -- its seconds
    pub second_takes : (was : ℕ) → x.seconds ≡ unless_idle (fell ls rs n s) r was (route_after ls rs (fell ls rs n s) e r).seconds
    unfolding settled_from
    second_takes was = ap (λ (y : Settled). y.seconds) turned ∙ takes (λ h. h.seconds) was

-- ---- the table of fallen phases, while it is made

module _ (ls : List Line) (rs : List Route) (n : ℕ) (s : State) (r : ℕ) (ys : List ℕ) (h : Redone most_routes n (fallen_at ls rs s) s.phase ys r) where
  -- the entry of a route that the walk has not reached is what it was
  not_yet : get_or ys r 0 ≡ get_or s.phase r 0
  unfolding Redone
  not_yet = h.5 r (omega arith)

  -- an idle route has no signal to fall
  pub idle_kept : get_or s.phase r 0 ≡ 0 → get_or ys r 0 ≡ fallen_at ls rs s r (get_or ys r 0)
  unfolding fallen_at
  idle_kept z = fallen_idle ls s.section s.point s.stage s.bar (route rs r) (get_or ys r 0) (not_yet ∙ z)

  -- so a signal falls from what the table still has
  pub falls_on : (x : ℕ) → x ≡ fallen_at ls rs s r (get_or s.phase r 0) → x ≡ fallen_at ls rs s r (get_or ys r 0)
  falls_on x e = e ∙ ap (fallen_at ls rs s r) (sym not_yet)

-- ---- the tables together

-- what a signal shows, by the table of the signals at which routes start
shows_same : (L : Layout) (zeros : List ℕ) (t : State) (x : Signal) → L.routes ≤ most_train_routes
    → proceeds_by L.line L.routes (each L.routes (λ r was. (route L.route r).entry) zeros) t.phase t.direction t.point t.stage t.bar x ≡ proceeds_in L t x
unfolding proceeds_by proceeds_in main_proceeds_by entry_proceeds main_proceeds route_proceeds
shows_same L zeros t (main x) few =
    any_same L.routes _ _ (λ r b. ap (λ m. eqb (read most_routes idle t.phase r) at_proceed and eqb m x)
    (read_at most_train_routes 0 _ r (omega arith) ∙ each_at L.routes (λ r was. (route L.route r).entry) zeros r b))
shows_same L zeros t (into l i w) few = refl

module _ (L : Layout) (before s : State) (e : Gives) (few_lines_law : L.lines ≤ most_lines) (few : L.routes ≤ most_train_routes) (len : length s.phase ≡ most_routes) where
  -- the state whose signals have fallen
  abbrev after_fall : State
  after_fall = fell L.line L.route L.routes s

  -- an idle route is idle whether its signal was asked or not, so the phases may be taken before or after
  from_fallen : (x : ℕ → ℕ) → each L.routes (λ r was. unless_idle after_fall r was (x r)) s.phase
      ≡ each L.routes (λ r was. unless_idle after_fall r was (x r)) after_fall.phase
  unfolding fell with_routes unless_idle fallen_at
  from_fallen x =
      each_over L.routes _ s.phase _ (omega arith) (sym (length_each L.routes _ s.phase (omega arith)))
      (λ k b. go k b (ℕ_discrete (get_or s.phase k 0) 0)) (λ k b. sym (each_past L.routes _ s.phase k b))
    where
      fallen_to : ℕ → ℕ
      fallen_to k = get_or (each L.routes (fallen_at L.line L.route s) s.phase) k 0

      go : (k : ℕ) → k < L.routes → Dec (get_or s.phase k 0 ≡ 0)
          → (when eqb (read most_routes idle (each L.routes (fallen_at L.line L.route s) s.phase) k) 0 then get_or s.phase k 0 else x k)
          ≡ (when eqb (read most_routes idle (each L.routes (fallen_at L.line L.route s) s.phase) k) 0 then fallen_to k else x k)
      go k b (yes z) =
          ap (λ m. when eqb (read most_routes idle (each L.routes (fallen_at L.line L.route s) s.phase) k) 0 then m else x k)
          (fallen_idle L.line s.section s.point s.stage s.bar (route L.route k) (get_or s.phase k 0) z
          ∙ sym (each_at L.routes (fallen_at L.line L.route s) s.phase k b))
      go k b (no z) =
          let live : read most_routes idle (each L.routes (fallen_at L.line L.route s) s.phase) k ≡ 0 → ⊥ =
          λ y. fallen_live L.line s.section s.point s.stage s.bar (route L.route k) (get_or s.phase k 0) z
          (sym (fell_at L.line L.route L.routes s k b few) ∙ y) in
          sym (if_ne _ 0 _ _ (x k) live refl) ∙ if_ne _ 0 _ _ (x k) live refl

  module _ (zeros entry fallen phase step second far stage direction : List ℕ)
      (e₁ : entry ≡ each L.routes (λ r was. (route L.route r).entry) zeros)
      (e₂ : fallen ≡ each L.routes (fallen_at L.line L.route s) s.phase)
      (e₃ : phase ≡ each L.routes (λ r was. unless_idle after_fall r was (route_after L.line L.route after_fall e r).phase) s.phase)
      (e₄ : step ≡ each L.routes (λ r was. unless_idle after_fall r was (route_after L.line L.route after_fall e r).steps) s.steps)
      (e₅ : second ≡ each L.routes (λ r was. unless_idle after_fall r was (route_after L.line L.route after_fall e r).seconds) s.seconds)
      (e₆ : far ≡ far_stages (few_lines L.lines) L.line s.direction s.section
      (proceeds_by L.line L.routes entry before.phase before.direction before.point before.stage before.bar)
      (proceeds_by L.line L.routes entry fallen s.direction s.point s.stage s.bar) s.stage)
      (e₇ : stage ≡ passed_back (few_lines L.lines) L.line s.direction no_opening (arrives L.routes L.route before.phase phase) far)
      (e₈ : direction ≡ directions_after (few_lines L.lines) L.line L.routes L.route before.stage stage s.bar phase s.direction) where
    -- by that table signals show what they show by the routes
    shown_same : (t : State) → proceeds_by L.line L.routes entry t.phase t.direction t.point t.stage t.bar ≡ proceeds_in L t
    shown_same t = rw e₁ (fun_ext (λ x. shows_same L zeros t x few))

    -- the stages move by the fallen state
    stages_moved : far ≡ far_stages L.lines L.line s.direction s.section (proceeds_in L before) (proceeds_in L after_fall) s.stage
    unfolding fell with_routes
    stages_moved =
        e₆ ∙ ap₂ (λ (m : ℕ) (xs : List ℕ). far_stages m L.line s.direction s.section
        (proceeds_by L.line L.routes entry before.phase before.direction before.point before.stage before.bar)
        (proceeds_by L.line L.routes entry xs s.direction s.point s.stage s.bar) s.stage) (few_all L.lines few_lines_law) e₂
        ∙ ap₂ (λ (f g : Signal → Bool). far_stages L.lines L.line s.direction s.section f g s.stage) (shown_same before) (shown_same after_fall)

    -- the phases are those made from the fallen ones
    phases_moved : phase ≡ each L.routes (λ r was. unless_idle after_fall r was (route_after L.line L.route after_fall e r).phase) after_fall.phase
    phases_moved = e₃ ∙ from_fallen (λ r. (route_after L.line L.route after_fall e r).phase)

    -- blocks that wait open by the routes whose phases went to idle
    arrivals_moved : stage ≡ (arrivals L before (routes L (far_sections L before (signals L s)) e)).stage
    unfolding arrivals routes routes_by far_sections signals with_routes with_lines fell unless_idle route_after locking_of
    arrivals_moved =
        e₇ ∙ ap (λ m. passed_back m L.line s.direction no_opening (arrives L.routes L.route before.phase phase) far) (few_all L.lines few_lines_law)
        ∙ ap₂ (λ (xs ys : List ℕ). passed_back L.lines L.line s.direction no_opening (arrives L.routes L.route before.phase ys) xs)
        stages_moved phases_moved

    -- the directions go by the stages and the phases after all of it
    directions_moved : direction ≡ (line_release L before (arrivals L before (routes L (far_sections L before (signals L s)) e))).direction
    unfolding line_release arrivals routes routes_by far_sections signals with_routes with_lines fell unless_idle route_after locking_of
    directions_moved =
        e₈ ∙ ap (λ m. directions_after m L.line L.routes L.route before.stage stage s.bar phase s.direction) (few_all L.lines few_lines_law)
        ∙ ap₂ (λ (xs ys : List ℕ). directions_after L.lines L.line L.routes L.route before.stage xs s.bar ys s.direction)
        arrivals_moved phases_moved

    -- so the tables together are the state that follows
    pub settled_made : record {
      section = s.section;
      point = s.point;
      order = s.order;
      phase = phase;
      steps = step;
      seconds = second;
      direction = direction;
      stage = stage;
      bar = s.bar;
      axles = s.axles;
      lamp = s.lamp;
    } ≡ settle L before s e
    unfolding settle line_release arrivals routes routes_by far_sections signals with_routes with_lines fell unless_idle route_after locking_of
    settled_made = rw (phases_moved, e₄, e₅, directions_moved, arrivals_moved)

-- the tables that follow, from those of the walk and those that the code makes of them for far sections and blocks that wait; b and t are the tables lent
pub completed_made : (L : Layout) (before s : Core) (lamps : List ℕ) (e : Gives) (blank : List ℕ) (w : Walked) (far stage : List ℕ) (b t : Tables)
    → b ≡ tables_of (headless before lamps) → t ≡ tables_of (headless s lamps)
    → IsWalk L (bare s) e blank w → L.lines ≤ most_lines → L.routes ≤ most_train_routes → length s.phase ≡ most_routes
    → far ≡ far_stages (few_lines L.lines) L.line t.direction t.section
    (proceeds_by L.line L.routes w.entry b.phase b.direction b.point b.stage b.bar)
    (proceeds_by L.line L.routes w.entry w.fallen t.direction t.point t.stage t.bar) t.stage
    → stage ≡ passed_back (few_lines L.lines) L.line t.direction no_opening (arrives L.routes L.route b.phase w.phase) far
    → record {
      section = s.section;
      point = s.point;
      order = s.order;
      phase = w.phase;
      steps = w.steps;
      seconds = w.seconds;
      direction = directions_after (few_lines L.lines) L.line L.routes L.route b.stage stage t.bar w.phase t.direction;
      stage = stage;
      bar = s.bar;
    } ≡ core_of (settle L (bare before) (bare s) e)
unfolding fell signals core_of
completed_made L before s lamps e blank w far stage b t was now walk lines few len e₆ e₇ =
    rw (was, now)
    (ap core_of
    (settled_made L (bare before) (bare s) e lines few len blank w.entry w.fallen w.phase w.steps w.seconds far stage _
    walk.entry walk.fallen walk.phase walk.steps walk.seconds (rw (was, now) at e₆) (rw (was, now) at e₇) refl))
