-- What follows an event, signals, far sections, routes, blocks that wait and line release, keeps the state in range.
use Prim.Native.Nat.{ℕ}
use mathlib.Core.Bool.{Bool}
use mathlib.Core.List.{List}
use native.Mathlib.Omega.{arith}
use borrow.Author.Tests.{ltb-true}
use Rattle.laws.proofs.Choice.{if_both}
use Rattle.track.specs.declared.Line.{Line}
use Rattle.track.specs.declared.Route.{Route}
use Rattle.track.specs.Signal.{Signal}
use Rattle.signals.specs.Signals.{fallen}
use Rattle.passage.specs.Passage.{far_stage}
use Rattle.tables.specs.declared.Gives.{Gives}
use Rattle.release.specs.declared.Locking.{Locking}
use Rattle.release.specs.declared.WatchedPair.{WatchedPair}
use Rattle.release.specs.Release.{steps_after, seconds_after, locking_after}
use Rattle.line_block.specs.FarSections.{far_moved, far_stage_at, far_stages}
use Rattle.line_block.specs.PassingBack.{passed_back}
use Rattle.line_block.specs.LineRelease.{direction_after, directions_after}
use Rattle.layout.specs.declared.Layout.{Layout}
use Rattle.interlocking.specs.declared.State.{State}
use Rattle.interlocking.specs.Settle.{fallen_at, signals, far_sections, locking_of, route_after, unless_idle, routes_by, routes, arrivals, line_release, settle}
use Rattle.step_facts.specs.Range.{In, InRange}
use Rattle.step_facts.proofs.Range.{each_within, read_within, routes_range, lines_range}
use Rattle.step_facts.proofs.Own.{waited_in}

-- ---- signals

-- the phase of a route whose signal falls or stays is in range
fallen_in : (ls : List Line) (rs : List Route) (s : State) (r was : ℕ) → In 0 3 was → In 0 3 (fallen_at ls rs s r was)
unfolding fallen_at fallen
fallen_in ls rs s r was h = if_both (In 0 3) _ (λ t. if_both (In 0 3) _ (λ u. omega arith) (λ u. omega arith)) (λ t. h)

-- so the phases stay in range
signals_range : (L : Layout) {s : State} → InRange s → InRange (signals L s)
unfolding signals
signals_range L {s} R = routes_range R (each_within R.phase _ _ (fallen_in L.line L.route s)) R.steps R.seconds

-- ---- far sections

-- a block's far section gives it one of its stages
far_stage_in : (far : ℕ) (dropped : Bool) (was : ℕ) → In 0 4 was → In 0 4 (far_stage far dropped was)
unfolding far_stage
far_stage_in far dropped was h =
    if_both (In 0 4) _ (λ t. if_both (In 0 4) _ (λ u. omega arith) (λ u. omega arith))
    (λ t. if_both (In 0 4) _ (λ u. if_both (In 0 4) _ (λ x. omega arith) (λ x. omega arith)) (λ u. h))

-- so too by the direction of its line: in neutral the stage stays
far_in : (ls : List Line) (directions sections : List ℕ) (before after : Signal → Bool) (k was : ℕ) → In 0 4 was
    → In 0 4 (far_stage_at ls directions sections before after k was)
unfolding far_stage_at far_moved
far_in ls directions sections before after k was h = if_both (In 0 4) _ (λ t. h) (λ t. far_stage_in _ _ was h)

-- so the stages stay in range
far_range : (L : Layout) (before : State) {s : State} → InRange s → InRange (far_sections L before s)
unfolding far_sections far_stages
far_range L before {s} R = lines_range R R.direction (each_within R.stage _ _ (far_in _ _ _ _ _))

-- ---- routes

-- phase, steps and seconds of one route
record LockingIn (h : Locking) : Type 0 where
  phase : In 0 3 h.phase
  steps : In 0 3 h.steps
  seconds : In 0 89 h.seconds

-- the steps done are one of three, or none: each line of the table says so
steps_in : (w : WatchedPair) (steps : ℕ) → In 0 3 (steps_after w steps)
unfolding steps_after
steps_in w steps =
    if_both (In 0 3) _ (λ t. omega arith) (λ t. if_both (In 0 3) _ (λ u. omega arith)
    (λ u. if_both (In 0 3) _ (λ x. if_both (In 0 3) _ (λ y. omega arith) (λ y. omega arith)) (λ x. if_both (In 0 3) _ (λ y. omega arith)
    (λ y. if_both (In 0 3) _ (λ z. if_both (In 0 3) _ (λ v. omega arith) (λ v. omega arith)) (λ z. if_both (In 0 3) _ (λ v. omega arith) (λ v. omega arith))))))

-- no second is counted past 89: the 90th releases the route
seconds_in : (e : Gives) (phase seconds : ℕ) → In 0 89 seconds → In 0 89 (seconds_after e phase seconds)
unfolding seconds_after
seconds_in e phase seconds h = if_both (In 0 89) _ (λ t. if_both (In 0 89) _ (λ u. omega (arith, ltb-true)) (λ u. h)) (λ t. h)

-- phase, steps and seconds stay in range: a route that goes is idle with 0 and 0, one that stays keeps its phase
locking_in : (ls : List Line) (sections : List ℕ) (a : Route) (e : Gives) (h : Locking) → LockingIn h → LockingIn (locking_after ls sections a e h)
unfolding locking_after
locking_in ls sections a e h H =
    if_both LockingIn _ (λ t. record { phase = omega arith; steps = omega arith; seconds = omega arith })
    (λ t. record { phase = H.phase; steps = steps_in _ _; seconds = seconds_in e _ _ H.seconds })

-- what becomes of what the state holds of a route
route_in : (ls : List Line) (rs : List Route) {s : State} (e : Gives) (r : ℕ) → InRange s → LockingIn (route_after ls rs s e r)
unfolding route_after locking_of
route_in ls rs {s} e r R = locking_in ls s.section _ e _ (record {
  phase = read_within R.phase 0 r (omega arith);
  steps = read_within R.steps 0 r (omega arith);
  seconds = read_within R.seconds 0 r (omega arith);
})

-- an idle route stays as it is
unless_in : (s : State) (r was x low high : ℕ) → In low high was → In low high x → In low high (unless_idle s r was x)
unfolding unless_idle
unless_in s r was x low high h q = if_both (In low high) _ (λ t. h) (λ t. q)

-- so phases, steps and seconds stay in range
routes_after_range : (L : Layout) {s : State} (e : Gives) → InRange s → InRange (routes L s e)
unfolding routes routes_by
routes_after_range L {s} e R =
    routes_range R (each_within R.phase _ _ (λ r was h. unless_in s r was _ 0 3 h (route_in L.line L.route e r R).phase))
    (each_within R.steps _ _ (λ r was h. unless_in s r was _ 0 3 h (route_in L.line L.route e r R).steps))
    (each_within R.seconds _ _ (λ r was h. unless_in s r was _ 0 89 h (route_in L.line L.route e r R).seconds))

-- ---- blocks that wait

-- a block that waited is open or stays
arrivals_range : (L : Layout) (before : State) {s : State} → InRange s → InRange (arrivals L before s)
unfolding arrivals passed_back
arrivals_range L before {s} R = lines_range R R.direction (each_within R.stage _ _ (waited_in L.line _ _ _ _))

-- ---- line release

-- a line stays as it is or becomes neutral
direction_in : (ended : ℕ → ℕ → Bool) (l was : ℕ) → In 0 2 was → In 0 2 (direction_after ended l was)
unfolding direction_after
direction_in ended l was h = if_both (In 0 2) _ (λ t. h) (λ t. if_both (In 0 2) _ (λ u. omega arith) (λ u. h))

-- so the directions stay in range
release_range : (L : Layout) (before : State) {s : State} → InRange s → InRange (line_release L before s)
unfolding line_release directions_after
release_range L before {s} R = lines_range R (each_within R.direction _ _ (λ l. direction_in _ l)) R.stage

-- ---- all that follows

-- one after the other
pub settle_range : (L : Layout) (before : State) {s : State} (e : Gives) → InRange s → InRange (settle L before s e)
unfolding settle
settle_range L before e R = release_range L before (arrivals_range L before (routes_after_range L e (far_range L before (signals_range L R))))
