-- From rest, the events that lead a route to proceed are granted one by one, and it is there when they are over.
use Prim.Native.Nat.{ℕ, ◌+◌, ◌<◌, ◌≤◌}
use mathlib.Core.Path.{◌≡◌, ap}
use mathlib.Core.Logic.{inr}
use mathlib.Core.Bool.{true}
use mathlib.Core.List.{[], ◌∷◌, ◌++◌}
use native.Mathlib.Omega.{arith}
use borrow.Author.Tests.{eqb-true, eqb-false}
use Rattle.laws.proofs.Choice.{if_both}
use Rattle.track.specs.Codes.{leaving}
use Rattle.passage.specs.Passage.{arrival}
use Rattle.lamps.specs.Lamps.{lamp_of}
use Rattle.signals.specs.MainSignals.{proceed_shown, main_shows}
use Rattle.layout.specs.declared.Layout.{Layout}
use Rattle.layout.specs.Layout.{line_in, route_in, signals_in}
use Rattle.layout.specs.Sound.{sound}
use Rattle.layout_facts.specs.Plain.{entrance_signal, path, overlap, route_position, LineRanges, RouteRanges, Sound}
use Rattle.interlocking.specs.declared.State.{State}
use Rattle.step_facts.specs.Run.{event}
use Rattle.way_out.specs.Freeing.{CountsOf}
use Rattle.way_out.specs.WayOut.{AtRest}
use Rattle.way_out.specs.WayToProceed.{counts_after_path, counts_after_overlap, counts_after_points, clearing, readying, line_for, PointsAgree}
use Rattle.step_facts.proofs.Entries.{phase}
use Rattle.way_out.proofs.Goes.{Whole, Goes, stop, goes, after_that}
use Rattle.track.proofs.SignalNumbers.{number_main}
use Rattle.step_facts.proofs.Granted.{lamp_granted}
use Rattle.way_out.proofs.OrdersGranted.{AllFree, LinePlaced, RoutePlaced, AllUnbarred, Prepared, set_granted}
use Rattle.way_out.proofs.Resting.{stop_reported, Lasting, both_last, stop_onward, rest_lasts, free_lasts, bars_last, points_last}
use Rattle.way_out.proofs.SetProceeds.{set_on, set_shows}
use Rattle.way_out.proofs.Turns.{unbar_turn, free_turn, place_turn}

-- at rest, path and overlap of route r read free
abbrev Vacant : Layout → ℕ → State → Type 0
Vacant L r s = (AtRest L s × AllFree (route_in L r).paths (path L r) s) × AllFree (route_in L r).overlaps (overlap L r) s

-- and its points read their positions
abbrev Ready : Layout → ℕ → State → Type 0
Ready L r s = Vacant L r s × RoutePlaced L r s

-- route r is locked with its signal at proceed, which shows what the route says
abbrev pub AtProceed : Layout → ℕ → State → Type 0
AtProceed L r s = (phase s r ≡ 1) × (main_shows L.routes L.route s.phase (route_in L r).entry ≡ proceed_shown (route_in L r))

module _ (L : Layout) (ok : sound L ≡ true) (S : Sound L) (cs : CountsOf) (r : ℕ) (b : r < L.routes) where
  -- ---- what every route asks

  -- its sections and points are there
  own : RouteRanges L r
  own = S.ranges.routes r b

  -- what reads free lasts, with rest
  vacant_lasts : Lasting L r (Vacant L r)
  vacant_lasts = both_last (both_last (rest_lasts L r) (free_lasts L r _ _ own.paths)) (free_lasts L r _ _ own.overlaps)

  -- so do its points in position
  ready_lasts : Lasting L r (Ready L r)
  ready_lasts = both_last vacant_lasts (points_last L r)

  -- from rest the sections read free and the points come in position: no two of them are one
  clear_all : (s : State) → Whole s → AtRest L s → Goes L s (clearing L cs r) (Ready L r)
  unfolding clearing
  clear_all s whole rest =
      after_that (free_turn L ok S r b (AtRest L) (rest_lasts L r) (λ t q. q) cs _ _ own.paths s whole rest)
      (λ t w q. after_that (free_turn L ok S r b _ (both_last (rest_lasts L r) (free_lasts L r _ _ own.paths)) (λ t q. q.0) (counts_after_path L cs r) _ _ own.overlaps t w q)
      (λ t w q. place_turn L ok S r b (Vacant L r) vacant_lasts (λ t q. q.0.0) (counts_after_overlap L cs r) _ _ _ own.points own.positions (λ i j. S.rule3.route_points r i j b)
      (λ j c i d z. ap (route_position L r) (S.rule3.route_points r i j b d c z)) t w q))

  -- ---- what an exit route asks besides

  module _ (exit : (route_in L r).kind ≡ 2) where
    -- its line
    abbrev l : ℕ
    l = (route_in L r).line

    -- is there, and its end is one of two
    line_there : (l < L.lines) × ((route_in L r).end ≤ 1)
    line_there = own.line (inr exit)

    -- the entrance signal at the arrival end
    abbrev lamp : ℕ
    lamp = entrance_signal L l (arrival (leaving (route_in L r).end))

    -- its points and entrance signals are there too
    lines : LineRanges L l
    lines = S.ranges.lines l line_there.0

    -- at rest the route has all that it is set by, where its line has no bar, its points are in position and that lamp reports stop
    line_prepared : (s : State) → Ready L r s → AllUnbarred l (line_in L l).blocks s → LinePlaced L l s → lamp_of s.lamp lamp ≡ 1 → Prepared L r s
    line_prepared s q bars placed lit =
        let rest : AtRest L s = q.0.0.0 in
        record {
          idle = rest.routes;
          path = q.0.0.1;
          overlap = q.0.1;
          placed = q.1;
          line = λ k. record {
            is_neutral = rest.lines l line_there.0;
            opened = λ i h. rest.blocks l i line_there.0 h;
            no_bar = bars;
            placed = placed;
            lit = lit;
          };
        }

    -- the lamp of the entrance signal at the arrival end reports stop (L3), which takes nothing from the rest
    lamp_stops : (s : State) → Whole s → Ready L r s → AllUnbarred l (line_in L l).blocks s → LinePlaced L l s → Goes L s (event 15 lamp 1 ∷ []) (Prepared L r)
    unfolding arrival signals_in
    lamp_stops s whole q bars placed =
        let told = stop_reported L s lamp in
        let on = stop_onward L S s q.0.0.0 r lamp in
        goes L _ s (event 15 lamp 1) [] (lamp_granted L s ok whole.ranged lamp 1 (number_main _ _ _ lamp there).0) whole
        (λ t at still.
        let ready : Ready L r t × AllUnbarred l (line_in L l).blocks t = rw at (both_last ready_lasts (bars_last L r l line_there.0) s _ on (q, bars)) in
        stop L _ t still (line_prepared t ready.0 ready.1 (rw (at, told.0) placed) (rw at (told.1 (omega (arith, there, S.ranges.signal_count))))))
      where
        there : lamp < L.signals
        there = lines.entrances _ (if_both (λ n. n ≤ 1) _ (λ t. omega arith) (λ f. omega arith))

    -- line and route do not ask one point in two positions: the bars are cleared, the line's points come in position, those of the route stay, and the
    -- lamp reports stop
    ready_all : PointsAgree L r → (s : State) → Whole s → Ready L r s → Goes L s (readying L (counts_after_points L cs r) l (leaving (route_in L r).end)) (Prepared L r)
    unfolding readying
    ready_all agree s whole q =
        after_that (unbar_turn L ok S r b (Ready L r) ready_lasts (λ t q. q.0.0.0) l line_there.0 s whole q)
        (λ t w q. after_that (place_turn L ok S r b _ (both_last ready_lasts (bars_last L r l line_there.0)) (λ t q. q.0.0.0.0) (counts_after_points L cs r) _ _ _ lines.points lines.positions
        (λ i j. S.rule3.line_points l i j line_there.0) (λ k d j c z. agree j k c d z) t w q)
        (λ t w q. lamp_stops t w q.0.0 q.0.1 q.1))

  -- ---- all of it

  -- the line, where the route is an exit route; any other has what it is set by
  line_all : ((route_in L r).kind ≡ 2 → PointsAgree L r) → (s : State) → Whole s → Ready L r s → Goes L s (line_for L (counts_after_points L cs r) r) (Prepared L r)
  unfolding line_for
  line_all agree s whole q =
      if_both (λ es. Goes L s es (Prepared L r)) _ (λ t. let exit = eqb-true _ 2 t in ready_all exit (agree exit) s whole q)
      (λ f. stop L _ s whole record {
        idle = q.0.0.0.routes;
        path = q.0.0.1;
        overlap = q.0.1;
        placed = q.1;
        line = λ exit. absurd (eqb-false _ 2 f exit);
      })

  -- from rest the signal comes to proceed
  pub comes_to_proceed : ((route_in L r).kind ≡ 2 → PointsAgree L r) → (s : State) → Whole s → AtRest L s
      → Goes L s (clearing L cs r ++ (line_for L (counts_after_points L cs r) r ++ (event 4 r 0 ∷ []))) (AtProceed L r)
  comes_to_proceed agree s whole rest =
      after_that (clear_all s whole rest)
      (λ t w q. after_that (line_all agree t w q)
      (λ t w P. goes L _ t (event 4 r 0) [] (set_granted L t ok S w.ranged r b P) w
      (λ u at still. stop L _ u still (rw at (set_on L S r b t P, set_shows L S r b t P)))))
