-- What the state of the box and the history have to do with each other. The state holds just what the history tells: of each section and point what it reads,
-- of its heads what was said of them (L1), of each lamp what it reports (L3), of each block its stage and its bar, of each line its direction, of each route its phase, its steps and its
-- seconds. It holds at the cold start.
use Prim.Native.Nat.{ℕ, ◌<◌, ◌≤◌}
use mathlib.Core.Path.{◌≡◌, refl}
use mathlib.Core.Logic.{◌≢◌, ◌↔◌}
use mathlib.Core.Bool.{true}
use mathlib.Core.List.{[]}
use native.Mathlib.Omega.{arith}
use Rattle.track.specs.Codes.{leaving}
use Rattle.track.specs.Sizes.{most_sections, most_points, most_lines, most_places, most_routes, most_lamps}
use Rattle.tables.specs.Readings as readings
use Rattle.tables.specs.Blocks.{place}
use Rattle.lamps.specs.Lamps.{lamp_of}
use Rattle.signals.specs.Signals.{clear}
use Rattle.layout.specs.declared.Layout.{Layout}
use Rattle.layout.specs.Layout.{line_in, route_in, signals_in, conflict}
use Rattle.layout_facts.specs.Plain.{Sound}
use Rattle.interlocking.specs.declared.State.{State}
use Rattle.interlocking.specs.State.{cold, in_range}
use Rattle.panel.specs.Panel.{image}
use Rattle.step_facts.proofs.Range.{cold_in_range}
use Rattle.panel.specs.Shown.{panel}
use Rattle.safety.specs.History.{History, gave_block, reads, section_reads, lamp_told, shown, Since}
use Rattle.safety.specs.Locked.{Vacated, Cancelled, seconds_since, Locked}
use Rattle.safety.specs.Cleared.{Entered, Passage, Waits, Opened}
use Rattle.safety.specs.Secured.{Barred, Secured}
use Rattle.safety.specs.Lights.{position, NotFallen}
use Rattle.step_facts.proofs.Entries.{phase, direction, stage, bar_at, point_at, steps_of, seconds_of, read_same}
use Rattle.safety.proofs.Heads.{HeadsHeld, cold_heads_law}
use Rattle.safety.proofs.Steps.{Steps}
use Rattle.safety.proofs.Signals.{all_signals}

-- ---- the invariant

-- block i of line l: open just where it reads free and was cleared; in stage 1 or 2 just where it was entered; in stage 2 just where it waits for the free
-- reading that closes a passage in the secured direction; in stage 3 just where it waits after that, in that direction (L3)
pub record BlockTold (L : Layout) (s : State) (h : History) (l i : ℕ) : Type 0 where
  pub opens : stage s l i ≡ 0 ↔ Opened L l i h
  pub enters : (2 ≤ stage s l i) × (stage s l i ≤ 3) ↔ Entered (gave_block L l i) h
  pub passes : stage s l i ≡ 3 → (direction s l ≢ 0) × Passage L l i (direction s l) h
  pub waits : (w : ℕ) → Passage L l i w h → (stage s l i ≡ 3) × (direction s l ≡ w)
  pub holds : stage s l i ≡ 4 → (direction s l ≢ 0) × Waits L l i (direction s l) h
  pub held : (w : ℕ) → Waits L l i w h → (stage s l i ≡ 4) × (direction s l ≡ w)

-- route r: locked just where it is told so; of a locked one, that it is cancelling, that its signal is at proceed, its steps and its seconds. After the third
-- step it is not vacated, or else it would have gone
pub record RouteTold (L : Layout) (s : State) (h : History) (r : ℕ) : Type 0 where
  pub locks : phase s r ≢ 0 ↔ Locked L r h
  pub cancels : phase s r ≢ 0 → (phase s r ≡ 3 ↔ Cancelled r h)
  pub steps : phase s r ≢ 0 → Steps L r (steps_of s r) h
  pub stands : phase s r ≢ 0 → steps_of s r ≡ 3 → ¬ Vacated L r h
  pub seconds : phase s r ≡ 3 → seconds_of s r ≡ seconds_since r h

-- the codes are in range; what shows, what sections and points read, what is held of heads, what lamps report, what is barred, and what is held of blocks, routes and lines
-- is as the history tells it; no two conflicting routes are locked; a signal at proceed has all that keeps it there; the line of a locked exit route is
-- secured its way
pub record Inv (L : Layout) (s : State) (h : History) : Type 0 where
  pub ranged : in_range s ≡ true
  pub seen : shown L h ≡ panel L (image L s)
  pub reads : (g : ℕ) → g < L.sections → readings.reading s.section g ≡ section_reads L g h
  pub heads : HeadsHeld L s.axles h
  pub lamps : (x : ℕ) → x < signals_in L → lamp_of s.lamp x ≡ lamp_told x h
  pub points : (p : ℕ) → p < L.points → point_at s p ≡ position p h
  pub bars : (l i : ℕ) → l < L.lines → i < (line_in L l).blocks → (bar_at s l i ≢ 0 ↔ Barred l i h)
  pub blocks : (l i : ℕ) → l < L.lines → i < (line_in L l).blocks → BlockTold L s h l i
  pub routes : (r : ℕ) → r < L.routes → RouteTold L s h r
  pub upright : (r : ℕ) → r < L.routes → phase s r ≢ 0 → phase s r ≢ 3 → (phase s r ≡ 1 ↔ NotFallen L r h)
  pub lines : (l : ℕ) → l < L.lines → (w : ℕ) → w ≢ 0 → (direction s l ≡ w ↔ Secured L l w h)
  pub apart : (r q : ℕ) → r < L.routes → q < L.routes → conflict L r q ≡ true → phase s r ≢ 0 → phase s q ≢ 0 → ⊥
  pub lights : (r : ℕ) → r < L.routes → phase s r ≡ 1 → clear L.line s.section s.point s.stage s.bar (route_in L r) ≡ true
  pub exits : (r : ℕ) → r < L.routes → (route_in L r).kind ≡ 2 → phase s r ≢ 0 → direction s (route_in L r).line ≡ leaving (route_in L r).end

-- ---- at the cold start everything reads none, nothing is barred, every route is idle, every line neutral and every block held in stage 0

module _ (L : Layout) (S : Sound L) where
  -- every route is idle
  cold_phase : (r : ℕ) → r < L.routes → phase cold r ≡ 0
  unfolding cold
  cold_phase r b = read_same most_routes 0 0 r (omega (arith, S.ranges.route_count))

  -- every line is neutral
  cold_direction : (l : ℕ) → l < L.lines → direction cold l ≡ 0
  unfolding cold
  cold_direction l b = read_same most_lines 0 0 l (omega (arith, S.ranges.line_count))

  -- every block is held in stage 0
  cold_stage : (l i : ℕ) → l < L.lines → i < (line_in L l).blocks → stage cold l i ≡ 1
  unfolding cold place
  cold_stage l i b h = read_same most_places 1 1 _ (omega (arith, S.ranges.line_count, (S.ranges.lines l b).block_count))

  -- and not barred
  cold_bar : (l i : ℕ) → l < L.lines → i < (line_in L l).blocks → bar_at cold l i ≡ 0
  unfolding cold place
  cold_bar l i b h = read_same most_places 1 0 _ (omega (arith, S.ranges.line_count, (S.ranges.lines l b).block_count))

  -- so nothing is told of any block
  cold_block : (l i : ℕ) → l < L.lines → i < (line_in L l).blocks → BlockTold L cold [] l i
  unfolding reads Since
  cold_block l i b c = record {
    opens = (λ z. absurd (omega (arith, held)), λ o. absurd (let f = o.is_free in omega arith));
    enters = (λ z. absurd (omega (arith, held)), λ x. absurd x);
    passes = λ z. absurd (omega (arith, held));
    waits = λ w p. absurd p;
    holds = λ z. absurd (omega (arith, held));
    held = λ w p. absurd p;
  }
    where
      held : stage cold l i ≡ 1
      held = cold_stage l i b c

  -- nor of any route
  cold_route : (r : ℕ) → r < L.routes → RouteTold L cold [] r
  unfolding Since
  cold_route r b = record {
    locks = (λ d. absurd (d idle), λ x. absurd x);
    cancels = λ d. absurd (d idle);
    steps = λ d. absurd (d idle);
    stands = λ d. absurd (d idle);
    seconds = λ z. absurd (omega (arith, idle));
  }
    where
      idle : phase cold r ≡ 0
      idle = cold_phase r b

  -- so nothing is asked of the history but that everything reads none
  pub cold_has : Inv L cold []
  unfolding shown reads lamp_told position Since Secured cold readings.reading readings.point_reading lamp_of
  cold_has = record {
    ranged = cold_in_range;
    seen = refl;
    reads = λ g b. read_same most_sections 3 3 g (omega (arith, S.ranges.section_count));
    heads = cold_heads_law L S.ranges.section_count.1;
    lamps = λ x b. read_same most_lamps 3 3 x (omega (arith, all_signals L S));
    points = λ p b. read_same most_points 3 3 p (omega (arith, S.ranges.point_count));
    bars = λ l i b c. (λ d. absurd (d (cold_bar l i b c)), λ x. absurd x);
    blocks = cold_block;
    routes = cold_route;
    upright = λ r b d. absurd (d (cold_phase r b));
    lines = λ l b w d. (λ q. absurd (d (omega (arith, cold_direction l b))), λ x. absurd x);
    apart = λ r q b c t d f. d (cold_phase r b);
    lights = λ r b p. absurd (omega (arith, cold_phase r b));
    exits = λ r b k d. absurd (d (cold_phase r b));
  }
