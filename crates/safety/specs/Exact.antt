-- Demand 3 the other way round: all that shows is told from the events and the numbers of their answers, so that a box that never opens a block, opens one
-- late, never lets a route go or never clears a signal is refused as one that is too early is. After each event of any run on any layout in use each
-- byte of the panel image is what the history tells (sections 1 and 4 to 7). Of the bytes that showed only the drop of a passage asks, and those are told
-- in the same way: `Only` proves that no second log is exact.
--
-- Read as `Demand3` says.
use Rattle.std.specs.Prelude.{ℕ, ◌<◌, ◌≤◌, ◌≡◌, ◌≢◌, ◌⊎◌, ◌↔◌, List, eqb}
use Rattle.laws.specs.Choice.{when◌then◌else◌}
use Rattle.track.specs.Codes.{neutral, a_to_b, b_to_a, open_block, stage1, stage2, stage3}
use Rattle.track.specs.Signal.{main, into}
use Rattle.signals.specs.Aspects.{dark, stop}
use Rattle.layout.specs.declared.Layout.{Layout}
use Rattle.layout.specs.Layout.{line_in, route_in}
use Rattle.fitted.specs.InUse.{InUse}
use Rattle.step_facts.specs.Run.{Event}
use Rattle.panel.specs.Shown.{shows_idle, shows_locked, shows_cancelling}
use Rattle.panel.specs.Distants.{DistantsShow}
use Rattle.safety.specs.History.{History, gave_block, section_reads, shown, history}
use Rattle.safety.specs.Locked.{Cancelled, Locked}
use Rattle.safety.specs.Cleared.{Proceeds, Entered, Passage, Waits, Opened}
use Rattle.safety.specs.Secured.{Secured}
use Rattle.safety.specs.Lights.{position, MayEnter, Lit, AtProceed}

-- ---- blocks (section 5)

-- what block i of line l shows is what the history tells of it
pub record BlockExact (L : Layout) (h : History) (l i : ℕ) : Type 0 where
  -- open: it reads free and was cleared
  pub opens : (shown L h).block l i ≡ open_block ↔ Opened L l i h
  -- stage 1 or 2: it was entered
  pub enters : (stage1 ≤ (shown L h).block l i) × ((shown L h).block l i ≤ stage2) ↔ Entered (gave_block L l i) h
  -- stage 2: it waits for the free reading that closes a passage
  pub passes : (shown L h).block l i ≡ stage2 ↔ (w : ℕ) × Passage L l i w h
  -- stage 3: that reading came, and it waits until what lies beyond it is freed (L3)
  pub waits : (shown L h).block l i ≡ stage3 ↔ (w : ℕ) × Waits L l i w h
  -- and there is nothing above that
  pub most : (shown L h).block l i ≤ stage3

-- ---- lines (section 5)

-- the direction that line l shows is the one in which it is secured
pub record LineExact (L : Layout) (h : History) (l : ℕ) : Type 0 where
  pub secured : (w : ℕ) → w ≢ neutral → ((shown L h).line l ≡ w ↔ Secured L l w h)
  pub most : (shown L h).line l ≤ b_to_a

-- ---- routes (section 6)

-- route r shows locked or cancelling just where it is
pub record RouteExact (L : Layout) (h : History) (r : ℕ) : Type 0 where
  pub idles : (shown L h).route r ≡ shows_idle ↔ ¬ Locked L r h
  pub locks : (shown L h).route r ≡ shows_locked ↔ (Locked L r h × ¬ Cancelled r h)
  pub cancels : (shown L h).route r ≡ shows_cancelling ↔ (Locked L r h × Cancelled r h)
  pub most : (shown L h).route r ≤ shows_cancelling

-- ---- signals (section 4)

-- the signal into block i of line l in direction w: 22 if the block may be entered, else 20; and dark where its line is not secured that way, or no signal
-- stands there
pub record BlockSignalExact (L : Layout) (h : History) (l i w : ℕ) : Type 0 where
  pub proceeds : Lit L l i w h → MayEnter L l i h → (shown L h).signal (into l i w) ≡ 22
  pub stops : Lit L l i w h → ¬ MayEnter L l i h → (shown L h).signal (into l i w) ≡ stop
  pub darkens : ¬ Lit L l i w h → (shown L h).signal (into l i w) ≡ dark

-- main signal x: proceed just where a route that starts at it is at proceed, 21 (diverging) or 22, and else 20
pub record MainSignalExact (L : Layout) (h : History) (x : ℕ) : Type 0 where
  pub proceeds : Proceeds (shown L h) (main x) ↔ (r : ℕ) × (r < L.routes) × ((route_in L r).entry ≡ x) × AtProceed L r h
  pub light : (r : ℕ) → r < L.routes → (route_in L r).entry ≡ x → AtProceed L r h
      → (shown L h).signal (main x) ≡ when eqb (route_in L r).diverging 1 then 21 else 22
  pub stops : ¬ Proceeds (shown L h) (main x) → (shown L h).signal (main x) ≡ stop

-- ---- all of them

-- each section and point shows what it reads (section 1); each distant what L2 says of the signals as they show after the same event, which `Distants` tells
-- signal by signal; and the rest is as told above
pub record Exact (L : Layout) (h : History) : Type 0 where
  pub sections : (g : ℕ) → g < L.sections → (shown L h).section g ≡ section_reads L g h
  pub points : (p : ℕ) → p < L.points → (shown L h).point p ≡ position p h
  pub blocks : (l i : ℕ) → l < L.lines → i < (line_in L l).blocks → BlockExact L h l i
  pub lines : (l : ℕ) → l < L.lines → LineExact L h l
  pub routes : (r : ℕ) → r < L.routes → RouteExact L h r
  pub mains : (x : ℕ) → x < L.signals → MainSignalExact L h x
  pub block_signals : (l i w : ℕ) → l < L.lines → i < (line_in L l).blocks → (w ≡ a_to_b) ⊎ (w ≡ b_to_a) → BlockSignalExact L h l i w
  pub distants : DistantsShow L (shown L h)

-- on every layout in use, after every list of events from the cold start
abbrev pub ShowsExactly : Type 0
ShowsExactly = (L : Layout) → InUse L → (es : List Event) → Exact L (history L es)
