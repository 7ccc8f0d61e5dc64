-- Demand 3. From a cold start, after each event of any run on any accepted layout: no two conflicting routes are locked; a signal shows proceed into a
-- block only if the line is secured its way, no other signal shows proceed into it, it reads free, and the free reading that ended its last spell of
-- not reading free (the cold start counts as one) closed a proved passage, or a manual release of its line was accepted since that spell. L3: a passage is
-- proved once stop was lit on the far signal, by its lamp's latest report at the closing free reading, or what lies beyond was freed. And besides: a
-- main signal shows proceed only for a locked route that starts at it and has all that keeps it there; the line of a locked exit route is secured its
-- way, and a line shows a direction only where it is secured so. Told from the history: the events, their answers, and the bytes that showed.
--
-- Read `≡` as is, `≢` as is not, `×` as and, `⊎` as or, `→` as then, `↔` as just where, `¬` as not, `⊥` as never; `(r : ℕ) × ..` as there is a number r
-- such that; `λ m older. ..` as of the event m and what was older than it. L is the layout, h a history, m a moment, p what shows, x and y signals, r and q
-- routes; l, i, w are a line, its block counted from A, and a direction.
use Rattle.std.specs.Prelude.{ℕ, ◌<◌, ◌≡◌, ◌≢◌, true, List}
use Rattle.track.specs.Codes.{free, exit_route, neutral, leaving}
use Rattle.track.specs.Signal.{Signal, main, into}
use Rattle.layout.specs.declared.Layout.{Layout}
use Rattle.layout.specs.Layout.{line_in, route_in, conflict}
use Rattle.layout_facts.specs.Plain.{InBlock, nearest_block}
use Rattle.fitted.specs.InUse.{InUse}
use Rattle.step_facts.specs.Run.{Event}
use Rattle.safety.specs.History.{History, block_reads, shown, history}
use Rattle.safety.specs.Locked.{Locked}
use Rattle.safety.specs.Cleared.{Proceeds, Cleared}
use Rattle.safety.specs.Secured.{Secured}
use Rattle.safety.specs.Lights.{AtProceed}

-- ---- signals into a block

-- route r leads from main signal x into block i of line l in direction w
pub record LeadsOut (L : Layout) (h : History) (x l i w r : ℕ) : Type 0 where
  -- it is a route of the layout, an exit route, starts at x and is locked
  pub there : r < L.routes
  pub is_exit : (route_in L r).kind ≡ exit_route
  pub starts : (route_in L r).entry ≡ x
  pub locked : Locked L r h
  -- it enters the block of its line that is nearest its end, in the direction in which that end is left
  pub of_line : (route_in L r).line ≡ l
  pub enters : nearest_block L (route_in L r).line (route_in L r).end ≡ i
  pub way : leaving (route_in L r).end ≡ w

-- signal x leads into block i of line l in direction w: a main signal by a locked exit route; a block signal belongs to the block it leads into
abbrev pub Leads : Layout → History → Signal → ℕ → ℕ → ℕ → Type 0
Leads L h (main x) l i w = (r : ℕ) × LeadsOut L h x l i w r
Leads L h (into k j v) l i w = (k ≡ l) × (j ≡ i) × (v ≡ w)

-- signal x shows proceed into block i of line l in direction w
pub record Enters (L : Layout) (h : History) (x : Signal) (l i w : ℕ) : Type 0 where
  pub of_line : l < L.lines
  pub of_block : i < (line_in L l).blocks
  pub leads : Leads L h x l i w
  pub proceeds : Proceeds (shown L h) x

-- ---- what is demanded

-- what there must be for signal x to show proceed into block i of line l in direction w
pub record Guarded (L : Layout) (h : History) (x : Signal) (l i w : ℕ) : Type 0 where
  -- the line is secured its way, and shows so
  pub secured : Secured L l w h
  pub shows_secured : (shown L h).line l ≡ w
  -- no other signal shows proceed into the block, whatever line and block have a section of it
  pub alone : (y : Signal) (k j v g : ℕ) → Enters L h y k j v → InBlock L k j g → InBlock L l i g → y ≡ x
  -- the block reads free
  pub is_free : block_reads L l i h ≡ free
  -- a proved passage was closed, or the line released by hand
  pub cleared : Cleared L l i h

-- what shows at the end of a history is safe
pub record Safe (L : Layout) (h : History) : Type 0 where
  -- no two conflicting routes are locked
  pub apart : (r q : ℕ) → r < L.routes → q < L.routes → conflict L r q ≡ true → Locked L r h → Locked L q h → ⊥
  -- the line of a locked exit route is secured its way, also when its signal has fallen behind a train
  pub exits : (r : ℕ) → r < L.routes → (route_in L r).kind ≡ exit_route → Locked L r h → Secured L (route_in L r).line (leaving (route_in L r).end) h
  -- a line shows a direction only where it is secured so
  pub directions : (l w : ℕ) → l < L.lines → w ≢ neutral → (shown L h).line l ≡ w → Secured L l w h
  -- a main signal shows proceed only for a route that starts at it, is locked and not being cancelled, and has had all that keeps its signal there since
  -- it was set
  pub backed : (x : ℕ) → Proceeds (shown L h) (main x) → (r : ℕ) × (r < L.routes) × ((route_in L r).entry ≡ x) × AtProceed L r h
  -- a signal shows proceed into a block only if all that is there
  pub guarded : (x : Signal) (l i w : ℕ) → Enters L h x l i w → Guarded L h x l i w

-- on every layout in use, after every list of events from the cold start: so also after those up to any one of them
abbrev pub Demand3 : Type 0
Demand3 = (L : Layout) → InUse L → (es : List Event) → Safe L (history L es)
