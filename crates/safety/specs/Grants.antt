-- Which events are accepted (section 3), told from the history: of each kind all that there must be. The number of the refusal that each line lifts
-- stands above it. On a layout in use, in a run, nothing is refused by 18.
--
-- Read as `Demand3` says; h is what was before the event, a and b are its two numbers.
use Rattle.std.specs.Prelude.{ℕ, ◌*◌, ◌/◌, ◌<◌, ◌≤◌, ◌≡◌, ◌≢◌, ◌⊎◌, ◌↔◌, true, false, List}
use Rattle.track.specs.Codes.{free, left, right, exit_route, a_to_b, b_to_a, leaving, read_section, read_point, throw_point, set_route, cancel_route, secure_line, release_line, bar_block, unbar_block, one_second, axles_in, axles_out, head_silent, reset_axles, report_lamp, lamp_none}
use Rattle.track.specs.Objects.{entrance}
use Rattle.passage.specs.Passage.{arrival}
use Rattle.layout.specs.declared.Layout.{Layout}
use Rattle.layout.specs.Layout.{line_in, route_in, signals_in, conflict, is_fitted}
use Rattle.fitted.specs.InUse.{InUse}
use Rattle.axles.specs.HeadLog.{both_speak}
use Rattle.step_facts.specs.Run.{Event}
use Rattle.safety.specs.History.{Moment, History, head_log, block_reads, lamp_told, Throughout, history}
use Rattle.safety.specs.Locked.{Cancelled, Locked}
use Rattle.safety.specs.Cleared.{Opened}
use Rattle.safety.specs.Secured.{Barred, Secured, Neutral}
use Rattle.safety.specs.Lights.{LinePlaced, Clear}
use Rattle.safety.specs.Stories.{BladesFree}

-- ---- orders

-- throw point a to position b
pub record MayThrow (L : Layout) (a b : ℕ) (h : History) : Type 0 where
  -- 2
  pub there : a < L.points
  -- 3
  pub position : (b ≡ left) ⊎ (b ≡ right)
  -- 15, 16, 7/8 for the point's own section
  pub blades : BladesFree L a h

-- secure line a in direction b
pub record MaySecure (L : Layout) (a b : ℕ) (h : History) : Type 0 where
  -- 2
  pub there : a < L.lines
  -- 3
  pub direction : (b ≡ a_to_b) ⊎ (b ≡ b_to_a)
  -- 12
  pub is_neutral : Neutral L a h
  -- 11
  pub unbarred : (i : ℕ) → i < (line_in L a).blocks → ¬ Barred a i h
  -- 6 for the line's points
  pub placed : LinePlaced L a h
  -- 10
  pub all_open : (i : ℕ) → i < (line_in L a).blocks → Opened L a i h
  -- 31: the lamp of the arrival entrance signal reports 1 or 2 (L3)
  pub lamp : lamp_told (entrance (line_in L a) (arrival b)) h ≢ lamp_none

-- set route a
pub record MaySet (L : Layout) (a b : ℕ) (h : History) : Type 0 where
  -- 2
  pub there : a < L.routes
  -- 3
  pub unused : b ≡ 0
  -- 4
  pub idle : ¬ Locked L a h
  -- 5
  pub apart : (r : ℕ) → r < L.routes → conflict L a r ≡ true → ¬ Locked L r h
  -- 6, 7/8 over path and overlap; an exit route 6 for the line's points, 11, 10 for the block it enters: all that keeps its signal at proceed
  pub clear : Clear L a h
  -- 9, of an exit route: its line is secured its way; or (L5) it may be secured so, which asks that it is neutral, and 11, 6, 10, 31
  pub secured : (route_in L a).kind ≡ exit_route
      → Secured L (route_in L a).line (leaving (route_in L a).end) h ⊎ MaySecure L (route_in L a).line (leaving (route_in L a).end) h

-- cancel route a
pub record MayCancel (L : Layout) (a b : ℕ) (h : History) : Type 0 where
  -- 2
  pub there : a < L.routes
  -- 3
  pub unused : b ≡ 0
  -- 13
  pub locked : Locked L a h
  -- 14
  pub standing : ¬ Cancelled a h

-- release line a by hand, on ground b
pub record MayRelease (L : Layout) (a b : ℕ) (h : History) : Type 0 where
  -- 2
  pub there : a < L.lines
  -- 3
  pub ground : (1 ≤ b) × (b ≤ 3)
  -- 17
  pub no_exit : (r : ℕ) → r < L.routes → (route_in L r).kind ≡ exit_route → (route_in L r).line ≡ a → ¬ Locked L r h
  -- 7/8 over the line's blocks
  pub is_free : (i : ℕ) → i < (line_in L a).blocks → block_reads L a i h ≡ free

-- ---- events

-- section a reads, with any code
pub record MayRead (L : Layout) (a : ℕ) : Type 0 where
  -- 2
  pub there : a < L.sections
  -- 34
  pub no_heads : is_fitted L a ≡ false

-- head a, of section a / 2, has counted b axles in, or out (L1)
pub record MayCount (L : Layout) (a b : ℕ) : Type 0 where
  -- 2
  pub there : a < 2 * L.sections
  -- 30
  pub heads : is_fitted L (a / 2) ≡ true
  -- 3
  pub sixteen_bits : b ≤ 65535

-- head a is silent (L1)
pub record MaySilence (L : Layout) (a b : ℕ) : Type 0 where
  -- 2
  pub there : a < 2 * L.sections
  -- 30
  pub heads : is_fitted L (a / 2) ≡ true
  -- 3
  pub unused : b ≡ 0

-- the heads of section a are reset (L1)
pub record MayReset (L : Layout) (a b : ℕ) (h : History) : Type 0 where
  -- 2
  pub there : a < L.sections
  -- 30
  pub heads : is_fitted L a ≡ true
  -- 3
  pub unused : b ≡ 0
  -- 35
  pub speak : both_speak (head_log a h) ≡ true

-- the lamp of signal a reports, with any code (L3): 2, by its number among main and block signals
abbrev pub MayReport : Layout → ℕ → Type 0
MayReport L a = a < signals_in L

-- there is block b of line a
pub record BlockThere (L : Layout) (a b : ℕ) : Type 0 where
  -- 2
  pub line : a < L.lines
  -- 3
  pub block : b < (line_in L a).blocks

-- the event is of a kind that section 3's table, L1 or L3 has, and there is what it asks. Every other kind is refused by 1
pub data Grants (L : Layout) (e : Event) (h : History) : Type 0 where
  -- readings, with any code; of a point 2
  section : e.kind ≡ read_section → MayRead L e.first → Grants L e h
  point : e.kind ≡ read_point → e.first < L.points → Grants L e h
  -- orders
  throw : e.kind ≡ throw_point → MayThrow L e.first e.second h → Grants L e h
  set : e.kind ≡ set_route → MaySet L e.first e.second h → Grants L e h
  cancel : e.kind ≡ cancel_route → MayCancel L e.first e.second h → Grants L e h
  secure : e.kind ≡ secure_line → MaySecure L e.first e.second h → Grants L e h
  release : e.kind ≡ release_line → MayRelease L e.first e.second h → Grants L e h
  -- "bar and unbar are accepted also when nothing changes"
  bar : e.kind ≡ bar_block → BlockThere L e.first e.second → Grants L e h
  unbar : e.kind ≡ unbar_block → BlockThere L e.first e.second → Grants L e h
  -- a second: 3, for both numbers
  second : e.kind ≡ one_second → (e.first ≡ 0) × (e.second ≡ 0) → Grants L e h
  -- heads (L1)
  count : (e.kind ≡ axles_in) ⊎ (e.kind ≡ axles_out) → MayCount L e.first e.second → Grants L e h
  silence : e.kind ≡ head_silent → MaySilence L e.first e.second → Grants L e h
  reset : e.kind ≡ reset_axles → MayReset L e.first e.second h → Grants L e h
  -- lamps (L3)
  report : e.kind ≡ report_lamp → MayReport L e.first → Grants L e h

-- ---- what is proved

-- an event is accepted just where there is what it asks
abbrev pub AcceptedJust : Layout → Moment → History → Type 0
AcceptedJust L m h = m.number ≡ 0 ↔ Grants L m.event h

-- on every layout in use, each event of every list of events from the cold start
abbrev pub AcceptsExactly : Type 0
AcceptsExactly =
    (L : Layout) → InUse L → (es : List Event) → Throughout (AcceptedJust L) (history L es)
