-- It lets trains pass, on every layout in use and from every state that a run reaches: a train that is in a block, in stage 1, with its far signal at
-- proceed clears the block by going on: its far section is given occupied, and later the block free, while the far signal's lamp reports stop (L3). Where it
-- does not, the block waits until what lies beyond it is freed. Beside the demands of document 01.
--
-- Read as `Demand3` says.
use Rattle.std.specs.Prelude.{ℕ, ◌+◌, ◌*◌, ◌<◌, ◌≤◌, ◌≡◌, ◌≢◌, ◌⊎◌, true, false, List, [], ◌∷◌, ◌++◌}
use Rattle.std.specs.Int.Signed.{mag}
use Rattle.track.specs.Codes.{free, occupied, reads_none, neutral, entrance_route, open_block, stage1, stage3, read_section, axles_in, axles_out}
use Rattle.track.specs.Blocks.{only_section}
use Rattle.axles.specs.HeadLog.{HeadLog, last_told, number_told}
use Rattle.axles.specs.Since.{rolled}
use Rattle.layout.specs.declared.Layout.{Layout}
use Rattle.passage.specs.declared.Beyond.{Beyond}
use Rattle.passage.specs.declared.Beyond.TheVariants.{Block, Station}
use Rattle.passage.specs.Passage.{beyond, from_arrival}
use Rattle.layout.specs.Layout.{is_fitted, line_in, route_in}
use Rattle.panel.specs.Shown.{Panel, shows_idle}
use Rattle.fitted.specs.InUse.{InUse}
use Rattle.step_facts.specs.Run.{Event, event, box, from_cold}
use Rattle.safety.specs.History.{Moment, head_log, gave_section, gave_block, shown, moment, history}
use Rattle.safety.specs.Cleared.{far_section, far_signal, Proceeds, Stays, StopLit, FreesBeyond}

-- ---- a train in a block

-- after the events es one is in block i of line l, which is secured in direction w, and its far signal shows proceed
pub record MayGoOn (L : Layout) (es : List Event) (l i w : ℕ) : Type 0 where
  pub line : l < L.lines
  pub block : i < (line_in L l).blocks
  pub entered : (shown L (history L es)).block l i ≡ stage1
  pub way : (shown L (history L es)).line l ≡ w
  pub secured : w ≢ neutral
  pub proceeds : Proceeds (shown L (history L es)) (far_signal L l i w)

-- the moment of event e, the next after the events es
abbrev pub next : Layout → List Event → Event → Moment
next L es e = moment L e (box L (from_cold L es) e)

-- it gives section g the reading v
abbrev pub GivesNext : Layout → List Event → Event → ℕ → ℕ → Type 0
GivesNext L es e g v = gave_section L g (next L es e) (history L es) ≡ v

-- while the train goes out: none of the events `more`, after the events es, gives the block a none or a free, or its far section a none
unfoldable pub GoingOut : Layout → ℕ → ℕ → ℕ → List Event → List Event → Type 0
GoingOut L l i w es [] = Unit {0}
GoingOut L l i w es (e ∷ more) =
    (Stays (gave_block L l i) (next L es e) (history L es) × (gave_section L (far_section L l i w) (next L es e) (history L es) ≢ reads_none))
    × GoingOut L l i w (es ++ (e ∷ [])) more

-- ---- whatever the events are

-- on layout L: an event that gives the far section occupied, any events while the train goes out, after which the far signal's lamp reports stop (L3), and one
-- that gives the block free open the block
abbrev pub PassesOn : Layout → Type 0
PassesOn L =
    (es more : List Event) (l i w : ℕ) (e f : Event) → MayGoOn L es l i w
    → GivesNext L es e (far_section L l i w) occupied → GoingOut L l i w (es ++ (e ∷ [])) more
    → StopLit L l i w (history L ((es ++ (e ∷ [])) ++ more))
    → GivesNext L ((es ++ (e ∷ [])) ++ more) f (only_section (line_in L l) i) free
    → (shown L (history L (((es ++ (e ∷ [])) ++ more) ++ (f ∷ [])))).block l i ≡ open_block

-- where the lamp does not report stop, the block waits in stage 3, or opens because the same event frees what lies beyond it (L3)
abbrev pub WaitsOn : Layout → Type 0
WaitsOn L =
    (es more : List Event) (l i w : ℕ) (e f : Event) → MayGoOn L es l i w
    → GivesNext L es e (far_section L l i w) occupied → GoingOut L l i w (es ++ (e ∷ [])) more
    → ¬ StopLit L l i w (history L ((es ++ (e ∷ [])) ++ more))
    → GivesNext L ((es ++ (e ∷ [])) ++ more) f (only_section (line_in L l) i) free
    → ((shown L (history L (((es ++ (e ∷ [])) ++ more) ++ (f ∷ [])))).block l i ≡ stage3)
    ⊎ (((shown L (history L (((es ++ (e ∷ [])) ++ more) ++ (f ∷ [])))).block l i ≡ open_block)
    × FreesBeyond L l w (from_arrival (line_in L l) w i) (next L ((es ++ (e ∷ [])) ++ more) f) (history L ((es ++ (e ∷ [])) ++ more)))

-- what lies beyond a block, by what shows before an event and after it, is freed: the next block opens, or an entrance route of the station there goes
unfoldable pub FreedNext : Layout → ℕ → Panel → Panel → Beyond → Type 0
FreedNext L l before after (Block j) = (before.block l j ≢ open_block) × (after.block l j ≡ open_block)
FreedNext L l before after (Station end) =
    (r : ℕ) × (r < L.routes) × ((route_in L r).kind ≡ entrance_route) × ((route_in L r).line ≡ l) × ((route_in L r).end ≡ end)
    × (before.route r ≢ shows_idle) × (after.route r ≡ shows_idle)

-- a block that waits opens with the event that frees what lies beyond it (L3); one that gives the block itself a reading gives it free
abbrev pub PassesBack : Layout → Type 0
PassesBack L =
    (es : List Event) (l i w : ℕ) (e : Event) → l < L.lines → i < (line_in L l).blocks → (shown L (history L es)).block l i ≡ stage3
    → (shown L (history L es)).line l ≡ w → gave_block L l i (next L es e) (history L es) ≢ occupied → gave_block L l i (next L es e) (history L es) ≢ reads_none
    → FreedNext L l (shown L (history L es)) (shown L (history L (es ++ (e ∷ [])))) (beyond (line_in L l) i w)
    → (shown L (history L (es ++ (e ∷ [])))).block l i ≡ open_block

-- so on every layout in use
abbrev pub TrainsPass : Type 0
TrainsPass = (L : Layout) → InUse L → PassesOn L × WaitsOn L × PassesBack L

-- ---- by readings and counts

-- what was said of the heads of section g
abbrev pub head_log_of : Layout → List Event → ℕ → HeadLog
head_log_of L es g = head_log g (history L es)

-- after the events es a train arrives in section g: it is read occupied; or, where it has heads, 1 to 255 axles more are counted in past one of them (L1)
pub data Arrives (L : Layout) (es : List Event) (g : ℕ) : Event → Type 0 where
  by_reading : is_fitted L g ≡ false → Arrives L es g (event read_section g occupied)
  by_count : is_fitted L g ≡ true → (j n : ℕ) → j < 2 → 1 ≤ n → n ≤ 255
      → Arrives L es g (event axles_in (2 * g + j) (rolled (last_told axles_in j (head_log_of L es g) + n)))

-- it leaves section g: it is read free; or, where it has heads, as many axles more as are in it are counted out past one of them (L1)
pub data Leaves (L : Layout) (es : List Event) (g : ℕ) : Event → Type 0 where
  by_reading : is_fitted L g ≡ false → Leaves L es g (event read_section g free)
  by_count : is_fitted L g ≡ true → (j : ℕ) → j < 2
      → Leaves L es g (event axles_out (2 * g + j) (rolled (last_told axles_out j (head_log_of L es g) + mag (number_told (head_log_of L es g)))))

-- the block opens by them, with any events between while the train goes out. Nothing else is asked of the heads: the far section reads free while its
-- signal shows proceed, and the block occupied until it opens, so both heads of either speak, and its last reset is proved
abbrev pub PassByCounts : Type 0
PassByCounts =
    (L : Layout) → InUse L → (es more : List Event) (l i w : ℕ) (e f : Event) → MayGoOn L es l i w
    → Arrives L es (far_section L l i w) e → GoingOut L l i w (es ++ (e ∷ [])) more → StopLit L l i w (history L ((es ++ (e ∷ [])) ++ more)) → Leaves L ((es ++ (e ∷ [])) ++ more) (only_section (line_in L l) i) f
    → (shown L (history L (((es ++ (e ∷ [])) ++ more) ++ (f ∷ [])))).block l i ≡ open_block

-- so by two readings where neither section has heads
abbrev pub PassByReadings : Type 0
PassByReadings =
    (L : Layout) → InUse L → (es more : List Event) (l i w : ℕ) → MayGoOn L es l i w
    → is_fitted L (far_section L l i w) ≡ false → is_fitted L (only_section (line_in L l) i) ≡ false
    → GoingOut L l i w (es ++ (event read_section (far_section L l i w) occupied ∷ [])) more
    → StopLit L l i w (history L ((es ++ (event read_section (far_section L l i w) occupied ∷ [])) ++ more))
    → (shown L (history L (((es ++ (event read_section (far_section L l i w) occupied ∷ [])) ++ more) ++ (event read_section (only_section (line_in L l) i) free ∷ [])))).block l i
    ≡ open_block
