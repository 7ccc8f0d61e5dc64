-- Every route that can be set at all comes to be, with its signal at proceed: a way to it from every state that a run can reach. Beside the demands of document 01.
use Rattle.std.specs.Prelude.{ℕ, zero, suc, ◌+◌, ◌*◌, ◌<◌, ◌≤◌, ◌≡◌, List, [], ◌∷◌, ◌++◌, eqb, length}
use Rattle.laws.specs.Choice.{when◌then◌else◌}
use Rattle.laws.specs.Tables.{table, join}
use Rattle.track.specs.Codes.{exit_route, leaving, read_point, throw_point, set_route, unbar_block, report_lamp, lamp_stop}
use Rattle.track.specs.Signal.{main}
use Rattle.passage.specs.Passage.{arrival}
use Rattle.signals.specs.MainSignals.{proceed_shown}
use Rattle.rules.specs.Rules.{is_block}
use Rattle.layout.specs.declared.Layout.{Layout}
use Rattle.layout.specs.Layout.{line_in, route_in}
use Rattle.layout_facts.specs.Plain.{own_section, entrance_signal, line_point, line_position, path, overlap, route_point, route_position}
use Rattle.fitted.specs.InUse.{InUse}
use Rattle.interlocking.specs.declared.State.{State}
use Rattle.interlocking.specs.Step.{step}
use Rattle.step_facts.specs.Run.{Event, event, box, state_after, from_cold}
use Rattle.panel.specs.Panel.{image}
use Rattle.panel.specs.Shown.{shows_locked, Panel, panel}
use Rattle.way_out.specs.Freeing.{CountsOf, freeing, counts_since, fitted_among, fitted_blocks}
use Rattle.way_out.specs.WayOut.{way_out, Granted}

-- ---- the events of the way, by their kind

-- unbar the n blocks of line l
unfoldable pub unbars : ℕ → ℕ → List Event
unbars l n = table n (λ i. event unbar_block l i)

-- section g comes to read free. A block reads free since the way out, and is left alone: an axle counted in it would take it again
unfoldable pub reads_free : Layout → CountsOf → ℕ → List Event
reads_free L cs g = when is_block L.lines L.line g then [] else freeing L cs g

-- what the counts stand at once the sections g 0, .., g (n - 1) have: those of a section that is asked for again stand one axle further; of a block they are
-- not asked
unfoldable pub counts_after : CountsOf → ℕ → (ℕ → ℕ) → CountsOf
counts_after cs zero g = cs
counts_after cs (suc n) g = counts_since (counts_after cs n g) (g n)

-- those sections come to read free, one after the other
unfoldable pub all_reads_free : Layout → CountsOf → ℕ → (ℕ → ℕ) → List Event
all_reads_free L cs n g = join n (λ j. reads_free L (counts_after cs j g) (g j))

-- throw the points p 0, .., p (n - 1), each to its position
unfoldable pub throws : ℕ → (ℕ → ℕ) → (ℕ → ℕ) → List Event
throws n p w = table n (λ j. event throw_point (p j) (w j))

-- they read those positions
unfoldable pub reads_placed : ℕ → (ℕ → ℕ) → (ℕ → ℕ) → List Event
reads_placed n p w = table n (λ j. event read_point (p j) (w j))

-- ---- the way

-- n points in position: the section in which each stands reads free, each is thrown, each reads its position
unfoldable pub placing : Layout → CountsOf → ℕ → (ℕ → ℕ) → (ℕ → ℕ) → List Event
placing L cs n p w = all_reads_free L cs n (λ j. own_section L (p j)) ++ (throws n p w ++ reads_placed n p w)

-- what the counts stand at once the path of route r reads free
unfoldable pub counts_after_path : Layout → CountsOf → ℕ → CountsOf
counts_after_path L cs r = counts_after cs (route_in L r).paths (path L r)

-- then its overlap
unfoldable pub counts_after_overlap : Layout → CountsOf → ℕ → CountsOf
counts_after_overlap L cs r = counts_after (counts_after_path L cs r) (route_in L r).overlaps (overlap L r)

-- then the sections in which its points stand
unfoldable pub counts_after_points : Layout → CountsOf → ℕ → CountsOf
counts_after_points L cs r = counts_after (counts_after_overlap L cs r) (route_in L r).points (λ j. own_section L (route_point L r j))

-- what every route asks (section 3, set route: 6, 7/8): path and overlap read free, its points in position
unfoldable pub clearing : Layout → CountsOf → ℕ → List Event
clearing L cs r =
    all_reads_free L cs (route_in L r).paths (path L r)
    ++ (all_reads_free L (counts_after_path L cs r) (route_in L r).overlaps (overlap L r)
    ++ placing L (counts_after_overlap L cs r) (route_in L r).points (route_point L r) (route_position L r))

-- line l can be secured in direction w (section 3, secure: 11, 6, 31): no bar on it, its points in position, and (L3) the lamp of the entrance signal at the
-- arrival end reports stop
unfoldable pub readying : Layout → CountsOf → ℕ → ℕ → List Event
readying L cs l w =
    unbars l (line_in L l).blocks
    ++ (placing L cs (line_in L l).points (line_point L l) (line_position L l) ++ (event report_lamp (entrance_signal L l (arrival w)) lamp_stop ∷ []))

-- what an exit route asks besides (section 3, set route: 9, 6, 11, 10): that its line can be secured its way, which setting it does first (L5); the other
-- kinds ask nothing of a line
unfoldable pub line_for : Layout → CountsOf → ℕ → List Event
line_for L cs r = when eqb (route_in L r).kind exit_route then readying L cs (route_in L r).line (leaving (route_in L r).end) else []

-- the way out of the state, then what the route asks, then it is set; the way out frees blocks, whose counts are not asked again
unfoldable pub way_to_proceed : Layout → CountsOf → State → ℕ → List Event
way_to_proceed L cs s r = way_out L cs s ++ (clearing L cs r ++ (line_for L (counts_after_points L cs r) r ++ (event set_route r 0 ∷ [])))

-- ---- what is said of it

-- the points of route r and those of its line do not ask one point in two positions
abbrev pub PointsAgree : Layout → ℕ → Type 0
PointsAgree L r =
    (j k : ℕ) → j < (route_in L r).points → k < (line_in L (route_in L r).line).points → route_point L r j ≡ line_point L (route_in L r).line k
    → route_position L r j ≡ line_position L (route_in L r).line k

-- what the panel shows after a list of events
abbrev pub shown_after : Layout → State → List Event → Panel
shown_after L s es = panel L (image L (state_after (box L) s es))

-- how many of the sections have heads in which the points of its line stand, where it is an exit route: at most 8
unfoldable pub fitted_for_line : Layout → ℕ → ℕ
fitted_for_line L r =
    when eqb (route_in L r).kind exit_route then fitted_among L (line_in L (route_in L r).line).points (λ j. own_section L (line_point L (route_in L r).line j)) else 0

-- and how many of all that a route asks for, path, overlap and the sections in which points stand: at most 28
unfoldable pub fitted_asked : Layout → ℕ → ℕ
fitted_asked L r =
    fitted_among L (route_in L r).paths (path L r) + fitted_among L (route_in L r).overlaps (overlap L r)
    + fitted_among L (route_in L r).points (λ j. own_section L (route_point L r j)) + fitted_for_line L r

-- the way is granted, no longer than the layout allows (160: a lamp's report more than before L3, an order to secure less since L5), and ends with the route
-- shown locked and its signal at proceed: 21 (diverging) or 22
pub record WayToProceed (L : Layout) (cs : CountsOf) (s : State) (r : ℕ) : Type 0 where
  pub granted : Granted L s (way_to_proceed L cs s r)
  pub short : length (way_to_proceed L cs s r) ≤ L.routes + 9 * L.lines + 160 + 6 * (fitted_blocks L L.lines + fitted_asked L r)
  pub locks : (shown_after L s (way_to_proceed L cs s r)).route r ≡ shows_locked
  pub shows : (shown_after L s (way_to_proceed L cs s r)).signal (main (route_in L r).entry) ≡ proceed_shown (route_in L r)

-- from every state that a run can reach on a layout in use, with or without heads, whatever their counts stand at, for every route; of an exit route the points
-- and those of its line agree
abbrev pub EveryRouteProceeds : Type 0
EveryRouteProceeds =
    (L : Layout) → InUse L → (cs : CountsOf) (es : List Event) (r : ℕ) → r < L.routes
    → ((route_in L r).kind ≡ exit_route → PointsAgree L r)
    → WayToProceed L cs (from_cold L es) r

-- and the points must agree: where they do not, no state of any layout grants the exit route
abbrev pub SetNeedsAgreement : Type 0
SetNeedsAgreement = (L : Layout) (s : State) (r : ℕ) → (route_in L r).kind ≡ exit_route → (step L s set_route r 0).number ≡ 0 → PointsAgree L r
