-- No dead end: a way out of every state that a run can reach. Beside the demands of document 01.
use Rattle.std.specs.Prelude.{ℕ, zero, suc, ◌+◌, ◌*◌, ◌<◌, ◌≤◌, ◌≡◌, Bool, true, not, List, [], ◌∷◌, ◌++◌, eqb, length, replicate}
use Rattle.laws.specs.Choice.{when◌then◌else◌}
use Rattle.laws.specs.Tests.{◌and◌}
use Rattle.track.specs.Codes.{free, neutral, idle, cancelling, cancel_route, release_line, one_second}
use Rattle.track.specs.Blocks.{only_section}
use Rattle.tables.specs.Readings.{block_reading}
use Rattle.tables.specs.Blocks.{is_open}
use Rattle.tables.specs.Locks.{direction, phase, locked}
use Rattle.layout.specs.declared.Layout.{Layout}
use Rattle.layout.specs.Layout.{line_in}
use Rattle.fitted.specs.InUse.{InUse}
use Rattle.interlocking.specs.declared.State.{State}
use Rattle.interlocking.specs.Step.{step}
use Rattle.step_facts.specs.Run.{Event, event, box, state_after, from_cold}
use Rattle.way_out.specs.Freeing.{CountsOf, freeing, fitted_blocks}

-- ---- the way out

-- route r is locked and not cancelling
unfoldable pub standing : State → ℕ → Bool
standing s r = locked s.phase r and not (eqb (phase s.phase r) cancelling)

-- cancel each of the first n routes that is locked and not cancelling when its turn comes
unfoldable pub cancels : Layout → ℕ → State → List Event
cancels L zero s = []
cancels L (suc r) s = when standing s r then event cancel_route r 0 ∷ cancels L r (step L s cancel_route r 0).next else cancels L r s

-- ninety seconds
unfoldable pub ninety_seconds : List Event
ninety_seconds = replicate 90 (event one_second 0 0)

-- the first i blocks of line l come to read free: the one section of each does
unfoldable pub read_free : Layout → CountsOf → ℕ → ℕ → List Event
read_free L cs l zero = []
read_free L cs l (suc i) = freeing L cs (only_section (line_in L l) i) ++ read_free L cs l i

-- all blocks of the first n lines do; no two are one section (rule 1), so the counts of each stand where they stood
unfoldable pub all_read_free : Layout → CountsOf → ℕ → List Event
all_read_free L cs zero = []
all_read_free L cs (suc l) = read_free L cs l (line_in L l).blocks ++ all_read_free L cs l

-- release each of the first n lines by hand; the ground given is 1, and the box takes any (section 3)
unfoldable pub releases : ℕ → List Event
releases zero = []
releases (suc l) = event release_line l 1 ∷ releases l

-- one after the other
unfoldable pub way_out : Layout → CountsOf → State → List Event
way_out L cs s = cancels L L.routes s ++ (ninety_seconds ++ (all_read_free L cs L.lines ++ releases L.lines))

-- ---- what is said of it

-- each event of a list is granted, answered by 0, when its turn comes
unfoldable pub Granted : Layout → State → List Event → Type 0
Granted L s [] = Unit {0}
Granted L s (e ∷ es) = ((step L s e.kind e.first e.second).number ≡ 0) × Granted L (step L s e.kind e.first e.second).next es

-- every route is idle, every line neutral, every block open and free
pub record AtRest (L : Layout) (s : State) : Type 0 where
  pub routes : (r : ℕ) → r < L.routes → phase s.phase r ≡ idle
  pub lines : (l : ℕ) → l < L.lines → direction s.direction l ≡ neutral
  pub blocks : (l i : ℕ) → l < L.lines → i < (line_in L l).blocks → is_open s.stage l i ≡ true
  pub free : (l i : ℕ) → l < L.lines → i < (line_in L l).blocks → block_reading s.section (line_in L l) i ≡ free

-- the way out is granted, no longer than the layout allows, and ends at rest
pub record WayOut (L : Layout) (cs : CountsOf) (s : State) : Type 0 where
  pub granted : Granted L s (way_out L cs s)
  pub short : length (way_out L cs s) ≤ L.routes + 90 + 9 * L.lines + 6 * fitted_blocks L L.lines
  pub rest : AtRest L (state_after (box L) s (way_out L cs s))

-- from every state that a run can reach on a layout in use, with or without heads, whatever their counts stand at
abbrev pub NoDeadEnd : Type 0
NoDeadEnd = (L : Layout) → InUse L → (cs : CountsOf) (es : List Event) → WayOut L cs (from_cold L es)
