-- One order for departure (L5): what setting an exit route does on a neutral line, told by the two orders that it stands for; and that nothing new can be
-- reached by it.
--
-- Read as `Demand3` says; r is an exit route, s a state.
use Rattle.std.specs.Prelude.{ℕ, ◌≡◌, ◌↔◌, true, false, List, [], ◌∷◌}
use Rattle.track.specs.Codes.{leaving, set_route, secure_line}
use Rattle.tables.specs.Locks.{departs}
use Rattle.layout.specs.declared.Layout.{Layout}
use Rattle.layout.specs.Layout.{route_in}
use Rattle.fitted.specs.InUse.{InUse}
use Rattle.interlocking.specs.declared.State.{State}
use Rattle.interlocking.specs.State.{cold}
use Rattle.step_facts.specs.Run.{Event, event, box, from_cold}

-- ---- the two orders

-- to secure its line, the route's way
abbrev pub secure_it : Layout → ℕ → Event
secure_it L r = event secure_line (route_in L r).line (leaving (route_in L r).end)

-- to set it
abbrev pub set_it : ℕ → Event
set_it r = event set_route r 0

-- the state after the first
abbrev pub secured_first : Layout → State → ℕ → State
secured_first L s r = (box L s (secure_it L r)).next

-- ---- what is proved

-- from state s, in which its line is neutral
pub record OneOrder (L : Layout) (s : State) (r : ℕ) : Type 0 where
  -- "if either half would be refused, the whole is": it is granted just where secure would be, and then the route could be set
  pub both_halves : (box L s (set_it r)).number ≡ 0 ↔ ((box L s (secure_it L r)).number ≡ 0) × ((box L (secured_first L s r) (set_it r)).number ≡ 0)
  -- and then it leaves the state that the two leave
  pub same_state : (box L s (set_it r)).number ≡ 0 → (box L s (set_it r)).next ≡ (box L (secured_first L s r) (set_it r)).next

-- on every layout in use, in every state that a run can reach
abbrev pub OneOrderIsTwo : Type 0
OneOrderIsTwo = (L : Layout) → InUse L → (es : List Event) (r : ℕ) → departs (from_cold L es).direction (route_in L r) ≡ true → OneOrder L (from_cold L es) r

-- ---- nothing new

-- in the run of a list of events from state s no order sets an exit route on a neutral line: each line was secured before
unfoldable pub SecuredBefore : Layout → State → List Event → Type 0
SecuredBefore L s [] = Unit {0}
SecuredBefore L s (e ∷ es) = (e.kind ≡ set_route → departs s.direction (route_in L e.first) ≡ false) × SecuredBefore L (box L s e).next es

-- whatever state a run reaches, one reaches it in which each line was secured before
abbrev pub NothingNew : Type 0
NothingNew = (L : Layout) → InUse L → (es : List Event) → (fs : List Event) × SecuredBefore L cold fs × (from_cold L fs ≡ from_cold L es)
