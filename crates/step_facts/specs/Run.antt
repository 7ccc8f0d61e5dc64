-- Runs: events taken one at a time, each in the state that the one before it left.
use Rattle.std.specs.Prelude.{ℕ, List, [], ◌∷◌}
use Rattle.layout.specs.declared.Layout.{Layout}
use Rattle.interlocking.specs.declared.State.{State}
use Rattle.interlocking.specs.declared.Answer.{Answer}
use Rattle.interlocking.specs.State.{cold}
use Rattle.interlocking.specs.Step.{step, step_in_run}

-- an event: three numbers (section 3)
pub record Event : Type 0 where
  pub kind : ℕ
  pub first : ℕ
  pub second : ℕ

-- an event by its numbers
abbrev pub event : ℕ → ℕ → ℕ → Event
event k a b = record { kind = k; first = a; second = b }

-- ---- runs

-- the box on layout L: in each state, for each event, an answer with the next state
unfoldable pub box : Layout → State → Event → Answer
box L s e = step L s e.kind e.first e.second

-- the same where soundness was asked before the first event
unfoldable pub box_in_run : Layout → State → Event → Answer
box_in_run L s e = step_in_run L s e.kind e.first e.second

-- the state after a list of events
unfoldable pub state_after : (State → Event → Answer) → State → List Event → State
state_after f s [] = s
state_after f s (e ∷ es) = state_after f (f s e).next es

-- the answer to each of them, with the state that it leaves
unfoldable pub answers : (State → Event → Answer) → State → List Event → List Answer
answers f s [] = []
answers f s (e ∷ es) = f s e ∷ answers f (f s e).next es

-- the state of the box on layout L after a list of events from the cold start
unfoldable pub from_cold : Layout → List Event → State
from_cold L es = state_after (box L) cold es
