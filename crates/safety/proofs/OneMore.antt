-- A run that goes on: the history of one event more.
use mathlib.Core.Path.{◌≡◌, refl}
use mathlib.Core.List.{List, [], ◌∷◌, ◌++◌}
use Rattle.laws.specs.Tests.{◌and◌}
use Rattle.layout.specs.declared.Layout.{Layout}
use Rattle.layout.specs.Sound.{sound}
use Rattle.interlocking.specs.declared.State.{State}
use Rattle.interlocking.specs.declared.Answer.{Answer}
use Rattle.interlocking.specs.State.{cold, in_range}
use Rattle.interlocking.specs.Step.{refusal}
use Rattle.step_facts.specs.Run.{Event, box, state_after, from_cold}
use Rattle.step_facts.proofs.Granted.{step_granted}
use Rattle.step_facts.proofs.Within.{end}
use Rattle.safety.specs.History.{History, goes_on, history}
use Rattle.safety.specs.Passing.{next}

-- the history of two lists of events, one after the other
pub on_with : (L : Layout) (f : State → Event → Answer) (s : State) (h : History) (es more : List Event)
    → goes_on L f s h (es ++ more) ≡ goes_on L f (state_after f s es) (goes_on L f s h es) more
unfolding goes_on state_after
on_with L f s h [] more = refl
on_with L f s h (e ∷ es) more = on_with L f (f s e).next _ es more

-- the answer to an event that nothing refuses
pub box_grants : (L : Layout) (s : State) (e : Event) → (refusal (sound L and in_range s) L s e.kind e.first e.second).number ≡ 0
    → box L s e ≡ record { number = 0; detail = 0; next = end L s e }
unfolding box
box_grants L s e pass = step_granted L s e pass

-- the history of one event more
pub one_more : (L : Layout) (es : List Event) (e : Event) → history L (es ++ (e ∷ [])) ≡ next L es e ∷ history L es
unfolding history from_cold goes_on
one_more L es e = on_with L (box L) cold [] es (e ∷ [])
