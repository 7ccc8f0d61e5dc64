-- The boxes that are wrong in lamps and stage 3 are refused, by computation over the bytes of their layouts (L3). With the box's own parts they are the step
-- of a run.
use mathlib.Core.Path.{◌≡◌, refl}
use mathlib.Core.Bool.{true}
use Rattle.laws.specs.Choice.{when◌then◌else◌}
use Rattle.passage.specs.Passage.{arrival}
use Rattle.line_block.specs.PassingBack.{no_opening, released_entrance_by, arrives}
use Rattle.layout.specs.declared.Layout.{Layout}
use Rattle.interlocking.specs.declared.State.{State}
use Rattle.interlocking.specs.State.{with_routes}
use Rattle.interlocking.specs.Settle.{signals, arrivals}
use Rattle.step_facts.specs.Run.{Event, box_in_run}
use Rattle.safety.specs.Broken.{cleared, Broken}
use Rattle.safety.specs.LateBoxes.{a_block, Inexact}
use Rattle.safety.specs.WrongGrants.{MisjudgedLast}
use Rattle.safety.specs.WrongRuns.{told, Each}
use Rattle.safety.specs.WrongLamps.{sees_by, arrive_by, gone_at, let_in_waiting, left_waiting, secured_dark, secured_behind}
use Rattle.safety.proofs.Computed.{run_computed}
use Rattle.safety.proofs.WrongBoxes.{own_parts}
use Rattle.safety.proofs.WrongGrants.{granted_asks}
use Rattle.safety.proofs.WrongRuns.{same_signal, broken_test, is_broken, passes, each_passes}
use Rattle.safety.proofs.LateBoxes.{differ, inexact_test, is_inexact}

-- ---- the box's own parts; those of a reading are in `WrongBoxes`

-- blocks that wait
pub own_arrivals : (L : Layout) (before s : State) → arrive_by (λ L before s. no_opening) (gone_at arrival) L before s ≡ arrivals L before s
unfolding arrivals arrives released_entrance_by
own_arrivals L before s = refl

-- the state as it is
pub own_seen : (L : Layout) (s : State) (e : Event) → sees_by (λ s. s) L s e ≡ box_in_run L s e
unfolding signals with_routes
own_seen L s e = own_parts L s e

-- ---- demand 3

-- the test of a clause, computed
waiting_tested : passes (λ r. broken_test cleared r.layout (told r)) let_in_waiting ≡ true
unfolding run_computed same_signal
waiting_tested = refl

-- after each run a signal shows proceed into a block that was not cleared
pub wrong_lamps_uncleared : Each (λ r. Broken cleared r.layout (told r)) let_in_waiting
wrong_lamps_uncleared = each_passes _ (λ r. is_broken r.layout (told r) cleared) let_in_waiting waiting_tested

-- ---- exactness

-- computed
left_waiting_tested : passes (λ r. inexact_test r.layout (told r) a_block) left_waiting ≡ true
unfolding run_computed differ
left_waiting_tested = refl

-- after every run of the list a block does not show what the history tells
pub wrong_lamps_shown : Each (λ r. Inexact a_block r.layout (told r)) left_waiting
wrong_lamps_shown = each_passes _ (λ r. is_inexact r.layout (told r) a_block) left_waiting left_waiting_tested

-- ---- acceptance

-- it was accepted, and no lamp has reported
pub dark_secured_wrongly : MisjudgedLast secured_dark.layout (told secured_dark)
unfolding run_computed when◌then◌else◌
dark_secured_wrongly J = (granted_asks _ _ _ (J.0 refl)).lamp refl

-- it was accepted, and the lamp at B has reported nothing
pub behind_secured_wrongly : MisjudgedLast secured_behind.layout (told secured_behind)
unfolding run_computed when◌then◌else◌
behind_secured_wrongly J = (granted_asks _ _ _ (J.0 refl)).lamp refl
