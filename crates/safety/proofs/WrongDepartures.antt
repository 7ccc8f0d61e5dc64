-- The boxes that are wrong in one order for departure are refused, by computation over the bytes of their layouts (L5). Where a route locks on the state that
-- the box's own first half leaves, they are the step of a run.
use mathlib.Core.Path.{◌≡◌, refl, ap, ◌∙◌}
use mathlib.Core.Logic.{⊎_elim}
use mathlib.Core.Bool.{true}
use native.Mathlib.Decide.{ℕ_discrete}
use borrow.Author.Tests.{ne_eqb}
use lib.Dec.{eqb, lit<}
use Rattle.laws.specs.Choice.{when◌then◌else◌}
use Rattle.laws.proofs.Choice.{passed_over}
use Rattle.laws.proofs.Tests.{not_both}
use Rattle.track.specs.Objects.{route}
use Rattle.layout.specs.declared.Layout.{Layout}
use Rattle.interlocking.specs.declared.State.{State}
use Rattle.interlocking.specs.Own.{own_lock, secure_first, own_set}
use Rattle.interlocking.specs.Settle.{signals, far_sections, routes, arrivals, line_release}
use Rattle.interlocking.specs.Rows.{set_row, row_with, row_of}
use Rattle.interlocking.specs.Step.{own, gives}
use Rattle.step_facts.specs.Run.{Event, box_in_run}
use Rattle.safety.specs.Broken.{directions, shows_secured, Broken}
use Rattle.safety.specs.WrongBoxes.{answers_by, refuses, does}
use Rattle.safety.specs.WrongGrants.{MisjudgedLast}
use Rattle.safety.specs.WrongRuns.{told}
use Rattle.safety.specs.WrongDepartures.{sets_on, left_secured, other_way, no_way, into_held_line, set_dark}
use Rattle.safety.proofs.Computed.{run_computed}
use Rattle.safety.proofs.TestedBlocks.{opened_means}
use Rattle.safety.proofs.TestedLines.{secured_means}
use Rattle.safety.proofs.WrongBoxes.{own_parts}
use Rattle.safety.proofs.WrongGrants.{granted_asks}
use Rattle.safety.proofs.WrongRuns.{same_signal, broken_test, is_broken}

-- ---- the box's own parts; those of what is refused are in `WrongBoxes`

-- the state on which a route locks
own_first : (L : Layout) (s : State) (e : Event)
    → (when eqb e.kind 4 then own_lock (secure_first s (route L.route e.first)) e.first else does L s e) ≡ does L s e
unfolding own row_of row_with set_row own_set when◌then◌else◌
own_first L s e = go (ℕ_discrete e.kind 4)
  where
    go : Dec (e.kind ≡ 4) → (when eqb e.kind 4 then own_lock (secure_first s (route L.route e.first)) e.first else does L s e) ≡ does L s e
    go (yes k) = rw k refl
    go (no n) = passed_over _ _ _ (ne_eqb _ 4 n)

pub own_sets : (L : Layout) (s : State) (e : Event) → sets_on secure_first L s e ≡ box_in_run L s e
own_sets L s e =
    ap (λ (x : State). answers_by refuses (λ L s e. line_release L s (arrivals L s (routes L (far_sections L s (signals L x)) (gives L s e.kind e.first e.second)))) L s e) (own_first L s e)
    ∙ own_parts L s e

-- ---- demand 3

-- the tests of the clauses, computed
left_secured_tested : broken_test directions left_secured.layout (told left_secured) ≡ true
unfolding run_computed same_signal
left_secured_tested = refl

other_way_tested : broken_test shows_secured other_way.layout (told other_way) ≡ true
unfolding run_computed same_signal
other_way_tested = refl

no_way_tested : broken_test shows_secured no_way.layout (told no_way) ≡ true
unfolding run_computed same_signal
no_way_tested = refl

-- a line shows a direction in which it is not secured
pub left_secured_untrue : Broken directions left_secured.layout (told left_secured)
left_secured_untrue = is_broken left_secured.layout (told left_secured) directions left_secured_tested

-- a signal shows proceed against the direction that its line shows; and on a line that shows none
pub other_way_unguarded : Broken shows_secured other_way.layout (told other_way)
other_way_unguarded = is_broken other_way.layout (told other_way) shows_secured other_way_tested

pub no_way_unguarded : Broken shows_secured no_way.layout (told no_way)
no_way_unguarded = is_broken no_way.layout (told no_way) shows_secured no_way_tested

-- ---- acceptance

-- it was accepted, the line is not secured, and its second block is held
pub held_line_entered : MisjudgedLast into_held_line.layout (told into_held_line)
unfolding run_computed when◌then◌else◌
held_line_entered J =
    ⊎_elim (λ x. not_both ((secured_means into_held_line.layout 0 1 _).1 x) refl)
    (λ m. not_both ((opened_means into_held_line.layout 0 1 _).1 (m.all_open 1 (lit< tt))) refl) ((granted_asks _ _ _ (J.0 refl)).secured refl)

-- it was accepted, the line is not secured, and the lamp at B has reported nothing
pub dark_set_wrongly : MisjudgedLast set_dark.layout (told set_dark)
unfolding run_computed when◌then◌else◌
dark_set_wrongly J =
    ⊎_elim (λ x. not_both ((secured_means set_dark.layout 0 1 _).1 x) refl) (λ m. m.lamp refl) ((granted_asks _ _ _ (J.0 refl)).secured refl)
