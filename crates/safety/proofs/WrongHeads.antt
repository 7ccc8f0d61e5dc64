-- The boxes that are wrong in axle counters are refused, by computation over the bytes of branch T (L1). With the box's own parts they are the step of a run.
use Prim.Native.Nat.{ℕ, zero, suc, ◌<◌}
use mathlib.Core.Path.{◌≡◌, refl, sym, ◌∙◌}
use mathlib.Core.Bool.{true}
use mathlib.Core.List.{[], ◌∷◌}
use native.Mathlib.Omega.{arith}
use borrow.Author.Tests.{ne_eqb}
use lib.ListN.{get_or}
use Rattle.laws.specs.Choice.{when◌then◌else◌}
use Rattle.laws.proofs.Choice.{if_both, passed_over}
use Rattle.laws.proofs.Tests.{not_both}
use Rattle.tables.specs.declared.Gives.{Gives}
use Rattle.layout.specs.declared.Layout.{Layout}
use Rattle.layout_facts.specs.BranchT.{branch_t}
use Rattle.layout_facts.proofs.BranchT.{computed, branch_t_number}
use Rattle.layout_facts.proofs.Lists.{between_means}
use Rattle.fitted.specs.InUse.{InUse}
use Rattle.interlocking.specs.declared.State.{State}
use Rattle.interlocking.specs.Own.{heads_of, heads_by, own_heads}
use Rattle.interlocking.specs.Parts.{is_of_heads}
use Rattle.interlocking.specs.Step.{own, gives}
use Rattle.interlocking.proofs.Rows.{row_kind_of, heads_row_kind}
use Rattle.step_facts.specs.Run.{Event, box_in_run}
use Rattle.step_facts.proofs.Own.{heads_say_in}
use Rattle.safety.specs.Broken.{is_free, cleared, Broken}
use Rattle.safety.specs.LateBoxes.{a_section, Inexact}
use Rattle.safety.specs.WrongGrants.{MisjudgedLast}
use Rattle.safety.specs.WrongBoxes.{does}
use Rattle.safety.specs.WrongRuns.{told, Each}
use Rattle.safety.specs.WrongHeads.{own_ways, heads_become, they_say, does_by, gives_by, gives_own, heads_go, minus_one_as_zero, take256_as255, fitted_t, let_in_unfree, let_in_uncleared, untold_heads, read_of_fitted, count_of_unfitted, reset_in_silence}
use Rattle.safety.proofs.Computed.{run_computed, heads_computed}
use Rattle.safety.proofs.WrongBoxes.{own_answer}
use Rattle.safety.proofs.WrongGrants.{granted_asks}
use Rattle.safety.proofs.WrongRuns.{same_signal, broken_test, is_broken, passes, each_passes}
use Rattle.safety.proofs.LateBoxes.{differ, inexact_test, is_inexact}

-- the layout is in use: branch T loads, and has a section 1
pub fitted_in_use : InUse fitted_t
unfolding computed
fitted_in_use = record { file = branch_t; told = 1 ∷ []; done = branch_t_number; there = λ g a. there a.0 a.1 a.2; its = refl }
  where
    there : {g : ℕ} → (i : ℕ) → i < 1 → get_or (1 ∷ []) i 0 ≡ g → g < 4
    there zero b q = omega arith
    there (suc i) b q = absurd (omega arith)

-- ---- the box's own parts

module _ (L : Layout) (s : State) (e : Event) where
  -- what an event does itself
  own_does : does_by own_ways L s e ≡ does L s e
  unfolding own own_heads heads_of heads_by is_of_heads
  own_does =
      if_both (λ (t : State). t ≡ does L s e) (is_of_heads e.kind)
      (λ t. passed_over _ _ _ (ne_eqb (they_say own_ways s e) 0 (λ z. omega (arith, heads_say_in (heads_become own_ways s e))))
      ∙ sym (heads_row_kind (row_kind_of L s e.kind e.first e.second) ((between_means 11 14 e.kind).0 t)).0)
      (λ f. refl)

  -- what it gives
  own_gives : gives_by own_ways L s e ≡ gives_own L s e
  unfolding gives heads_of heads_by is_of_heads
  own_gives =
      if_both (λ (g : Gives). g ≡ gives_own L s e) (is_of_heads e.kind)
      (λ t. sym (heads_row_kind (row_kind_of L s e.kind e.first e.second) ((between_means 11 14 e.kind).0 t)).1) (λ f. refl)

  -- so the box whose heads go its own way is the box
  pub own_heads_law : heads_go own_ways L s e ≡ box_in_run L s e
  own_heads_law = rw (own_does, own_gives) (own_answer L s e)

-- ---- demand 3

-- the test of a clause, computed
unfree_tested : passes (λ r. broken_test is_free r.layout (told r)) let_in_unfree ≡ true
unfolding run_computed heads_computed minus_one_as_zero take256_as255 same_signal
unfree_tested = refl

-- and of another
uncleared_tested : passes (λ r. broken_test cleared r.layout (told r)) let_in_uncleared ≡ true
unfolding run_computed heads_computed minus_one_as_zero take256_as255 same_signal
uncleared_tested = refl

-- after each run a signal shows proceed into a block that does not read free
pub wrong_heads_unfree : Each (λ r. Broken is_free r.layout (told r)) let_in_unfree
wrong_heads_unfree = each_passes _ (λ r. is_broken r.layout (told r) is_free) let_in_unfree unfree_tested

-- or that was not cleared
pub wrong_heads_uncleared : Each (λ r. Broken cleared r.layout (told r)) let_in_uncleared
wrong_heads_uncleared = each_passes _ (λ r. is_broken r.layout (told r) cleared) let_in_uncleared uncleared_tested

-- ---- exactness

-- computed
untold_tested : passes (λ r. inexact_test r.layout (told r) a_section) untold_heads ≡ true
unfolding run_computed heads_computed take256_as255 differ
untold_tested = refl

-- after every run of the list a section does not show what the history tells
pub wrong_heads_shown : Each (λ r. Inexact a_section r.layout (told r)) untold_heads
wrong_heads_shown = each_passes _ (λ r. is_inexact r.layout (told r) a_section) untold_heads untold_tested

-- ---- acceptance

-- it was accepted, and the section has heads
pub fitted_read_wrongly : MisjudgedLast read_of_fitted.layout (told read_of_fitted)
unfolding run_computed heads_computed when◌then◌else◌
fitted_read_wrongly J = not_both refl (granted_asks _ _ _ (J.0 refl)).no_heads

-- it was accepted, and the section has none
pub unfitted_counted_wrongly : MisjudgedLast count_of_unfitted.layout (told count_of_unfitted)
unfolding run_computed heads_computed when◌then◌else◌
unfitted_counted_wrongly J = not_both (granted_asks _ _ _ (J.0 refl)).heads refl

-- it was accepted, and the heads have told nothing
pub silent_reset_wrongly : MisjudgedLast reset_in_silence.layout (told reset_in_silence)
unfolding run_computed heads_computed when◌then◌else◌
silent_reset_wrongly J = not_both (granted_asks _ _ _ (J.0 refl)).speak refl
