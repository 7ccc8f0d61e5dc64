-- A run asks soundness once, before its first event. On a layout that loads, with any sections told as fitted (L1), it answers and shows what is answered
-- and shown where every event asks.
use Prim.Native.Nat.{ℕ}
use mathlib.Core.Path.{◌≡◌, refl, sym, ap, ◌∙◌}
use mathlib.Core.Bool.{Bool, true, false}
use mathlib.Core.List.{List}
use native.Mathlib.Omega.{arith}
use borrow.Author.Tests.{eqb-true}
use lib.Dec.{eqb}
use Rattle.laws.specs.Choice.{when◌then◌else◌}
use Rattle.laws.specs.Tests.{◌and◌}
use Rattle.laws.specs.Totals.{bit}
use Rattle.laws.proofs.Choice.{if_both}
use Rattle.laws.proofs.Tests.{and_right, fails_from, every_at}
use Rattle.layout.specs.declared.Layout.{Layout}
use Rattle.layout.specs.Sound.{fits, sound}
use Rattle.fitted.specs.Records.{Fitting}
use Rattle.fitted.specs.Numbers.{numbers_of}
use Rattle.fitted.specs.Fitted.{lacks, told_by, with_told, equipped, fit_by, fit}
use Rattle.fitted.proofs.Equipped.{none_lacks, equipped_sound}
use Rattle.interlocking.specs.declared.State.{State}
use Rattle.interlocking.specs.State.{in_range}
use Rattle.interlocking.specs.Step.{step_where, step, asked_in_run, step_in_run}
use Rattle.panel.specs.Panel.{image, answer_where, answer, panel_asked_in_run, answer_in_run}
use Rattle.step_facts.proofs.Step.{run_step_same}
use Rattle.event_file.specs.Lines.{shown_by, shown, shown_in_run}
use Rattle.event_file.proofs.Shown.{shown_same}

-- from every state in range
pub record AskedOnce (L : Layout) : Type 0 where
  pub steps : (s : State) (k a b : ℕ) → in_range s ≡ true → step_in_run L s k a b ≡ step L s k a b
  pub shows : (s : State) → in_range s ≡ true → shown_in_run L s ≡ shown L s

-- on a sound layout both find all in order
sound_once : (L : Layout) → sound L ≡ true → AskedOnce L
sound_once L h = record { steps = λ s k a b e. run_step_same L s k a b h e; shows = λ s e. shown_same L s h e }

-- ---- a fitted section is lacking

module _ (L : Layout) (d : L.lacking ≡ 0 → ⊥) where
  -- an event finds the layout unsound, whatever the state
  lacking_unsound : (s : State) → sound L and in_range s ≡ false
  unfolding sound fits ◌and◌
  lacking_unsound s = ap (λ t. t and in_range s) (fails_from (sound L) (λ e. d (eqb-true _ 0 (every_at _ (every_at _ e 0) 12))))

  -- a run finds it so for its steps
  lacking_asked : asked_in_run L ≡ false
  unfolding asked_in_run
  lacking_asked = fails_from _ (λ e. d (eqb-true _ 0 (and_right _ _ (and_right _ _ (and_right _ _ e)))))

  -- and for its panels
  lacking_panel : panel_asked_in_run L ≡ false
  unfolding panel_asked_in_run
  lacking_panel = fails_from _ (λ e. d (eqb-true _ 0 (every_at _ e 6)))

  -- so all find it unsound
  lacking_once : AskedOnce L
  unfolding step_in_run step shown_in_run shown answer_in_run answer
  lacking_once = record {
    steps = λ s k a b e. ap (λ t. step_where t L s k a b) (lacking_asked ∙ sym (lacking_unsound s));
    shows = λ s e. ap (λ t. shown_by (answer_where t L s 512) (image L s)) (lacking_panel ∙ sym (lacking_unsound s));
  }

-- ---- a layout with its fitted sections

-- a sound layout with any sections told stays sound, or lacks one
equipped_once : (L : Layout) (ns : List ℕ) → sound L ≡ true → AskedOnce (equipped ns L)
unfolding equipped with_told told_by bit when◌then◌else◌
equipped_once L ns h = by_test (lacks L.sections ns) refl
  where
    by_test : (t : Bool) → lacks L.sections ns ≡ t → AskedOnce (equipped ns L)
    by_test true e = lacking_once (equipped ns L) (rw e (λ z. let y : ◌≡◌ {A = ℕ} 1 0 = z in omega arith))
    by_test false e = sound_once (equipped ns L) ((equipped_sound L ns h).1 ((none_lacks L.sections ns).0 e))

-- so of what a file of fitted sections makes of it, with a fault or without
pub fit_once : (L : Layout) (file : List ℕ) → sound L ≡ true → AskedOnce (fit L file).layout
unfolding fit fit_by
fit_once L file h =
    if_both (λ (r : Fitting). AskedOnce r.layout) (eqb (numbers_of file).fault 0) (λ t. equipped_once L (numbers_of file).list h) (λ t. sound_once L h)
