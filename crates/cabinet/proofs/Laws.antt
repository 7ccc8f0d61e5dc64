-- An answered file for records that hold a layout and a state, by cases.
use Prim.Native.Nat.{ℕ}
use mathlib.Core.Path.{◌≡◌, refl, sym, ap, ◌∙◌}
use Rattle.std.specs.Prelude.{Result, Ok, Err}
use Rattle.laws.proofs.Choice.{if_eq, if_ne}
use Rattle.numbers.specs.declared.Fault.{Fault}
use Rattle.numbers.proofs.Same.{not_none}
use Rattle.layout.specs.declared.Layout.{Layout}
use Rattle.layout.specs.Load.{refused}
use Rattle.layout.specs.Reading.{told}
use Rattle.fitted.specs.Reading.{told_of}
use Rattle.interlocking.specs.declared.State.{State}
use Rattle.interlocking.specs.State.{cold}
use Rattle.cabinet.specs.Calls.{records, after_file, after_load, after_fit}

module _ (L : Layout) (s : State) where
  -- an accepted file: the layout that it makes, and the state that starts anew
  pub file_accepted : (made : Layout) (anew : State) → anew ≡ cold → records made anew ≡ after_fit (records L s) (told_of L (Ok made))
  unfolding after_fit after_file
  file_accepted made anew c = ap (records made) c ∙ if_eq 0 0 _ _ _ refl refl

  -- a refused one: the records before
  pub file_refused : (f : Fault) → records L s ≡ after_fit (records L s) (told_of L (Err f))
  unfolding after_fit after_file
  file_refused f = if_ne _ _ _ _ _ (not_none f) refl

  -- the layout that a refused layout file gives is not used
  pub load_same : (file : Result Layout Fault) → after_fit (records L s) (told_of L file) ≡ after_load (records L s) (told file)
  unfolding after_load after_fit after_file refused
  load_same (Ok made) = refl
  load_same (Err f) = sym (file_refused f) ∙ if_ne _ _ _ _ _ (not_none f) refl

  -- and both tell the same number and detail
  pub number_same : (file : Result Layout Fault) → (told_of L file).number ≡ (told file).number
  unfolding refused
  number_same (Ok made) = refl
  number_same (Err f) = refl

  pub detail_same : (file : Result Layout Fault) → (told_of L file).detail ≡ (told file).detail
  unfolding refused
  detail_same (Ok made) = refl
  detail_same (Err f) = refl
