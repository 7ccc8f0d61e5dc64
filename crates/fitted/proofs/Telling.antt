-- What is told by one number after another is what the list of them tells.
use Prim.Native.Nat.{ℕ, ◌<◌}
use mathlib.Core.Path.{◌≡◌, refl, sym, ap, ap₂, ◌∙◌}
use mathlib.Core.Bool.{Bool, true, false}
use mathlib.Core.List.{List, [], ◌∷◌}
use native.Mathlib.Omega.{arith}
use native.Mathlib.Decide.{ℕ_discrete}
use borrow.Author.Tests.{eq-eqb, ne_eqb}
use lib.Dec.{eqb, leb}
use lib.ListN.{length, get_or, set, length-set, length-replicate}
use lib.Seq.{get_or-set_same, get_or-set_other, ext_get_or}
use Rattle.laws.specs.Choice.{when◌then◌else◌}
use Rattle.laws.specs.Tests.{◌or◌}
use Rattle.laws.specs.Tables.{table}
use Rattle.laws.specs.Totals.{bit}
use Rattle.laws.proofs.Arrays.{nothing_at}
use Rattle.laws.proofs.Tables.{length_table, table_at}
use Rattle.track.specs.Sizes.{most_sections}
use Rattle.layout.specs.Layout.{none_fitted}
use Rattle.fitted.specs.declared.Told.{Told}
use Rattle.fitted.specs.Fitted.{any_of, is_told, lacks, told_by, none_told, lacking_with, tell, tell_all}

-- 1 where one of two tests holds, by the second first
one_of_two : (a b : Bool) (x : ℕ) → when b then 1 else (when a then 1 else x) ≡ when a or b then 1 else x
unfolding when◌then◌else◌ ◌or◌
one_of_two true true x = refl
one_of_two true false x = refl
one_of_two false true x = refl
one_of_two false false x = refl

-- ---- whether a section is lacking

-- 1 where one of the numbers is no section, else as before: number by number
all_lacking : (sections : ℕ) (t : Told) (ns : List ℕ) → (tell_all sections t ns).lacking ≡ when lacks sections ns then 1 else t.lacking
unfolding tell_all tell lacking_with lacks any_of when◌then◌else◌
all_lacking sections t [] = refl
all_lacking sections t (n ∷ ns) = all_lacking sections (tell sections t n) ns ∙ one_of_two (leb sections n) (lacks sections ns) t.lacking

-- ---- the table of heads

-- a table of so many places
module _ (sections : ℕ) where
  -- telling keeps its length
  all_long : (t : Told) (ns : List ℕ) → length (tell_all sections t ns).fitted ≡ length t.fitted
  unfolding tell_all tell
  all_long t [] = refl
  all_long t (n ∷ ns) = all_long (tell sections t n) ns ∙ length-set t.fitted n 1

  -- after a store of 1 at n an entry is 1 where it is n, else as before
  set_at : (xs : List ℕ) (n g : ℕ) → Dec (n ≡ g) → g < length xs → get_or (set xs n 1) g 0 ≡ when eqb n g then 1 else get_or xs g 0
  unfolding when◌then◌else◌
  set_at xs n g (yes e) h = rw (eq-eqb n g e) (ap (λ k. get_or (set xs k 1) g 0) e ∙ get_or-set_same xs g 1 0 h)
  set_at xs n g (no d) h = rw (ne_eqb n g d) (get_or-set_other xs n g 1 0 (λ e. d (sym e)))

  -- an entry is 1 where its section is told, else as before: number by number
  all_at : (t : Told) (ns : List ℕ) (g : ℕ) → g < length t.fitted → get_or (tell_all sections t ns).fitted g 0 ≡ when is_told ns g then 1 else get_or t.fitted g 0
  unfolding tell_all tell is_told any_of when◌then◌else◌
  all_at t [] g h = refl
  all_at t (n ∷ ns) g h =
      all_at (tell sections t n) ns g (omega (arith, length-set t.fitted n 1)) ∙ ap (λ x. when is_told ns g then 1 else x) (set_at t.fitted n g (ℕ_discrete n g) h)
      ∙ one_of_two (eqb n g) (is_told ns g) (get_or t.fitted g 0)

-- ---- from nothing told on

-- the table from nothing told on: entry by entry
fitted_is : (sections : ℕ) (ns : List ℕ) → (tell_all sections none_told ns).fitted ≡ table most_sections (λ g. bit (is_told ns g))
unfolding none_told none_fitted bit
fitted_is sections ns =
    let long : length none_told.fitted ≡ most_sections = length-replicate {A = ℕ} most_sections 0 in
    ext_get_or 0 _ _ (all_long sections none_told ns ∙ long ∙ sym (length_table most_sections _)) (λ g h.
    let q : g < most_sections = omega (arith, all_long sections none_told ns, long) in
    all_at sections none_told ns g (omega (arith, long)) ∙ ap (λ x. when is_told ns g then 1 else x) (nothing_at {A = ℕ} most_sections 0 g) ∙ sym (table_at most_sections _ 0 g q))

-- so what all numbers of a list tell, one after another, is what the list tells
pub told_is : (sections : ℕ) (ns : List ℕ) → tell_all sections none_told ns ≡ told_by sections ns
unfolding told_by bit none_told
told_is sections ns =
    ap₂ (λ (heads : List ℕ) (lacking : ℕ). record { fitted = heads; lacking = lacking }) (fitted_is sections ns) (all_lacking sections none_told ns)
