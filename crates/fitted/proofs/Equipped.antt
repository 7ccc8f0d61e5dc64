-- What is said of a layout whose fitted sections were told: which have heads, when it is sound, and that order and repeats do not matter.
use Prim.Native.Nat.{ℕ, zero, suc, ◌<◌, ◌≤◌}
use mathlib.Core.Path.{◌≡◌, refl, sym, ap, ap₂, ◌∙◌}
use mathlib.Core.Bool.{Bool, true, false, false≢true}
use mathlib.Core.List.{List, [], ◌∷◌}
use mathlib.Core.Logic.{◌↔◌, ⊎_elim}
use native.Mathlib.Nat.{not-suc-le-zero}
use native.Mathlib.Omega.{arith}
use native.Mathlib.Decide.{dec_lt}
use borrow.Author.Tests.{eqb-true, eq-eqb, leb-true, le-leb}
use lib.Dec.{eqb, leb}
use lib.ListN.{get_or}
use lib.Seq.{ext_get_or}
use Rattle.laws.specs.Choice.{when◌then◌else◌}
use Rattle.laws.specs.Totals.{bit}
use Rattle.laws.proofs.Choice.{if_both}
use Rattle.laws.proofs.Tests.{and_right, or_cases, or_left, or_right, not_both, fails_from, alike, every_at, every_one, every_more, all_from}
use Rattle.laws.proofs.Tables.{length_table, table_at}
use Rattle.laws.proofs.Totals.{bit_one, bit_none}
use Rattle.track.specs.Sizes.{most_sections}
use Rattle.track.specs.Lists.{between}
use Rattle.layout.specs.declared.Layout.{Layout}
use Rattle.layout.specs.Layout.{counts, line_in, signals_in, carrier_of, announced_by, route_in, conflict, is_fitted}
use Rattle.layout.specs.Rules.{rule1, rule2, rule3, rule4, rule5, rule6, rule7, broken}
use Rattle.layout.specs.Sound.{fits, mirrored, sound}
use Rattle.layout.specs.Load.{load}
use Rattle.layout_facts.specs.Loaded.{NoneTold}
use Rattle.layout_facts.proofs.LoadedCleared.{loaded_none_told}
use Rattle.fitted.specs.Fitted.{Among, any_of, is_told, lacks, told_by, with_told, equipped, none_told, tell_all}
use Rattle.fitted.proofs.Telling.{told_is}

-- ---- the tests of a list, in plain statements

module _ (p : ℕ → Bool) where
  -- where the test holds of one, there is a number of which it does: number by number
  any_found : (ns : List ℕ) → any_of p ns ≡ true → (n : ℕ) × Among ns n × (p n ≡ true)
  unfolding any_of
  any_found [] e = absurd (false≢true e)
  any_found (m ∷ ns) e =
      ⊎_elim (λ (t : p m ≡ true). (m, (0, omega arith, refl), t))
      (λ (t : any_of p ns ≡ true). let f = any_found ns t in (f.0, (suc f.1.0, omega (arith, f.1.1), f.1.2), f.2)) (or_cases (p m) (any_of p ns) e)

  -- where it holds of a number of the list, it holds of one
  any_given : (ns : List ℕ) (n : ℕ) → Among ns n → p n ≡ true → any_of p ns ≡ true
  unfolding any_of
  any_given [] n (i, h, q) e = absurd (not-suc-le-zero h)
  any_given (m ∷ ns) n (zero, h, q) e = or_left (p m) (any_of p ns) (ap p q ∙ e)
  any_given (m ∷ ns) n (suc i, h, q) e = or_right (p m) (any_of p ns) (any_given ns n (i, omega arith, q) e)

-- it holds alike of one of two lists that have the same numbers
any_alike : (p : ℕ → Bool) (ns ms : List ℕ) → ((g : ℕ) → Among ns g ↔ Among ms g) → any_of p ns ≡ any_of p ms
any_alike p ns ms same = alike (any_of p ns) (any_of p ms) (over ns ms (λ g. (same g).0)) (over ms ns (λ g. (same g).1))
  where
    -- a number of the first is one of the second
    over : (xs ys : List ℕ) → ((g : ℕ) → Among xs g → Among ys g) → any_of p xs ≡ true → any_of p ys ≡ true
    over xs ys f e = let n = any_found p xs e in any_given p ys n.0 (f n.0 n.1) n.2

-- a section is told just where it is one of the numbers
pub told_means : (ns : List ℕ) (g : ℕ) → is_told ns g ≡ true ↔ Among ns g
unfolding is_told
told_means ns g = (
  λ t. let f = any_found _ ns t in (f.1.0, f.1.1, f.1.2 ∙ eqb-true f.0 g f.2),
  λ a. any_given _ ns g a (eq-eqb g g refl),
)

-- none is lacking just where each is below the number of sections
pub none_lacks : (sections : ℕ) (ns : List ℕ) → lacks sections ns ≡ false ↔ ((n : ℕ) → Among ns n → n < sections)
unfolding lacks
none_lacks sections ns = (
  λ e n a. below n (dec_lt n sections) (λ h. not_both (any_given _ ns n a (le-leb sections n h)) e),
  λ s. fails_from _ (λ t. let f = any_found _ ns t in absurd (omega (arith, s f.0 f.1, leb-true sections f.0 f.2))),
)
  where
    -- it is, or else there is no such section
    below : (n : ℕ) → Dec (n < sections) → (sections ≤ n → ⊥) → n < sections
    below n (yes h) f = h
    below n (no h) f = absurd (f (omega arith))

-- ---- which sections have heads

-- 1 stands so in the layout that is equipped
fitted_told : (L : Layout) (ns : List ℕ) (g : ℕ) → g < most_sections → is_fitted (equipped ns L) g ≡ is_told ns g
unfolding is_fitted equipped with_told told_by
fitted_told L ns g h = ap (λ x. eqb x 1) (table_at most_sections (λ k. bit (is_told ns k)) 0 g h) ∙ bit_one (is_told ns g)

-- L1, section g has heads just where it is told
pub equipped_at : (L : Layout) (ns : List ℕ) (g : ℕ) → g < most_sections → is_fitted (equipped ns L) g ≡ true ↔ Among ns g
equipped_at L ns g h = (λ e. (told_means ns g).0 (sym (fitted_told L ns g h) ∙ e), λ a. fitted_told L ns g h ∙ (told_means ns g).1 a)

-- ---- order, repeats, none

-- L1, two lists of the same numbers, in whatever order and however often, equip a layout alike
pub equipped_same : (L : Layout) (ns ms : List ℕ) → ((g : ℕ) → Among ns g ↔ Among ms g) → equipped ns L ≡ equipped ms L
unfolding equipped told_by is_told lacks
equipped_same L ns ms same =
    ap₂ (λ (heads : List ℕ) (lacking : ℕ). with_told L (record { fitted = heads; lacking = lacking }))
    (ext_get_or 0 _ _ (length_table most_sections _ ∙ sym (length_table most_sections _)) (λ g h.
    let q : g < most_sections = omega (arith, length_table most_sections (λ k. bit (is_told ns k))) in
    table_at most_sections _ 0 g q ∙ ap bit (any_alike _ ns ms same) ∙ sym (table_at most_sections _ 0 g q)))
    (ap bit (any_alike _ ns ms same))

-- a layout that tells of no heads is as it was where no number is told
none_equips : (L : Layout) → NoneTold L → equipped [] L ≡ L
unfolding equipped with_told none_told tell_all
none_equips L none =
    ap (with_told L) (sym (told_is L.sections []))
    ∙ ap₂ (λ (heads : List ℕ) (lacking : ℕ). with_told L (record { fitted = heads; lacking = lacking })) (sym none.fitted) (sym none.none_lacking)

-- L1, where no number is told, a layout that was loaded is as it was
pub equipped_none : (s : List ℕ) → equipped [] (load s).layout ≡ (load s).layout
equipped_none s = none_equips (load s).layout (loaded_none_told s)

-- ---- soundness

module _ (L : Layout) (ns : List ℕ) where
  -- the table of heads says 0 or 1 of each section
  heads_fit : (g : ℕ) → g < most_sections → leb (get_or (equipped ns L).fitted g 0) 1 ≡ true
  unfolding equipped with_told told_by bit when◌then◌else◌
  heads_fit g h = rw (table_at most_sections (λ k. bit (is_told ns k)) 0 g h) (if_both (λ x. leb x 1 ≡ true) (is_told ns g) (λ t. refl) (λ t. refl))

  -- there are no more sections than there may be
  few : fits L ≡ true → L.sections ≤ most_sections
  unfolding fits between
  few e = leb-true _ _ (and_right _ _ (every_at _ e 1))

  -- every number is in its range where the layout's are and none is lacking
  equipped_fits : fits L ≡ true → lacks L.sections ns ≡ false → fits (equipped ns L) ≡ true
  unfolding fits counts line_in signals_in carrier_of announced_by route_in equipped with_told told_by bit when◌then◌else◌
  equipped_fits e f =
      let at = every_at _ e in
      every_more _ _ _ (at 0) (every_more _ _ _ (at 1) (every_more _ _ _ (at 2) (every_more _ _ _ (at 3) (every_more _ _ _ (at 4) (every_more _ _ _ (at 5)
      (every_more _ _ _ (at 6) (every_more _ _ _ (at 7) (every_more _ _ _ (at 8) (every_more _ _ _ (at 9) (every_more _ _ _ (at 10) (every_more _ _ _ (all_from _ _ (λ g h. heads_fit g (omega (arith, few e)))) (every_one _ (ap (λ x. eqb (bit x) 0) f)))))))))))))

  -- what is lacking is asked of the layout
  fits_lacks : fits (equipped ns L) ≡ true → lacks L.sections ns ≡ false
  unfolding fits equipped with_told told_by
  fits_lacks e = bit_none (lacks L.sections ns) (every_at _ e 12)

  -- the conflicts and the rules are those of the layout
  same_mirrored : mirrored (equipped ns L) ≡ mirrored L
  unfolding mirrored equipped with_told
  same_mirrored = refl

  same_broken : broken (equipped ns L) ≡ broken L
  unfolding broken rule1 rule2 rule3 rule4 rule5 rule6 rule7 line_in route_in conflict carrier_of announced_by equipped with_told
  same_broken = refl

  -- L1, a sound layout stays sound just where every told section is there
  pub equipped_sound : sound L ≡ true → sound (equipped ns L) ≡ true ↔ ((n : ℕ) → Among ns n → n < L.sections)
  unfolding sound
  equipped_sound t = (
    λ e. (none_lacks L.sections ns).0 (fits_lacks (every_at _ e 0)),
    λ s. every_more _ _ _ (equipped_fits (every_at _ t 0) ((none_lacks L.sections ns).1 s)) (every_more _ _ _ (same_mirrored ∙ every_at _ t 1)
        (every_one _ (ap (λ k. eqb k 0) same_broken ∙ every_at _ t 2))),
  )
