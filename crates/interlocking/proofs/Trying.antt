-- An event tried, from what the code found: refused by its numbers, refused besides, or done; and the answer from it.
use Prim.Native.Nat.{ℕ, ◌<◌, ◌≤◌}
use mathlib.Core.Path.{◌≡◌, refl, sym, ap, ap₂, ◌∙◌}
use mathlib.Core.Bool.{Bool, true, not, ◌&&◌}
use mathlib.Core.List.{List, []}
use native.Mathlib.Decide.{ℕ_discrete, dec_lt}
use native.Mathlib.Omega.{arith}
use borrow.Author.Tests.{eqb-true, leb-true, leb-false, not-false, eq-eqb, ne_eqb}
use lib.Dec.{eqb, leb}
use lib.ListN.{length, get_or, get_or-eq_default}
use Rattle.laws.specs.Tests.{◌and◌}
use Rattle.laws.proofs.Choice.{if_eq, if_ne, chosen, passed_over}
use Rattle.laws.proofs.Tests.{and_right}
use Rattle.track.specs.Lists.{between}
use Rattle.track.specs.Sizes.{most_sections, most_lines}
use Rattle.tables.specs.declared.Gives.{Gives}
use Rattle.layout.specs.declared.Layout.{Layout}
use Rattle.layout.specs.Layout.{is_fitted}
use Rattle.reasons.specs.Refusal.{Refusal, refused, no_refusal, refused_if}
use Rattle.reasons.specs.Reasons.{no_heads, has_heads}
use Rattle.reasons.proofs.Laws.{first_given, first_passed, first_alone, told_number, none_number, number_above}
use Rattle.reasons.proofs.Decided.{same_first, other_second}
use Rattle.refusals.specs.Events.{numbers_refusal}
use Rattle.refusals.proofs.Granted.{granted_at, when_granted, granted_sound, granted_there, granted_fit, granted_second}
use Rattle.axles.specs.declared.Axles.{Axles}
use Rattle.interlocking.specs.declared.Core.{Core}
use Rattle.interlocking.specs.declared.State.{State}
use Rattle.track.specs.declared.Line.{Line}
use Rattle.interlocking.specs.declared.Tried.{Tried}
use Rattle.interlocking.specs.declared.CoreAnswer.{CoreAnswer}
use Rattle.interlocking.specs.Settle.{settle}
use Rattle.axles.specs.Heads.{axles_reading}
use Rattle.interlocking.specs.State.{with_sections, with_axles}
use Rattle.interlocking.specs.Own.{own_section, own_heads, head_section}
use Rattle.interlocking.specs.Rows.{Row, gives_reading, head_row, row_with}
use Rattle.interlocking.specs.Step.{row_refusal}
use Rattle.interlocking.specs.Parts.{core_of, headless, bare, moves, stays, tried, followed, numbers_named, wrong_count, silence, heads_row}

-- ---- one row: what is refused of it, and the event done where nothing is

-- two tests by the code's own word
pub both_are : (a b : Bool) → a and b ≡ (a && b)
unfolding ◌and◌
both_are a b = refl

pub ruleset trying = (first_given, first_passed, first_alone, told_number, none_number, number_above, both_are, same_first, other_second, chosen, passed_over, eq-eqb, ne_eqb)

module _ (t m w : Bool) (s : Core) (a : ℕ) (row : Row) (x : Refusal) (e : no_refusal ≡ numbers_refusal t m a x w) (p : m ≡ row.missing) (fit : x ≡ row.misfit)
    (q : w ≡ row.wrong) (b : no_refusal ≡ row.besides) where
  -- the code found no refusal of the numbers and none besides: there is none
  nothing_refused : (row_refusal t a row).number ≡ 0
  unfolding row_refusal no_refusal refused
  nothing_refused =
      let n : no_refusal ≡ numbers_refusal t row.missing a row.misfit row.wrong = rw (← p, ← fit, ← q) e in
      ap (λ (y : Refusal). y.number) (first_passed _ row.besides [] (ap (λ (y : Refusal). y.number) (sym n)) ∙ first_alone row.besides ∙ sym b)

  -- so the event is done
  pub moves_on : (u : Core) (d : Gives) → u ≡ core_of row.does → d ≡ row.gives → moves u d ≡ tried t s a row
  unfolding tried
  moves_on u d i j = if_eq (row_refusal t a row).number 0 _ _ (moves u d) nothing_refused (ap₂ moves i j)

-- where nothing is refused of the numbers
module _ (t m w : Bool) (a : ℕ) (x : Refusal) (e : no_refusal ≡ numbers_refusal t m a x w) where
  -- there is no refusal there
  none_found : (numbers_refusal t m a x w).number ≡ 0
  unfolding no_refusal refused
  none_found = sym (ap (λ (y : Refusal). y.number) e)

  -- the object is one of n
  pub object_below : (n : ℕ) → m ≡ leb n a → a < n
  object_below n p = leb-false n a (sym p ∙ granted_there t m a x w none_found)

  -- what soundness gives is so
  pub lines_known : (n : ℕ) → (t ≡ true → n ≤ most_lines) → n ≤ most_lines
  lines_known n g = g (granted_sound t m a x w none_found)

  -- a position or a direction that is not wrong fits a byte
  pub second_fits : (b : ℕ) → w ≡ not (between 1 2 b) → b < 256
  unfolding between
  second_fits b p =
      let o : b ≤ 2 = leb-true b 2 (and_right _ _ (not-false (leb 1 b and leb b 2) (sym p ∙ granted_second t m a x w none_found))) in
      omega arith

  -- the section is one that has heads
  pub fitted_known : (g : ℕ) (fitted : List ℕ) (has : Bool) → x ≡ refused_if (not has) 30 g → has ≡ eqb (get_or fitted g 0) 1 → eqb (get_or fitted g 0) 1 ≡ true
  fitted_known g fitted has p q = sym q ∙ not-false has (when_granted _ 30 g (omega arith) (sym (ap (λ (y : Refusal). y.number) p) ∙ granted_fit t m a x w none_found))

-- such a section has a number below 256
pub fitted_below : (fitted : List ℕ) (g : ℕ) → length fitted ≡ most_sections → eqb (get_or fitted g 0) 1 ≡ true → g < 256
fitted_below fitted g len e = go (dec_lt g most_sections)
  where
    one : get_or fitted g 0 ≡ 1
    one = eqb-true _ 1 e

    go : Dec (g < most_sections) → g < 256
    go (yes b) = omega arith
    go (no b) = absurd (let z : get_or fitted g 0 ≡ 0 = get_or-eq_default fitted 0 (omega arith) in omega (arith, one))

-- the reason that a section has heads, by what the code found of its table
pub misfit_found : (L : Layout) (g : ℕ) (x : Refusal) (has : Bool) → x ≡ refused_if has 34 g → has ≡ eqb (get_or L.fitted g 0) 1 → x ≡ has_heads L g
unfolding has_heads is_fitted
misfit_found L g x has e p = rw p at e

-- that it has none
pub misfit_none : (L : Layout) (g : ℕ) (x : Refusal) (has : Bool) → x ≡ refused_if (not has) 30 g → has ≡ eqb (get_or L.fitted g 0) 1 → x ≡ no_heads L g
unfolding no_heads is_fitted
misfit_none L g x has e p = rw p at e

-- what a section's heads say is its reading; of the tables nothing else knows of the heads
pub heads_moved : (m : ℕ) (ls : List Line) (n : ℕ) (s : Core) (lamps : List ℕ) (g v : ℕ) (y : Axles) (t : Core) → t ≡ core_of (own_section m ls n (headless s lamps) g v) → v ≡ axles_reading y
    → t ≡ core_of (own_heads m ls n (headless s lamps) g y)
unfolding own_heads own_section with_sections with_axles core_of
heads_moved m ls n s lamps g v y t e p = rw p at e

-- a section is given what is recorded
pub reading_given : (a : ℕ) {v w : ℕ} → v ≡ w → record { section = a; reading = v; tick = 0 } ≡ gives_reading a w
unfolding gives_reading
reading_given a e = ap (λ x. record { section = a; reading = x; tick = 0 }) e

-- an event of heads, with what the code asked by its kind k
pub row_by_kind : (t : Bool) (c : Core) (a b k : ℕ) (L : Layout) (s : State) (x y : Axles) (g n : ℕ) (w : Bool) (f : Refusal) (r : Tried)
    → r ≡ tried t c a (head_row L s y g (leb n a) w f) → g ≡ head_section k a → n ≡ numbers_named k L.sections → w ≡ wrong_count k b → f ≡ silence x k g
    → r ≡ tried t c a (heads_row L s x y k a b)
unfolding heads_row
row_by_kind t c a b k L s x y g n w f r e p q u v = rw (← p, ← q, ← u, ← v) e

-- ---- the answer, from the event tried

module _ (L : Layout) (s : Core) (x y : Axles) (t u : Tried) (e : t ≡ u) where
  -- refused
  pub answer_refused : (r : CoreAnswer) → (t.number ≡ 0 → ⊥) → r ≡ record { number = t.number; detail = t.detail; next = s; heads = x } → r ≡ followed L s x y u
  unfolding followed
  answer_refused r h z = if_ne t.number 0 _ _ r h z ∙ ap (followed L s x y) e

  -- done, and what follows
  pub answer_done : (next : Core) (z : Axles) → t.number ≡ 0 → next ≡ core_of (settle L (bare s) (bare t.next) t.gives) → z ≡ y
      → record { number = 0; detail = 0; next = next; heads = z } ≡ followed L s x y u
  unfolding followed
  answer_done next z h q p =
      if_eq t.number 0 _ _ _ h (ap₂ (λ n i. record { number = 0; detail = 0; next = n; heads = i }) q p) ∙ ap (followed L s x y) e

-- an event tried, with what becomes of the heads by definition
pub heads_given : (t : Bool) (L : Layout) (c : Core) (s : State) (x : Axles) (k a b : ℕ) (y z : Axles) (r : Tried) → r ≡ tried t c a (row_with L s x y k a b) → y ≡ z
    → r ≡ tried t c a (row_with L s x z k a b)
heads_given t L c s x k a b y z r e p = rw p at e

-- an event that is done
module _ (t : Bool) (s : Core) (a : ℕ) (row : Row) (x : Tried) (e : x ≡ tried t s a row) where
  -- nothing is refused of its row, since a refusal's own number is not 0
  row_granted : x.number ≡ 0 → (row_refusal t a row).number ≡ 0
  unfolding tried stays
  row_granted h = go (ℕ_discrete (row_refusal t a row).number 0)
    where
      go : Dec ((row_refusal t a row).number ≡ 0) → (row_refusal t a row).number ≡ 0
      go (yes y) = y
      go (no n) = ap (λ (z : Tried). z.number) (if_ne (row_refusal t a row).number 0 _ (stays (row_refusal t a row) s) _ n refl ∙ sym e) ∙ h

  -- so layout and state are sound
  pub done_sound : x.number ≡ 0 → t ≡ true
  unfolding row_refusal
  done_sound h = granted_sound t _ a _ _ (granted_at _ (row_granted h) 0)
