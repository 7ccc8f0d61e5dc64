-- The row of a kind.
use Prim.Native.Nat.{ℕ, ◌/◌, ◌≤◌}
use mathlib.Core.Path.{◌≡◌, refl, sym, ap, ◌∙◌}
use mathlib.Core.Bool.{Bool, true, false}
use mathlib.Core.Logic.{◌≢◌, ◌⊎◌, inl, inr}
use native.Mathlib.Omega.{arith}
use borrow.Author.Tests.{eqb-true, eqb-false, eq-eqb, ne_eqb, le-leb, leb-true}
use lib.Dec.{eqb}
use Rattle.laws.specs.Choice.{when◌then◌else◌}
use Rattle.laws.specs.Tests.{◌or◌}
use Rattle.laws.proofs.Tests.{and_both, and_left, and_right, not_both}
use Rattle.laws.proofs.Choice.{if_both, if_ne, chosen, passed_over}
use Rattle.track.specs.Codes.{read_section, read_point, throw_point, set_route, cancel_route, secure_line, release_line, bar_block, unbar_block, one_second, axles_in, axles_out, head_silent, reset_axles, report_lamp}
use Rattle.track.specs.Lists.{between}
use Rattle.axles.specs.declared.Axles.{Axles}
use Rattle.axles.specs.Heads.{axles_reading}
use Rattle.layout.specs.declared.Layout.{Layout}
use Rattle.interlocking.specs.declared.State.{State}
use Rattle.interlocking.specs.declared.Core.{Core}
use Rattle.interlocking.specs.declared.Tried.{Tried}
use Rattle.interlocking.specs.Own.{head_section, heads_of, heads_by, own_heads}
use Rattle.interlocking.specs.Rows.{Row, gives_reading, section_row, point_row, throw_row, set_row, cancel_row, secure_row, manual_row, bar_row, second_row, head_row, count_row, silent_row, reset_row, lamp_row, no_row, row_with, row_of}
use Rattle.interlocking.specs.Parts.{tried, is_of_heads, NoOther, numbers_named, wrong_count, silence, heads_row}

-- k is none of the fifteen kinds
pub record Unknown (k : ℕ) : Type 0 where
  pub others : NoOther k
  pub no_in : k ≢ axles_in
  pub no_out : k ≢ axles_out
  pub no_silent : k ≢ head_silent
  pub no_reset : k ≢ reset_axles

-- the rows, each with its kind, x and y being the heads of the section that it names, before and after; a kind that is none of these has no row
pub data RowKind (L : Layout) (s : State) (x y : Axles) (a b k : ℕ) : Row → Type 0 where
  section_row_kind : k ≡ read_section → RowKind L s x y a b k (section_row L s a b)
  point_row_kind : k ≡ read_point → RowKind L s x y a b k (point_row L s a b)
  throw_row_kind : k ≡ throw_point → RowKind L s x y a b k (throw_row L s a b)
  set_row_kind : k ≡ set_route → RowKind L s x y a b k (set_row L s a b)
  cancel_row_kind : k ≡ cancel_route → RowKind L s x y a b k (cancel_row L s a b)
  secure_row_kind : k ≡ secure_line → RowKind L s x y a b k (secure_row L s a b)
  manual_row_kind : k ≡ release_line → RowKind L s x y a b k (manual_row L s a b)
  bar_row_kind : k ≡ bar_block → RowKind L s x y a b k (bar_row 1 L s a b)
  unbar_row : k ≡ unbar_block → RowKind L s x y a b k (bar_row 0 L s a b)
  second_row_kind : k ≡ one_second → RowKind L s x y a b k (second_row s a b)
  count_row_kind : (k ≡ axles_in) ⊎ (k ≡ axles_out) → RowKind L s x y a b k (count_row L s y a b)
  silent_row_kind : k ≡ head_silent → RowKind L s x y a b k (silent_row L s y a b)
  reset_row_kind : k ≡ reset_axles → RowKind L s x y a b k (reset_row L s x y a b)
  lamp_row_kind : k ≡ report_lamp → RowKind L s x y a b k (lamp_row L s a b)
  no_row_kind : Unknown k → RowKind L s x y a b k (no_row s)

-- the row of kind k is that of its kind: by the tests, one after the other
pub row_with_law : (L : Layout) (s : State) (x y : Axles) (k a b : ℕ) → RowKind L s x y a b k (row_with L s x y k a b)
unfolding row_with
row_with_law L s x y k a b =
    if_both R (eqb k read_section) (λ t. section_row_kind (eqb-true k read_section t))
    (λ f1. if_both R (eqb k read_point) (λ t. point_row_kind (eqb-true k read_point t))
    (λ f2. if_both R (eqb k throw_point) (λ t. throw_row_kind (eqb-true k throw_point t))
    (λ f3. if_both R (eqb k set_route) (λ t. set_row_kind (eqb-true k set_route t))
    (λ f4. if_both R (eqb k cancel_route) (λ t. cancel_row_kind (eqb-true k cancel_route t))
    (λ f5. if_both R (eqb k secure_line) (λ t. secure_row_kind (eqb-true k secure_line t))
    (λ f6. if_both R (eqb k release_line) (λ t. manual_row_kind (eqb-true k release_line t))
    (λ f7. if_both R (eqb k bar_block) (λ t. bar_row_kind (eqb-true k bar_block t))
    (λ f8. if_both R (eqb k unbar_block) (λ t. unbar_row (eqb-true k unbar_block t))
    (λ f9. if_both R (eqb k one_second) (λ t. second_row_kind (eqb-true k one_second t))
    (λ f10. if_both R (eqb k axles_in) (λ t. count_row_kind (inl (eqb-true k axles_in t)))
    (λ f11. if_both R (eqb k axles_out) (λ t. count_row_kind (inr (eqb-true k axles_out t)))
    (λ f12. if_both R (eqb k head_silent) (λ t. silent_row_kind (eqb-true k head_silent t))
    (λ f13. if_both R (eqb k reset_axles) (λ t. reset_row_kind (eqb-true k reset_axles t))
    (λ f14. if_both R (eqb k report_lamp) (λ t. lamp_row_kind (eqb-true k report_lamp t))
    (λ f15. no_row_kind (record {
      others = record {
        no_section = eqb-false k read_section f1;
        no_point = eqb-false k read_point f2;
        no_throw = eqb-false k throw_point f3;
        no_set = eqb-false k set_route f4;
        no_cancel = eqb-false k cancel_route f5;
        no_secure = eqb-false k secure_line f6;
        no_release = eqb-false k release_line f7;
        no_bar = eqb-false k bar_block f8;
        no_unbar = eqb-false k unbar_block f9;
        no_second = eqb-false k one_second f10;
        no_lamp = eqb-false k report_lamp f15;
      };
      no_in = eqb-false k axles_in f11;
      no_out = eqb-false k axles_out f12;
      no_silent = eqb-false k head_silent f13;
      no_reset = eqb-false k reset_axles f14;
    }))))))))))))))))
  where
    R : Row → Type 0
    R = RowKind L s x y a b k

-- so in a state, whose heads are those of the section that the event names
abbrev pub OfKind : Layout → State → ℕ → ℕ → ℕ → Row → Type 0
OfKind L s a b k row = RowKind L s (heads_of s k a) (heads_by (heads_of s k a) k a b) a b k row

pub row_kind_of : (L : Layout) (s : State) (k a b : ℕ) → OfKind L s a b k (row_of L s k a b)
unfolding row_of
row_kind_of L s k a b = row_with_law L s _ _ k a b

-- ---- the rows of heads (L1)

module _ (k a : ℕ) where
  -- kinds 11 to 13 name a head, two for each section
  pub head_named : k ≢ reset_axles → head_section k a ≡ a / 2
  unfolding head_section
  head_named d = passed_over _ a (a / 2) (ne_eqb k reset_axles d)

  -- kind 14 names the section
  pub reset_named : k ≡ reset_axles → head_section k a ≡ a
  unfolding head_section
  reset_named q = chosen _ a (a / 2) (eq-eqb k reset_axles q)

-- the kinds of heads are 11 to 14
pub of_heads : (k : ℕ) → 11 ≤ k → k ≤ 14 → is_of_heads k ≡ true
unfolding is_of_heads between
of_heads k h l = and_both _ _ (le-leb 11 k h) (le-leb k 14 l)

pub kinds_of_heads : (k : ℕ) → is_of_heads k ≡ true → (11 ≤ k) × (k ≤ 14)
unfolding is_of_heads between
kinds_of_heads k of = (leb-true _ _ (and_left _ _ of), leb-true _ _ (and_right _ _ of))

-- a kind that is none of the four is not of heads
pub kind_of_no_heads : {k : ℕ} → k ≢ axles_in → k ≢ axles_out → k ≢ head_silent → k ≢ reset_axles → (axles_in ≤ k) × (k ≤ reset_axles) → ⊥
kind_of_no_heads p q r s h = omega arith

-- the four rows are one: of a count and of a head's silence the event names a head, of a reset a section
pub row_of_heads : {L : Layout} {s : State} {x y : Axles} {a b k : ℕ} {row : Row} → RowKind L s x y a b k row → (axles_in ≤ k) × (k ≤ reset_axles)
    → heads_row L s x y k a b ≡ row
unfolding heads_row numbers_named wrong_count silence head_section count_row silent_row reset_row when◌then◌else◌ ◌or◌
row_of_heads (count_row_kind (inl q)) h = rw q refl
row_of_heads (count_row_kind (inr q)) h = rw q refl
row_of_heads (silent_row_kind q) h = rw q refl
row_of_heads (reset_row_kind q) h = rw q refl
row_of_heads (section_row_kind q) h = absurd (omega arith)
row_of_heads (point_row_kind q) h = absurd (omega arith)
row_of_heads (throw_row_kind q) h = absurd (omega arith)
row_of_heads (set_row_kind q) h = absurd (omega arith)
row_of_heads (cancel_row_kind q) h = absurd (omega arith)
row_of_heads (secure_row_kind q) h = absurd (omega arith)
row_of_heads (manual_row_kind q) h = absurd (omega arith)
row_of_heads (bar_row_kind q) h = absurd (omega arith)
row_of_heads (unbar_row q) h = absurd (omega arith)
row_of_heads (second_row_kind q) h = absurd (omega arith)
row_of_heads (lamp_row_kind q) h = absurd (omega arith)
row_of_heads (no_row_kind u) h = absurd (kind_of_no_heads u.no_in u.no_out u.no_silent u.no_reset h)

-- so each makes the heads of the section that its event names y, and gives the section what they then say
pub heads_row_kind : {L : Layout} {s : State} {k a b : ℕ} {row : Row} → OfKind L s a b k row → (axles_in ≤ k) × (k ≤ reset_axles)
    → let y = heads_by (heads_of s k a) k a b in
    (row.does ≡ own_heads L.signals L.line L.lines s (head_section k a) y) × (row.gives ≡ gives_reading (head_section k a) (axles_reading y))
unfolding heads_row head_row
heads_row_kind w h = rw (← row_of_heads w h) (refl, refl)

-- ---- no row

-- a kind that is none of the fifteen has no row, since each test of the kind fails
pub row_unknown : (L : Layout) (s : State) (x y : Axles) (k a b : ℕ) → Unknown k → no_row s ≡ row_with L s x y k a b
unfolding row_with
row_unknown L s x y k a b u =
    if_ne k read_section _ _ r u.others.no_section (if_ne k read_point _ _ r u.others.no_point (if_ne k throw_point _ _ r u.others.no_throw
    (if_ne k set_route _ _ r u.others.no_set (if_ne k cancel_route _ _ r u.others.no_cancel (if_ne k secure_line _ _ r u.others.no_secure
    (if_ne k release_line _ _ r u.others.no_release (if_ne k bar_block _ _ r u.others.no_bar (if_ne k unbar_block _ _ r u.others.no_unbar
    (if_ne k one_second _ _ r u.others.no_second (if_ne k axles_in _ _ r u.no_in (if_ne k axles_out _ _ r u.no_out
    (if_ne k head_silent _ _ r u.no_silent (if_ne k reset_axles _ _ r u.no_reset (if_ne k report_lamp _ _ r u.others.no_lamp refl))))))))))))))
  where
    r : Row
    r = no_row s

-- a kind that is none of the others, and not of heads, is none of the fifteen
pub no_kind : (k : ℕ) → NoOther k → is_of_heads k ≡ false → Unknown k
no_kind k n f = record { others = n; no_in = not_of 11 (omega arith); no_out = not_of 12 (omega arith); no_silent = not_of 13 (omega arith); no_reset = not_of 14 (omega arith) }
  where
    not_of : (j : ℕ) → (11 ≤ j) × (j ≤ 14) → k ≢ j
    not_of j h q = not_both (of_heads k (omega arith) (omega arith)) f

module _ (t : Bool) (L : Layout) (s : State) (c : Core) (x y : Axles) (k a b : ℕ) (r : Tried) where
  -- an event tried by the row of kind n is tried by that of k, which is n
  pub row_at : (n : ℕ) → k ≡ n → r ≡ tried t c a (row_with L s x y n a b) → r ≡ tried t c a (row_with L s x y k a b)
  row_at n h e = e ∙ sym (ap (λ m. tried t c a (row_with L s x y m a b)) h)

  -- one of a kind that is none of the fifteen
  pub row_none : Unknown k → r ≡ tried t c a (no_row s) → r ≡ tried t c a (row_with L s x y k a b)
  row_none u e = e ∙ ap (tried t c a) (row_unknown L s x y k a b u)
