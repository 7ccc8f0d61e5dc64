-- The cases of a chain of reasons, of the reasons that go by a test, and of those that go by an event's kind.
use Prim.Native.Nat.{ℕ, ◌<◌, ◌≤◌}
use Rattle.std.specs.Prelude.{Option, Some, None}
use Rattle.reasons.specs.declared.answers.Reason.{Reason}
use Rattle.reasons.specs.Told.{number_of}
use Rattle.reasons.proofs.Told.{number_given}
use mathlib.Core.Path.{◌≡◌, refl, sym, ap, fun_ext, ◌∙◌}
use mathlib.Core.Bool.{Bool, true}
use mathlib.Core.List.{List, [], ◌∷◌}
use native.Mathlib.Omega.{arith}
use borrow.Author.Tests.{le-leb}
use lib.Dec.{eqb, ltb, leb}
use lib.ListN.{length, get_or}
use Rattle.laws.specs.Tests.{◌and◌, lowest}
use Rattle.laws.proofs.Arrays.{read_past, lent_at}
use Rattle.laws.proofs.Choice.{if_eq, if_ne, if_true, if_false, Is, holds, fails, which, chosen, passed_over}
use Rattle.track.specs.declared.Line.{Line}
use Rattle.track.specs.Sizes.{most_sections, most_pairs}
use Rattle.track.specs.Objects.{no_line, line}
use Rattle.pairs.specs.Pairs.{place_of}
use Rattle.tables.specs.Blocks.{untaken, is_open, unbarred}
use Rattle.layout.specs.declared.Layout.{Layout}
use Rattle.layout.specs.Layout.{line_in, entry_of, conflict}
use Rattle.reasons.specs.Refusal.{Refusal, refused, no_refusal, refused_if, found, first_of}
use Rattle.reasons.specs.Searches.{conflicts_with, failing, lowest_found}
use Rattle.tables.specs.Locks.{locked}
use Rattle.reasons.specs.Reasons.{conflicting, block_barred, block_held}

-- ---- the first refusal of a list: v is what the code found of the first

module _ (x y v : Refusal) (xs : List Refusal) (e : v ≡ x) where
  -- the first is given: it is the answer
  pub first_here : (v.number ≡ 0 → ⊥) → v ≡ first_of (x ∷ y ∷ xs)
  unfolding first_of
  first_here h = if_ne x.number 0 _ _ v (rw (← e) h) e

  -- the first is not given: those after it decide
  pub first_next : (r : Refusal) → v.number ≡ 0 → r ≡ first_of (y ∷ xs) → r ≡ first_of (x ∷ y ∷ xs)
  unfolding first_of
  first_next r h q = if_eq x.number 0 _ _ r (rw (← e) h) q

-- the last is taken as it stands
pub first_last : (x r : Refusal) → r ≡ x → r ≡ first_of (x ∷ [])
unfolding first_of
first_last x r q = q

-- ---- the same as equations, for chains of `?`: a chain is left at the first reason that is given

module _ (x y : Refusal) (xs : List Refusal) where
  -- the first is given
  pub first_given : (x.number ≡ 0 → ⊥) → first_of (x ∷ y ∷ xs) ≡ x
  first_given h = sym (first_here x y x xs refl h)

  -- it is not
  pub first_passed : x.number ≡ 0 → first_of (x ∷ y ∷ xs) ≡ first_of (y ∷ xs)
  first_passed h = sym (first_next x y x xs refl _ h refl)

-- the last
pub first_alone : (x : Refusal) → first_of (x ∷ []) ≡ x
first_alone x = sym (first_last x x refl)

-- what is told of a reason has its number, which is not 0, and of none the number 0
pub told_number : (n d : ℕ) → (refused n d).number ≡ n
unfolding refused
told_number n d = refl

pub none_number : no_refusal.number ≡ 0
unfolding no_refusal refused
none_number = refl

pub number_above : (e : Reason) → 0 < number_of e
number_above e = go (number_of e) (number_given e)
  where
    go : (n : ℕ) → (n ≡ 0 → ⊥) → 0 < n
    go n h = omega arith

-- for chains of reasons
pub ruleset firsts = (first_given, first_passed, first_alone, told_number, none_number, number_above)

-- ---- a reason, from what a search found

module _ (number n : ℕ) (p : ℕ → Bool) (o : Option ℕ) (e : o ≡ lowest_found n p) where
  -- a number is found: it is the detail
  pub found_some : (q : ℕ) → o ≡ Some q → refused number q ≡ found number n p
  unfolding lowest_found found refused_if
  found_some q h = go (which (ltb (lowest n p) n))
    where
      go : Is (ltb (lowest n p) n) → refused number q ≡ found number n p
      go (holds t) =
          let a : Some q ≡ Some (lowest n p) = sym h ∙ e ∙ chosen _ _ _ t in
          let k : q ≡ lowest n p = cc in
          if_true (ltb (lowest n p) n) _ _ (refused number q) t (ap (refused number) k)
      go (fails t) = let a : Some q ≡ None = sym h ∙ e ∙ passed_over _ _ _ t in absurd (cc)

  -- none is found: nothing is refused
  pub found_none : o ≡ None → no_refusal ≡ found number n p
  unfolding lowest_found found refused_if
  found_none h = go (which (ltb (lowest n p) n))
    where
      go : Is (ltb (lowest n p) n) → no_refusal ≡ found number n p
      go (holds t) = let a : None ≡ Some (lowest n p) = sym h ∙ e ∙ chosen _ _ _ t in absurd (cc)
      go (fails t) = if_false (ltb (lowest n p) n) _ _ no_refusal t refl

-- ---- 5, by the table of conflicts

-- what the table of conflicts says is what the layout says
module _ (L : Layout) (phases : List ℕ) (r : ℕ) (d : length L.conflict ≡ most_pairs) (o : Option ℕ) (e : o ≡ lowest_found L.routes (conflicts_with L.conflict phases r)) where
  same_conflicts : o ≡ lowest_found L.routes (λ q. locked phases q and conflict L r q)
  unfolding conflict entry_of conflicts_with
  same_conflicts = e ∙ ap (lowest_found L.routes) (fun_ext (λ k. ap (λ n. locked phases k and eqb n 1) (lent_at L.conflict (place_of r k) most_pairs _ refl d)))

  -- the refusal 5, from the lowest route that the search by the table finds
  pub conflict_some : (q : ℕ) → o ≡ Some q → refused 5 q ≡ conflicting L phases r
  unfolding conflicting
  conflict_some q h = found_some 5 L.routes _ o same_conflicts q h

  -- and none
  pub conflict_none : o ≡ None → no_refusal ≡ conflicting L phases r
  unfolding conflicting
  conflict_none h = found_none 5 L.routes _ o same_conflicts h

-- ---- 10 and 11, by a table of blocks

module _ (ls : List Line) (table : List ℕ) (l : ℕ) (b : Line) (d : b ≡ line ls l) (o : Option ℕ) (e : o ≡ lowest_found most_sections (failing (untaken table l) b)) where
  -- the line is the one that the layout has
  at_line : o ≡ lowest_found most_sections (failing (untaken table l) (line ls l))
  at_line = rw d at e

  -- by the table of bars
  pub barred_some : (g : ℕ) → o ≡ Some g → refused 11 g ≡ block_barred ls table l
  unfolding block_barred unbarred
  barred_some g h = found_some 11 most_sections _ o at_line g h

  pub barred_none : o ≡ None → no_refusal ≡ block_barred ls table l
  unfolding block_barred unbarred
  barred_none h = found_none 11 most_sections _ o at_line h

  -- by the table of stages
  pub held_some : (g : ℕ) → o ≡ Some g → refused 10 g ≡ block_held ls table l
  unfolding block_held is_open
  held_some g h = found_some 10 most_sections _ o at_line g h

  pub held_none : o ≡ None → no_refusal ≡ block_held ls table l
  unfolding block_held is_open
  held_none h = found_none 10 most_sections _ o at_line h

-- ---- the blocks of a line by its number

module _ (L : Layout) (l i : ℕ) where
  -- the line that stands there has them
  pub block_there : (b : Line) → ((d : Line) → b ≡ get_or L.line l d) → leb b.blocks i ≡ leb (line_in L l).blocks i
  unfolding line_in line
  block_there b e = ap (λ (a : Line). leb a.blocks i) (e no_line)

  -- past the last line there is one of nothing, with no blocks
  pub no_block : length L.line ≤ l → true ≡ leb (line_in L l).blocks i
  unfolding line_in line no_line
  no_block h = sym (le-leb 0 i (omega arith)) ∙ ap (λ (b : Line). leb b.blocks i) (read_past L.line l (length L.line) no_line no_line refl h refl)
