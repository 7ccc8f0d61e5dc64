-- What stands in the way as a set, and its lowest number: that is the lowest section asked for that does not read free, the lowest point that is not read in
-- position, the lowest section of a block that is held or barred.
use Prim.Native.Nat.{ℕ, ◌<◌}
use mathlib.Core.Path.{◌≡◌, refl, sym, ap, ◌∙◌}
use mathlib.Core.Bool.{Bool, not}
use mathlib.Core.List.{List}
use native.Mathlib.Omega.{arith}
use borrow.Author.Tests.{eqb-true, lt-ltb, le-ltb}
use Rattle.std.specs.Prelude.{Option, Some, None}
use Rattle.std.specs.Bool.{then_some}
use lib.Dec.{eqb, ltb}
use lib.ListN.{length, get_or}
use Rattle.laws.specs.Choice.{when◌then◌else◌}
use Rattle.laws.specs.Tables.{read}
use Rattle.laws.specs.Tests.{◌and◌, ◌or◌, lowest}
use Rattle.laws.proofs.Arrays.{lent_at}
use Rattle.laws.proofs.Choice.{Is, which, chosen, passed_over}
use Rattle.laws.proofs.Choice as choice
use Rattle.laws.proofs.Searches.{lowest_cut, lowest_same}
use Rattle.laws.proofs.Tests.{and_same, any_and, any_same, or_and}
use Rattle.sets.specs.Sets.{holds, joined, merged_set, set_of}
use Rattle.sets.specs.Lowest.{lowest_in}
use Rattle.sets.proofs.Lowest.{holds_joined_if, holds_where}
use Rattle.sets.proofs.Sets.{holds_joined, holds_none, holds_set_of, holds_union}
use Rattle.track.specs.declared.Line.{Line}
use Rattle.track.specs.Blocks.{block_detail, line_sections}
use Rattle.track.specs.Codes.{free, occupied}
use Rattle.track.specs.Sizes.{most_listed, most_points, most_sections}
use Rattle.tables.specs.Readings.{point_reading, reading}
use Rattle.tables.specs.Blocks.{untaken}
use Rattle.tables.specs.InTheWay.{is_misplaced, misplaced_of, taken_of, unfree_blocks, unfree_of, with_unfree}
use Rattle.reasons.specs.Reasons.{not_free}
use Rattle.reasons.specs.Refusal.{Refusal, refused_if}
use Rattle.reasons.specs.Searches.{failing, lowest_found, misplaced, unfree}

-- beside the test that x is g, what is asked of x is asked of g
asked_there : (x g : ℕ) (t : ℕ → Bool) → eqb x g and t x ≡ eqb x g and t g
asked_there x g t = and_same (eqb x g) (t x) (t g) (λ e. ap t (eqb-true x g e))

-- what is read of a lent list of eight is the list's own entry
listed : (xs : List ℕ) (i : ℕ) → length xs ≡ most_listed → read most_listed 0 xs i ≡ get_or xs i 0
listed xs i e = lent_at xs i most_listed _ refl e

-- ---- sections

module _ (sections : List ℕ) (g : ℕ) (l : g < most_sections) where
  -- of a list: in the set are those of its sections that do not read free
  unfree_listed : (n : ℕ) (xs : List ℕ) → length xs ≡ most_listed → holds (unfree_of sections n xs) g ≡ unfree sections (set_of n xs) g
  unfolding unfree_of unfree
  unfree_listed n xs e =
      holds_where n _ (read most_listed 0 xs) g l
      ∙ any_same n _ (λ i. eqb (get_or xs i 0) g and not (eqb (reading sections g) free))
      (λ i b. asked_there (read most_listed 0 xs i) g (λ x. not (eqb (reading sections x) free)) ∙ ap (λ x. eqb x g and not (eqb (reading sections g) free)) (listed xs i e))
      ∙ any_and n (λ i. eqb (get_or xs i 0) g) (not (eqb (reading sections g) free))
      ∙ ap (λ t. t and not (eqb (reading sections g) free)) (sym (holds_set_of n xs g l))

  -- of one section
  unfree_one : (x : ℕ) → holds (with_unfree sections 0 x) g ≡ unfree sections (joined 0 x) g
  unfolding with_unfree unfree ◌or◌
  unfree_one x =
      holds_joined_if _ 0 x g l ∙ ap (λ t. t or (eqb x g and not (eqb (reading sections x) free))) (holds_none g)
      ∙ asked_there x g (λ k. not (eqb (reading sections k) free))
      ∙ ap (λ t. t and not (eqb (reading sections g) free)) (sym (holds_joined 0 x g l ∙ ap (λ t. t or eqb x g) (holds_none g)))

-- of two sets together
unfree_merged : (sections : List ℕ) (g a b u v : ℕ) → holds u g ≡ unfree sections a g → holds v g ≡ unfree sections b g
    → holds (merged_set u v) g ≡ unfree sections (merged_set a b) g
unfolding unfree
unfree_merged sections g a b u v d e =
    holds_union u v g ∙ ap (λ t. t or holds v g) d ∙ ap (λ t. (holds a g and not (eqb (reading sections g) free)) or t) e
    ∙ or_and (holds a g) (holds b g) (not (eqb (reading sections g) free)) ∙ ap (λ t. t and not (eqb (reading sections g) free)) (sym (holds_union a b g))

-- what is refused for section g, the lowest in the way; nothing where that is past the last section
abbrev pub decided : List ℕ → ℕ → Refusal
decided sections g = refused_if (ltb g most_sections) (when eqb (reading sections g) occupied then 7 else 8) g

-- 7 and 8, by the set of the sections asked for that do not read free
module _ (sections : List ℕ) (set : ℕ) (r : Refusal) (q : r ≡ decided sections (lowest_in set)) where
  -- its lowest number is the section that decides
  by_set : (asked : ℕ) → ((g : ℕ) → g < most_sections → holds set g ≡ unfree sections asked g) → r ≡ not_free sections asked
  unfolding not_free refused_if lowest_in
  by_set asked h = q ∙ ap (decided sections) (lowest_same most_sections (holds set) (unfree sections asked) h)

  -- of a route: its path and its overlap
  pub route_by_set : (n m u v : ℕ) (xs ys : List ℕ) → u ≡ unfree_of sections n xs → v ≡ unfree_of sections m ys → set ≡ merged_set u v
      → length xs ≡ most_listed → length ys ≡ most_listed → r ≡ not_free sections (merged_set (set_of n xs) (set_of m ys))
  route_by_set n m u v xs ys a b e c d =
      by_set (merged_set (set_of n xs) (set_of m ys))
      (λ g l. ap (λ s. holds s g) e
      ∙ unfree_merged sections g (set_of n xs) (set_of m ys) u v (ap (λ s. holds s g) a ∙ unfree_listed sections g l n xs c) (ap (λ s. holds s g) b ∙ unfree_listed sections g l m ys d))

  -- of a line: its blocks
  pub line_by_set : (b c : Line) → b ≡ c → set ≡ unfree_blocks sections b → length b.block ≡ most_listed → r ≡ not_free sections (line_sections c)
  unfolding line_sections unfree_blocks
  line_by_set b c d e h =
      by_set (line_sections b) (λ g l. ap (λ s. holds s g) e ∙ unfree_listed sections g l b.blocks b.block h) ∙ ap (λ (a : Line). not_free sections (line_sections a)) d

  -- of a point: its own section
  pub point_by_set : (x y : ℕ) → x ≡ y → set ≡ with_unfree sections 0 x → r ≡ not_free sections (joined 0 y)
  point_by_set x y d e = by_set (joined 0 x) (λ g l. ap (λ s. holds s g) e ∙ unfree_one sections g l x) ∙ ap (λ k. not_free sections (joined 0 k)) d

-- ---- points

-- in the set are those of the list that are not read in position
misplaced_listed : (points : List ℕ) (n : ℕ) (ps ws : List ℕ) (p : ℕ) → p < most_points → length ps ≡ most_listed → length ws ≡ most_listed
    → holds (misplaced_of points n ps ws) p ≡ misplaced points n ps ws p
unfolding misplaced_of misplaced is_misplaced ◌and◌
misplaced_listed points n ps ws p l d e =
    holds_where n _ (read most_listed 0 ps) p (omega arith)
    ∙ any_same n _ (λ j. eqb (get_or ps j 0) p and not (eqb (point_reading points p) (get_or ws j 0)))
    (λ j b.
    asked_there (read most_listed 0 ps j) p (λ x. is_misplaced points x (read most_listed 0 ws j))
    ∙ ap (λ t. eqb (read most_listed 0 ps j) p and (t and not (eqb (point_reading points p) (read most_listed 0 ws j)))) (lt-ltb p most_points l)
    ∙ ap (λ x. eqb x p and not (eqb (point_reading points p) (read most_listed 0 ws j))) (listed ps j d)
    ∙ ap (λ w. eqb (get_or ps j 0) p and not (eqb (point_reading points p) w)) (listed ws j e))

module _ (points : List ℕ) (n : ℕ) (ps ws : List ℕ) (d : length ps ≡ most_listed) (e : length ws ≡ most_listed) (set p : ℕ) (q : set ≡ misplaced_of points n ps ws)
    (h : p ≡ lowest_in set) where
  -- the lowest point that is not read in position, by the lowest number in the set
  lowest_point : lowest most_points (misplaced points n ps ws) ≡ (when ltb p most_points then p else most_points)
  unfolding lowest_in
  lowest_point =
      lowest_same most_points (misplaced points n ps ws) (holds set) (λ k l. sym (misplaced_listed points n ps ws k l d e) ∙ ap (λ s. holds s k) (sym q))
      ∙ lowest_cut most_points 64 (holds set) (omega arith) ∙ ap (λ k. when ltb k most_points then k else most_points) (sym h)

  -- it is found where it is a point; else every point is read in position
  pub point_found : (o : Option ℕ) → o ≡ then_some (ltb p most_points) p → o ≡ lowest_found most_points (misplaced points n ps ws)
  unfolding lowest_found
  point_found o e = e ∙ go (which (ltb p most_points))
    where
      go : Is (ltb p most_points) → then_some (ltb p most_points) p ≡ lowest_found most_points (misplaced points n ps ws)
      go (choice.holds t) =
          ap (λ b. then_some b p) t
          ∙ sym (ap (λ m. when ltb m most_points then Some m else None) (lowest_point ∙ chosen _ _ _ t) ∙ chosen _ _ _ t)
      go (choice.fails t) =
          ap (λ b. then_some b p) t
          ∙ sym (ap (λ m. when ltb m most_points then Some m else None) (lowest_point ∙ passed_over _ _ _ t) ∙ passed_over _ _ _ (le-ltb most_points most_points (omega arith)))

-- ---- blocks

-- the lowest section of a block that is held or barred, by the lowest number in the set
pub block_lowest : (table : List ℕ) (b : Line) (l set g : ℕ) → set ≡ taken_of table b l → g ≡ lowest_in set → g ≡ lowest most_sections (failing (untaken table l) b)
unfolding lowest_in taken_of failing
block_lowest table b l set g q h =
    h ∙ lowest_same most_sections (holds set) (failing (untaken table l) b) (λ k m. ap (λ s. holds s k) q ∙ holds_where b.blocks (λ i. not (untaken table l i)) (block_detail b) k m)

-- it is found where there is such a section
pub block_found : (table : List ℕ) (b : Line) (l set g : ℕ) (o : Option ℕ) → set ≡ taken_of table b l → g ≡ lowest_in set → o ≡ then_some (ltb g most_sections) g
    → o ≡ lowest_found most_sections (failing (untaken table l) b)
unfolding lowest_found
block_found table b l set g o q h e = rw (← block_lowest table b l set g q h) (e ∙ go (which (ltb g most_sections)))
  where
    go : Is (ltb g most_sections) → then_some (ltb g most_sections) g ≡ (when ltb g most_sections then Some g else None)
    go (choice.holds t) = ap (λ b. then_some b g) t ∙ sym (chosen _ _ _ t)
    go (choice.fails t) = ap (λ b. then_some b g) t ∙ sym (passed_over _ _ _ t)
