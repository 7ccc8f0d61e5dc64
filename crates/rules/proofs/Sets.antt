-- What the sets hold, and that a common element of two of them is what the rules ask for.
use Prim.Native.Nat.{ℕ, zero, suc, ◌<◌}
use mathlib.Core.Path.{◌≡◌, refl, ap, ap₂, ◌∙◌}
use mathlib.Core.Bool.{Bool, true, false, not}
use mathlib.Core.List.{List}
use lib.Dec.{eqb}
use lib.ListN.{get_or}
use Rattle.laws.specs.Choice.{when◌then◌else◌}
use Rattle.laws.specs.Tests.{◌and◌, ◌or◌, any_below}
use Rattle.laws.specs.Tables.{iter}
use Rattle.laws.proofs.Tests.{any_same, or_false}
use Rattle.sets.specs.Sets.{holds, joined, set_of, common}
use Rattle.sets.proofs.Sets.{holds_none, holds_union, holds_joined, holds_set_of}
use Rattle.track.specs.declared.Line.{Line}
use Rattle.track.specs.declared.Route.{Route}
use Rattle.track.specs.Sizes.{most_sections}
use Rattle.track.specs.Objects.{line}
use Rattle.track.specs.Lists.{among}
use Rattle.track.specs.Blocks.{in_block, line_sections}
use Rattle.rules.specs.Rules.{share, has_block, is_block, has_inner, is_inner, in_path, has_point, clashes}
use Rattle.rules.specs.Sets.{line_blocks, block_set, inner_turn, inner_set, off_blocks, side_with, side_set, reach_of, clashing}

-- two sets have an element in common just where some number passes both of the tests that they stand for: a set holds what `share` looks through
pub common_is : (a b : ℕ) (p q : ℕ → Bool) → ((g : ℕ) → g < most_sections → holds a g ≡ p g) → ((g : ℕ) → g < most_sections → holds b g ≡ q g)
    → common a b ≡ share p q
unfolding common share
common_is a b p q f h = any_same most_sections _ _ (λ g l. rw (f g l, h g l))

-- the `or` of three tests is the same whichever two are taken together first
or_regroup : (a b c : Bool) → a or b or c ≡ a or (b or c)
unfolding ◌or◌
or_regroup true b c = refl
or_regroup false b c = refl

-- ---- each set, by what it holds

-- the sections of the blocks of a line
pub holds_blocks : (ls : List Line) (l g : ℕ) → g < most_sections → holds (line_sections (line ls l)) g ≡ has_block ls g l
unfolding line_sections has_block in_block
holds_blocks ls l g b = holds_set_of _ _ g b

-- those of the first n lines
pub holds_block_set : (n : ℕ) (ls : List Line) (g : ℕ) → g < most_sections → holds (block_set n ls) g ≡ is_block n ls g
unfolding block_set iter line_blocks is_block any_below ◌or◌
holds_block_set zero ls g l = holds_none g
holds_block_set (suc n) ls g l =
    holds_union (block_set n ls) (line_sections (line ls n)) g ∙ ap₂ ◌or◌ (holds_block_set n ls g l) (holds_blocks ls n g l)

-- the inner sections of the first n lines
pub holds_inner_set : (n : ℕ) (ls : List Line) (g : ℕ) → g < most_sections → holds (inner_set n ls) g ≡ is_inner n ls g
unfolding inner_set iter inner_turn is_inner any_below has_inner ◌or◌
holds_inner_set zero ls g l = holds_none g
holds_inner_set (suc n) ls g l =
    holds_joined (joined (inner_set n ls) (line ls n).innera) (line ls n).innerb g l
    ∙ ap (λ t. t or eqb (line ls n).innerb g) (holds_joined (inner_set n ls) (line ls n).innera g l)
    ∙ or_regroup (holds (inner_set n ls) g) _ _
    ∙ ap (λ t. t or (eqb (line ls n).innera g or eqb (line ls n).innerb g)) (holds_inner_set n ls g l)

-- the sections of a path
pub holds_path : (a : Route) (g : ℕ) → g < most_sections → holds (set_of a.paths a.path) g ≡ in_path a g
unfolding in_path among
holds_path a g l = holds_set_of a.paths a.path g l

-- a point more, where it lies that way; a set holds what is below 64
side_more : (set x g : ℕ) (t : Bool) → g < 64 → holds (when t then joined set x else set) g ≡ holds set g or (t and eqb x g)
unfolding when◌then◌else◌ ◌and◌ ◌or◌
side_more set x g true l = holds_joined set x g l
side_more set x g false l = or_false (holds set g)

-- after n points the set holds those of them that lie that way: point by point
sides : (w : ℕ) (a : Route) (n g : ℕ) → g < 64
    → holds (iter (side_with w a.point a.position) n 0) g ≡ any_below n (λ i. eqb (get_or a.position i 0) w and eqb (get_or a.point i 0) g)
unfolding iter side_with any_below ◌or◌
sides w a zero g l = holds_none g
sides w a (suc n) g l =
    side_more (iter (side_with w a.point a.position) n 0) (get_or a.point n 0) g (eqb (get_or a.position n 0) w) l
    ∙ ap (λ t. t or (eqb (get_or a.position n 0) w and eqb (get_or a.point n 0) g)) (sides w a n g l)

-- the points of a route that lie that way
pub holds_side : (w : ℕ) (a : Route) (g : ℕ) → g < 64 → holds (side_set w a) g ≡ has_point w a g
unfolding side_set has_point
holds_side w a g l = sides w a a.points g l

-- ---- the rules, by the sets

-- rule 1, a section of a block of line l that a line before has
pub again_is : (ls : List Line) (l : ℕ)
    → common (line_sections (line ls l)) (block_set l ls) ≡ share (λ g. has_block ls g l) (is_block l ls)
again_is ls l = common_is _ _ _ _ (holds_blocks ls l) (holds_block_set l ls)

-- rule 1, no path section is a block
pub off_blocks_is : (n : ℕ) (ls : List Line) (a : Route) → off_blocks (block_set n ls) a ≡ not (share (is_block n ls) (in_path a))
unfolding off_blocks
off_blocks_is n ls a = ap not (common_is _ _ _ _ (holds_block_set n ls) (holds_path a))

-- rule 1, an inner section that is a block
pub inner_is : (n : ℕ) (ls : List Line) → common (block_set n ls) (inner_set n ls) ≡ share (is_block n ls) (is_inner n ls)
inner_is n ls = common_is _ _ _ _ (holds_block_set n ls) (holds_inner_set n ls)

-- rule 6, two routes that clash
pub clashing_is : (a b : Route) → clashing (reach_of a) (reach_of b) ≡ clashes a b
unfolding clashing reach_of clashes
clashing_is a b =
    ap (λ t. eqb a.entry b.entry or t)
    (ap₂ ◌or◌ (common_is _ _ _ _ (holds_path a) (holds_path b))
    (ap₂ ◌or◌ (common_is _ _ _ _ (holds_side 1 a) (holds_side 2 b)) (common_is _ _ _ _ (holds_side 2 a) (holds_side 1 b))))
