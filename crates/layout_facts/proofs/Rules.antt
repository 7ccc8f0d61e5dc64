-- The tests of rules 1 to 5 and 7 mean what the rules say.
use Prim.Native.Nat.{ℕ, ◌-◌, ◌<◌, ◌≤◌}
use mathlib.Core.Path.{◌≡◌, refl, sym, ◌∙◌}
use mathlib.Core.Bool.{true}
use mathlib.Core.Logic.Iff
use mathlib.Core.Logic.{◌↔◌, ◌≢◌, ◌⊎◌}
use native.Mathlib.Omega.{arith}
use Rattle.laws.specs.Choice.{when◌then◌else◌}
use Rattle.track.specs.Sizes.{most_sections}
use Rattle.track.specs.Objects.{inner, entrance}
use Rattle.track.specs.Blocks.{only_section, blocks_differ}
use Rattle.track.proofs.OnlySection.{only_in, in_only}
use Rattle.rules.specs.Rules.{has_block, is_block, has_inner, is_inner, in_path, has_entrance, is_entrance, once, line_ends, line_points, route_lists, route_length, route_ends, announces_carrier}
use Rattle.layout.specs.declared.Layout.{Layout}
use Rattle.layout.specs.Layout.{line_in, route_in}
use Rattle.layout.specs.Rules.{rule1, rule2, rule3, rule4, rule5, rule7}
use Rattle.layout_facts.specs.Plain.{InBlock, inner_section, entrance_signal, line_point, CarriedBy, path, route_point, Ranges, Rule1, Rule2, Rule3, Rule4, Rule5, Rule7}
use Rattle.layout_facts.proofs.Means.{eqb_means, leb_means, not_means, and_means, or_means, implies_means, lastly, ◌also◌, ◌&◌, every_means, all_means, any_means}
use Rattle.layout_facts.proofs.Order.{once_over, to_one, unless}
use Rattle.layout_facts.proofs.Lists.{among_means, differ_means, share_means, ends_means, apart_means}

-- ---- what a section or a signal is

-- section g is in a block of one of the first n lines
abbrev Block : Layout → ℕ → ℕ → Type 0
Block L n g = (l : ℕ) × (l < n) × ((i : ℕ) × (i < (line_in L l).blocks) × InBlock L l i g)

-- section g is an inner section of one of the first n lines
abbrev Inner : Layout → ℕ → ℕ → Type 0
Inner L n g = (l : ℕ) × (l < n) × ((e : ℕ) × (e ≤ 1) × (inner_section L l e ≡ g))

-- signal x is an entrance signal of one of the first n lines
abbrev Entrance : Layout → ℕ → ℕ → Type 0
Entrance L n x = (l : ℕ) × (l < n) × ((e : ℕ) × (e ≤ 1) × (entrance_signal L l e ≡ x))

module _ (L : Layout) where
  -- the test for a block of line l
  has_block_means : (l g : ℕ) → has_block L.line g l ≡ true ↔ (i : ℕ) × (i < (line_in L l).blocks) × InBlock L l i g
  unfolding has_block line_in InBlock
  has_block_means l g = any_means (λ i h. (λ t. t, λ t. t))

  -- the test for a block
  is_block_means : (n g : ℕ) → is_block n L.line g ≡ true ↔ Block L n g
  unfolding is_block
  is_block_means n g = any_means (λ l h. has_block_means l g)

  -- the test for an inner section
  is_inner_means : (n g : ℕ) → is_inner n L.line g ≡ true ↔ Inner L n g
  unfolding is_inner has_inner line_in inner_section inner when◌then◌else◌
  is_inner_means n g = any_means (λ l h. ends_means (inner_section L l) g)

  -- the test for an entrance signal
  is_entrance_means : (n x : ℕ) → is_entrance n L.line x ≡ true ↔ Entrance L n x
  unfolding is_entrance has_entrance line_in entrance_signal entrance when◌then◌else◌
  is_entrance_means n x = any_means (λ l h. ends_means (entrance_signal L l) x)

  -- the test for a section of the path of route r
  pub in_path_means : (r g : ℕ) → in_path (route_in L r) g ≡ true ↔ (j : ℕ) × (j < (route_in L r).paths) × (path L r j ≡ g)
  unfolding in_path path
  in_path_means r g = among_means _ _ _

-- ---- rule 1

module _ (L : Layout) (R : Ranges L) where
  -- a block of one of the first n lines is one of the sections that there may be
  block_few : (n : ℕ) → n ≤ L.lines → (g : ℕ) → Block L n g → g < most_sections
  block_few n few g (l, hl, (i, hi, e)) = let b = (R.lines l (omega arith)).blocks i g hi e in omega arith

  -- two blocks of line l that have a section in common have the same one, so they are one block
  differ : (l : ℕ) → blocks_differ (line_in L l) ≡ true
      ↔ ((i j g : ℕ) → i < (line_in L l).blocks → j < (line_in L l).blocks → InBlock L l i g → InBlock L l j g → i ≡ j)
  unfolding blocks_differ InBlock
  differ l =
      Iff.trans (differ_means _ _) (
        λ d i j g hi hj p q. d i j hi hj (in_only (line_in L l) i g p ∙ sym (in_only (line_in L l) j g q)),
        λ d i j hi hj e. d i j (only_section (line_in L l) j) hi hj (rw e at (only_in (line_in L l) i)) (only_in (line_in L l) j),
      )

  -- no section is in two blocks of line l, and none is in a block of a line before it
  once_means : (l : ℕ) → l < L.lines → once L.line l ≡ true
      ↔ ((i j g : ℕ) → i < (line_in L l).blocks → j < (line_in L l).blocks → InBlock L l i g → InBlock L l j g → i ≡ j)
      × ((k : ℕ) → k < l → (i j g : ℕ) → i < (line_in L l).blocks → j < (line_in L k).blocks → InBlock L l i g → InBlock L k j g → ⊥)
  unfolding once line_in
  once_means l hl =
      Iff.trans (and_means (differ l)
      (not_means (share_means (has_block_means L l) (is_block_means L l) (λ g (i, hi, e). block_few _ hl g (l, omega arith, (i, hi, e)))))) (
        λ (own, apart). own & λ k b i j g hi hj e f. apart (g, (i, hi, e), (k, b, (j, hj, f))),
        λ (own, apart). own & λ (g, (i, hi, e), (k, b, (j, hj, f))). apart k b i j g hi hj e f,
      )

  -- a section is a block at most once in all lines, and is then in no path and no inner section
  pub rule1_means : rule1 L ≡ true ↔ Rule1 L
  unfolding rule1
  rule1_means =
      Iff.trans (every_means (
      all_means once_means
      also all_means (λ r h. not_means (share_means (is_block_means L _) (in_path_means L r) (block_few _ (omega arith))))
      also lastly (not_means (share_means (is_block_means L _) (is_inner_means L _) (block_few _ (omega arith)))))) (
        λ (lines, (paths, inners)). record {
          once = once_over (InBlock L) (λ l hl. (lines l hl).0) (λ l hl. (lines l hl).1);
          no_path = λ l i r j hl hi hr hj e. paths r hr (path L r j, (l, hl, (i, hi, e)), (j, hj, refl));
          no_inner = λ l i k e hl hi hk he q. inners (inner_section L k e, (l, hl, (i, hi, q)), (k, hk, (e, he, refl)));
        },
        λ s.
            (λ l hl. (λ i j g hi hj p q. (s.once l i l j g hl hi hl hj p q).1)
            & λ k b i j g hi hj p q. let z = (s.once l i k j g hl hi (omega arith) hj p q).0 in omega arith)
            & (λ r hr (g, (l, hl, (i, hi, e)), (j, hj, f)). s.no_path l i r j hl hi hr hj (rw f e))
            & λ (g, (l, hl, (i, hi, p)), (k, hk, (e, he, q))). s.no_inner l i k e hl hi hk he (rw q p),
      )

-- ---- rule 2

module _ (L : Layout) where
  -- the two inner sections of line l differ, its entrance signals differ, and none is one of a line before it
  line_ends_means : (l : ℕ) → line_ends L.line l ≡ true
      ↔ (inner_section L l 0 ≢ inner_section L l 1)
      × (((e f : ℕ) → e ≤ 1 → f ≤ 1 → entrance_signal L l e ≡ entrance_signal L l f → e ≡ f)
      × ((k : ℕ) → k < l → (e f : ℕ) → e ≤ 1 → f ≤ 1 → entrance_signal L l e ≢ entrance_signal L k f))
  unfolding line_ends line_in inner_section entrance_signal inner entrance when◌then◌else◌
  line_ends_means l =
      Iff.trans (every_means (
      not_means (eqb_means _ _) also apart_means (entrance_signal L l) also not_means (is_entrance_means L l (entrance_signal L l 0))
      also lastly (not_means (is_entrance_means L l (entrance_signal L l 1))))) (
        λ (inners, (own, (a, b))). inners & own & λ k h e f he hf.
            to_one (λ e. entrance_signal L l e ≢ entrance_signal L k f) (λ q. a (k, h, (f, hf, sym q))) (λ q. b (k, h, (f, hf, sym q))) e he,
        λ (inners, (own, apart)). inners & own
            & (λ (k, h, (f, hf, q)). apart k h 0 f (omega arith) hf (sym q)) & λ (k, h, (f, hf, q)). apart k h 1 f (omega arith) hf (sym q),
      )

  -- a line's two inner sections differ; all entrance signals differ
  pub rule2_means : rule2 L ≡ true ↔ Rule2 L
  unfolding rule2
  rule2_means =
      Iff.trans (all_means (λ l h. line_ends_means l)) (
        λ ends. record {
          inners = λ l hl. (ends l hl).0;
          entrances = λ l e k f hl he hk hf q.
              once_over {Of = λ l e. e ≤ 1} (λ l e x. entrance_signal L l e ≡ x) (λ l hl e f x he hf p q. (ends l hl).1.0 e f he hf (p ∙ sym q))
              (λ l hl k b e f x he hf p q. (ends l hl).1.1 k b e f he hf (p ∙ sym q)) l e k f _ hl he hk hf q refl;
        },
        λ s l hl. s.inners l hl & (λ e f he hf q. (s.entrances l e l f hl he hl hf q).1)
            & λ k b e f he hf q. let z = (s.entrances l e k f hl he (omega arith) hf q).0 in omega arith,
      )

  -- ---- rule 3

  -- the sections of a path differ; the points of a route or a line differ
  pub rule3_means : rule3 L ≡ true ↔ Rule3 L
  unfolding rule3 route_lists line_points line_in path route_point line_point
  rule3_means =
      Iff.trans (and_means (all_means (λ r h. and_means (differ_means _ _) (differ_means _ _))) (all_means (λ l h. differ_means _ _))) (
        λ (route, line). record {
          paths = λ r i j hr. (route r hr).0 i j;
          route_points = λ r i j hr. (route r hr).1 i j;
          line_points = λ l i j hl. line l hl i j;
        },
        λ s. (λ r hr. (λ i j. s.paths r i j hr) & λ i j. s.route_points r i j hr) & λ l hl i j. s.line_points l i j hl,
      )

-- ---- rules 4 and 5

module _ (L : Layout) (R : Ranges L) where
  -- kinds 0 and 1 have at least two path sections
  pub rule4_means : rule4 L ≡ true ↔ Rule4 L
  unfolding rule4 route_length
  rule4_means =
      Iff.trans (all_means (λ r hr. Iff.trans (or_means (eqb_means _ _) (leb_means _ _)) (unless _ 2 0 1 (omega (arith, (R.routes r hr).kind)))))
      (λ h. record { two = h }, λ s. s.two)

  -- where route r starts, and its first and its last path section
  route_ends_means : (r : ℕ) → r < L.routes → route_ends L.lines L.line (route_in L r) ≡ true
      ↔ ((route_in L r).kind ≡ 1
      → ((route_in L r).entry ≡ entrance_signal L (route_in L r).line (route_in L r).end) × (path L r 0 ≡ inner_section L (route_in L r).line (route_in L r).end))
      × (((route_in L r).kind ≡ 2 → path L r ((route_in L r).paths - 1) ≡ inner_section L (route_in L r).line (route_in L r).end)
      × ((route_in L r).kind ≡ 0 ⊎ (route_in L r).kind ≡ 2 → ¬ Entrance L L.lines (route_in L r).entry))
  unfolding route_ends line_in path inner_section entrance_signal
  route_ends_means r hr = every_means (
      implies_means (eqb_means _ _) (and_means (eqb_means _ _) (eqb_means _ _))
      also implies_means (eqb_means _ _) (eqb_means _ _)
      also lastly (Iff.trans (or_means (eqb_means _ _) (not_means (is_entrance_means L _ _))) (unless _ 1 0 2 (omega (arith, (R.routes r hr).kind)))))

  -- entrance routes begin, and exit routes end, as their end of the line has it; kinds 0 and 2 start at no entrance signal
  pub rule5_means : rule5 L ≡ true ↔ Rule5 L
  unfolding rule5
  rule5_means =
      Iff.trans (all_means route_ends_means) (
        λ h. record {
          start = λ r hr k. ((h r hr).0 k).0;
          first = λ r hr k. ((h r hr).0 k).1;
          last = λ r hr k. (h r hr).1.0 k;
          no_entrance = λ r l e hr k hl he q. (h r hr).1.1 k (l, hl, (e, he, sym q));
        },
        λ s r hr. (λ k. s.start r hr k & s.first r hr k) & s.last r hr & λ k (l, hl, (e, he, q)). s.no_entrance r l e hr k hl he (sym q),
      )

-- ---- rule 7

-- no distant announces its own carrier
pub rule7_means : (L : Layout) → rule7 L ≡ true ↔ Rule7 L
unfolding rule7 announces_carrier CarriedBy
rule7_means L = Iff.trans (all_means (λ d h. not_means (eqb_means _ _))) (λ h. record { not_own = h }, λ s. s.not_own)
