-- Stage 3 by cases, each from the facts that choose it; and where nothing passes back.
use Prim.Native.Nat.{ℕ, zero, suc, ◌+◌, ◌-◌, ◌*◌, ◌/◌, ◌%◌, ◌<◌, ◌≤◌}
use mathlib.Core.Path.{◌≡◌, refl, sym, ap, ◌∙◌}
use mathlib.Core.Bool.{Bool, true, false, not, ◌||◌}
use mathlib.Core.List.{List}
use mathlib.Core.Logic.{⊎_elim}
use native.Mathlib.Decide.{ℕ_discrete}
use native.Mathlib.Numerals.{add-one}
use native.Mathlib.Omega.{arith}
use borrow.Author.Tests.{eqb-true, eqb-false, leb-true, leb-false, eq-eqb, ne_eqb, lt-ltb, le-ltb}
use lib.Dec.{eqb, leb}
use lib.ListN.{length, get_or, set, replicate, length-set}
use lib.Seq.{get_or-set_same, get_or-set_other}
use Rattle.laws.specs.Tests.{◌and◌, ◌or◌, any_below}
use Rattle.laws.proofs.Arrays.{nothing_at}
use Rattle.laws.proofs.Choice.{if_false, chosen, passed_over}
use Rattle.laws.proofs.Each.{each_same, each_kept}
use Rattle.laws.proofs.Tests.{and_left, and_right, and_both, first_fails, second_fails, or_cases, or_neither, not_both, fails_from, all_at}
use Rattle.track.specs.declared.Line.{Line}
use Rattle.track.specs.declared.Route.{Route}
use Rattle.track.specs.Codes.{neutral, open_block, stage2, stage3}
use Rattle.track.specs.Sizes.{most_blocks, most_lines, most_places}
use Rattle.track.specs.Objects.{line, route}
use Rattle.tables.specs.Blocks.{stage_of}
use Rattle.tables.specs.Locks.{direction}
use Rattle.passage.specs.Passage.{from_arrival}
use Rattle.line_block.specs.Entries.{none_waits, few_lines}
use Rattle.line_block.specs.PassingBack.{goes_open, no_opening, released_entrance_by, arrives, opens_beyond, waited_stage, waited_stage_at, passed_back, Arrived}
use Rattle.line_block.proofs.Lines.{few_fit, few_long}

-- ---- what lies beyond a block, counted c from the arrival end

module _ (b : Line) (stages : List ℕ) (opened arrived : ℕ → ℕ → Bool) (l w : ℕ) where
  -- beyond any but the last the next block decides, and what lies beyond it
  further : (c : ℕ) → 0 < c → opens_beyond b stages opened arrived l w c
      ≡ opened l (from_arrival b w (c - 1)) or (eqb (stage_of stages l (from_arrival b w (c - 1))) stage3 and opens_beyond b stages opened arrived l w (c - 1))
  unfolding opens_beyond
  further zero q = absurd (omega arith)
  further (suc c) q = let z : suc c - 1 ≡ c = omega arith in rw z

  -- beyond the last the entrance routes decide
  pub beyond_last : (c : ℕ) → c ≤ 0 → opens_beyond b stages opened arrived l w c ≡ arrived l w
  unfolding opens_beyond
  beyond_last zero q = refl
  beyond_last (suc c) q = absurd (omega arith)

  -- where the next block, j, opens by itself or not
  module _ (c j : ℕ) (v : Bool) (q : 0 < c) (e : j ≡ from_arrival b w (c - 1)) (p : v ≡ opened l j) where
    -- it opens
    pub beyond_opens : v ≡ true → true ≡ opens_beyond b stages opened arrived l w c
    unfolding ◌or◌
    beyond_opens h = rw (further c q, ← e, ← p, h)

    -- it does not, and does not wait
    pub beyond_shut : (s : ℕ) → v ≡ false → s ≡ stage_of stages l j → (s ≡ stage3 → ⊥) → false ≡ opens_beyond b stages opened arrived l w c
    unfolding ◌or◌ ◌and◌
    beyond_shut s h g n = rw (further c q, ← e, ← p, h, ← g, ne_eqb s stage3 n)

    -- it waits, so what lies beyond it decides
    pub beyond_on : (s : ℕ) → v ≡ false → s ≡ stage_of stages l j → s ≡ stage3
        → opens_beyond b stages opened arrived l w c ≡ opens_beyond b stages opened arrived l w (c - 1)
    unfolding ◌or◌ ◌and◌
    beyond_on s h g n = rw (further c q, ← e, ← p, h, ← g, eq-eqb s stage3 n)

-- what lies beyond is asked of the blocks of this line and of this direction alone: block by block from the arrival end
opens_same : (b : Line) (stages : List ℕ) (o o' a a' : ℕ → ℕ → Bool) (l w d : ℕ) → ((i : ℕ) → o l i ≡ o' l i) → a l w ≡ a' l w
    → opens_beyond b stages o a l w d ≡ opens_beyond b stages o' a' l w d
unfolding opens_beyond
opens_same b stages o o' a a' l w zero h g = g
opens_same b stages o o' a a' l w (suc d) h g = rw (h (from_arrival b w d), opens_same b stages o o' a a' l w d h g)

-- where no block opens by itself and no entrance route was released nothing opens: block by block from the arrival end
pub opens_none : (b : Line) (stages : List ℕ) (o a : ℕ → ℕ → Bool) (l w d : ℕ) → ((i : ℕ) → o l i ≡ false) → a l w ≡ false
    → opens_beyond b stages o a l w d ≡ false
unfolding opens_beyond ◌or◌
opens_none b stages o a l w zero h g = g
opens_none b stages o a l w (suc d) h g = rw (h (from_arrival b w d)) (second_fails _ _ (opens_none b stages o a l w d h g))

-- ---- a block that waits

module _ (b : Line) (stages : List ℕ) (opened arrived : ℕ → ℕ → Bool) (l i w : ℕ) where
  -- where what lies beyond does not open it stays as it is
  pub waited_shut : (was : ℕ) → opens_beyond b stages opened arrived l w (from_arrival b w i) ≡ false → waited_stage b stages opened arrived l i w was ≡ was
  unfolding waited_stage
  waited_shut was h = passed_over _ _ _ (second_fails _ _ (second_fails _ _ h))

  -- it stays where it does not wait
  pub not_waiting : {was : ℕ} → (was ≡ stage3 → ⊥) → waited_stage b stages opened arrived l i w was ≡ was
  unfolding waited_stage
  not_waiting {was} h = passed_over _ _ _ (first_fails _ _ (first_fails _ _ (ne_eqb was stage3 h)))

  -- it opens where it waits, on a secured line that has it, and what lies beyond it opens
  pub waited_open : {was : ℕ} → was ≡ stage3 → i < b.blocks → (w ≡ neutral → ⊥) → opens_beyond b stages opened arrived l w (from_arrival b w i) ≡ true
      → waited_stage b stages opened arrived l i w was ≡ open_block
  unfolding waited_stage
  waited_open {was} q c d t =
      chosen _ _ _ (and_both _ _ (and_both _ _ (eq-eqb was stage3 q) (lt-ltb i b.blocks c)) (and_both _ _ (ap not (ne_eqb w neutral d)) t))

  -- and where the line has no such block, or is neutral
  pub waited_out : leb b.blocks i || eqb w neutral ≡ true → stage3 ≡ waited_stage b stages opened arrived l i w stage3
  unfolding waited_stage ◌or◌
  waited_out h = ⊎_elim (λ (t : leb b.blocks i ≡ true). if_false _ _ _ _ (first_fails _ _ (second_fails _ _ (le-ltb i b.blocks (leb-true b.blocks i t)))) refl)
      (λ (t : eqb w neutral ≡ true). if_false _ _ _ _ (second_fails _ _ (first_fails _ _ (ap not t))) refl) (or_cases _ _ h)

  -- else what lies beyond it is asked, d being its number from the arrival end
  module _ (d : ℕ) (v : Bool) (h : leb b.blocks i || eqb w neutral ≡ false) (e : d ≡ from_arrival b w i)
      (p : v ≡ opens_beyond b stages opened arrived l w d) where
    -- that opens
    pub waited_opens : v ≡ true → open_block ≡ waited_stage b stages opened arrived l i w stage3
    unfolding ◌or◌
    waited_opens q =
        let (t, u) = or_neither (leb b.blocks i) (eqb w neutral) h in
        sym (waited_open refl (leb-false b.blocks i t) (eqb-false w neutral u) (ap (opens_beyond b stages opened arrived l w) (sym e) ∙ sym p ∙ q))

    -- that does not
    pub waited_stays : v ≡ false → stage3 ≡ waited_stage b stages opened arrived l i w stage3
    waited_stays q = sym (waited_shut stage3 (ap (opens_beyond b stages opened arrived l w) (sym e) ∙ sym p ∙ q))

-- the block at place k of a table
module _ (ls : List Line) (directions : List ℕ) (opened arrived : ℕ → ℕ → Bool) (stages : List ℕ) (k was : ℕ) where
  -- does not wait
  pub place_idle : (was ≡ stage3 → ⊥) → was ≡ waited_stage_at ls directions opened arrived stages k was
  unfolding waited_stage_at
  place_idle h = sym (not_waiting _ _ _ _ _ _ _ h)

  -- waits
  pub place_waits : (b : Line) (w v : ℕ) → was ≡ stage3 → b ≡ line ls (k / most_blocks) → w ≡ direction directions (k / most_blocks)
      → v ≡ waited_stage b stages opened arrived (k / most_blocks) (k % most_blocks) w stage3 → v ≡ waited_stage_at ls directions opened arrived stages k was
  unfolding waited_stage_at
  place_waits b w v q g e p = rw (q, ← g, ← e) p

-- ---- the routes that were released

-- a released route is of its own line alone
elsewhere : (before phases : List ℕ) (a : Route) (l w r : ℕ) → (a.line ≡ l → ⊥) → false ≡ released_entrance_by before phases a l w r
unfolding released_entrance_by
elsewhere before phases a l w r n = sym (second_fails _ _ (second_fails _ _ (first_fails _ _ (ne_eqb a.line l n))))

-- the table of arrivals, while the routes are walked
module _ (rs : List Route) (before phases directions : List ℕ) where
  -- of no route it tells no line
  pub arrived_none : Arrived 0 rs before phases directions (replicate most_lines false)
  unfolding Arrived arrives any_below
  arrived_none = (refl, λ l q. nothing_at {A = Bool} most_lines false l)

  -- a test more, which fails
  or_fails : (x y : Bool) → false ≡ y → x ≡ x || y
  or_fails true y e = refl
  or_fails false y e = e

  -- which holds
  or_holds : (x y : Bool) → true ≡ y → true ≡ x || y
  or_holds true y e = refl
  or_holds false y e = e

  module _ (r : ℕ) (table : List Bool) (h : Arrived r rs before phases directions table) where
    -- a route by which none arrives leaves it
    arrived_on : ((l : ℕ) → l < most_lines → false ≡ released_entrance_by before phases (route rs r) l (direction directions l) r)
        → Arrived (r + 1) rs before phases directions table
    unfolding Arrived arrives any_below
    arrived_on none = (h.0, λ l q. h.1 l q ∙ rw add-one (or_fails _ _ (none l q)))

    -- so it tells of all n, once they have been walked
    pub arrived_all : (n : ℕ) → r ≤ n → n ≤ r → Arrived n rs before phases directions table
    arrived_all n a b = let q : r ≡ n = omega arith in rw (← q) h

    module _ (a : Route) (w : ℕ) (same : a ≡ route rs r) (g : w ≡ direction directions a.line) where
      -- its line is none of the tables
      pub arrived_nowhere : most_lines ≤ a.line → Arrived (r + 1) rs before phases directions table
      arrived_nowhere n = arrived_on (λ l q. elsewhere before phases (route rs r) l _ r (λ z. let far : most_lines ≤ (route rs r).line = rw (← same) n in omega arith))

      module _ (v : Bool) (e : v ≡ released_entrance_by before phases a a.line w r) where
        -- what the code found of it is so by the table's record
        own : v ≡ released_entrance_by before phases (route rs r) (route rs r).line (direction directions (route rs r).line) r
        own = rw (← same, ← g) e

        -- it was not released, or is no entrance route of an arrival end
        pub arrived_unreleased : v ≡ false → Arrived (r + 1) rs before phases directions table
        arrived_unreleased n = arrived_on (λ l q. go l (ℕ_discrete (route rs r).line l))
          where
            go : (l : ℕ) → Dec ((route rs r).line ≡ l) → false ≡ released_entrance_by before phases (route rs r) l (direction directions l) r
            go l (yes z) = rw (← z) (sym n ∙ own)
            go l (no z) = elsewhere before phases (route rs r) l _ r z

        -- it was: its line is told
        pub arrived_here : v ≡ true → a.line < most_lines → Arrived (r + 1) rs before phases directions (set table a.line true)
        unfolding Arrived arrives any_below
        arrived_here t q = (length-set table _ true ∙ h.0, λ l p. go l p (ℕ_discrete a.line l))
          where
            go : (l : ℕ) → l < most_lines → Dec (a.line ≡ l)
                → get_or (set table a.line true) l false ≡ any_below (r + 1) (λ k. released_entrance_by before phases (route rs k) l (direction directions l) k)
            go l p (yes z) =
                let here : (route rs r).line ≡ l = sym (ap (λ (x : Route). x.line) same) ∙ z in
                let hit : true ≡ released_entrance_by before phases (route rs r) l (direction directions l) r = rw (← here) (sym t ∙ own) in
                rw (← z, get_or-set_same table a.line true false (let n : length table ≡ most_lines = h.0 in omega arith), add-one)
                (or_holds (any_below r (λ k. released_entrance_by before phases (route rs k) a.line (direction directions a.line) k)) _ (rw z hit))
            go l p (no z) =
                rw (get_or-set_other table a.line l true false (λ y. z (sym y)), add-one)
                (h.1 l p ∙ or_fails _ _ (elsewhere before phases (route rs r) l _ r (λ y. z (ap (λ (x : Route). x.line) same ∙ y))))

-- ---- all blocks

module _ (n : ℕ) (ls : List Line) (directions stages : List ℕ) (b : most_blocks * n ≤ length stages) where
  -- what passes back is asked of openings and of the arrivals of each line in its direction alone
  pub passed_same : (o o' a a' : ℕ → ℕ → Bool) → ((l i : ℕ) → o l i ≡ o' l i) → ((l : ℕ) → l < n → a l (direction directions l) ≡ a' l (direction directions l))
      → passed_back n ls directions o a stages ≡ passed_back n ls directions o' a' stages
  unfolding passed_back waited_stage_at waited_stage
  passed_same o o' a a' h g =
      each_same _ _ _ stages b (λ k q. rw (opens_same _ stages o o' a a' (k / most_blocks) _ _ (h (k / most_blocks)) (g (k / most_blocks) (omega arith))))

  -- where no block waits all stays, whatever opens
  pub passed_unwaited : (o a : ℕ → ℕ → Bool) → n ≤ most_lines → none_waits stages ≡ true → stages ≡ passed_back n ls directions o a stages
  unfolding passed_back none_waits
  passed_unwaited o a few h =
      each_kept _ _ stages b (λ k q. place_idle ls directions o a stages k _ (λ z. not_both (all_at most_places _ h k (omega arith)) (ap not (eq-eqb _ stage3 z))))

-- so where the code asked for the lines that the tables hold
pub passed_idle : (m : ℕ) (ls : List Line) (directions stages : List ℕ) (a : ℕ → ℕ → Bool) (none : Bool) → length stages ≡ most_places → none ≡ none_waits stages
    → none ≡ true → stages ≡ passed_back (few_lines m) ls directions no_opening a stages
passed_idle m ls directions stages a none len e t =
    passed_unwaited (few_lines m) ls directions stages (few_long m (few_lines m) stages refl len) no_opening a (few_fit m (few_lines m) refl) (sym e ∙ t)

-- no block goes from stage 2 to open where no stage changes: it would have to be both
pub goes_still : (stages : List ℕ) (l i : ℕ) → goes_open stages stages l i ≡ false
unfolding goes_open
goes_still stages l i =
    fails_from _ (λ t. let two : stage_of stages l i ≡ stage2 = eqb-true _ stage2 (and_left _ _ t) in let none : stage_of stages l i ≡ open_block = eqb-true _ open_block (and_right _ _ t) in omega arith)

-- where the code tells arrivals by a table
module _ (n : ℕ) (ls : List Line) (directions stages : List ℕ) (b : most_blocks * n ≤ length stages) (few : n ≤ most_lines) (m : ℕ) (rs : List Route)
    (before phases : List ℕ) (arrived : List Bool) (e : Arrived m rs before phases directions arrived) where
  -- the table says of each line what the routes say
  told : (l : ℕ) → l < n → get_or arrived l false ≡ arrives m rs before phases l (direction directions l)
  unfolding Arrived
  told l q = e.1 l (omega arith)

  -- what passes back by it
  pub arrivals_pass : (v : List ℕ) → v ≡ passed_back n ls directions (goes_open stages stages) (λ l w. get_or arrived l false) stages
      → v ≡ passed_back n ls directions no_opening (arrives m rs before phases) stages
  unfolding no_opening
  arrivals_pass v q = q ∙ passed_same n ls directions stages b _ no_opening _ (arrives m rs before phases) (goes_still stages) told
