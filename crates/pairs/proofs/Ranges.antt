-- What a reading says of the conflicts: with no fault the table lists pairs of two routes that there are, both ways, and nothing else.
use Prim.Native.Nat.{ℕ, suc, ◌+◌, ◌*◌, ◌<◌, ◌≤◌}
use mathlib.Core.Path.{◌≡◌, refl, ◌∙◌}
use mathlib.Core.List.{List}
use mathlib.Core.Logic.{inr}
use native.Mathlib.Decide.{ℕ_discrete}
use native.Mathlib.Omega.{arith}
use borrow.Author.Tests.{ltb-true, ltb-false, eqb-false}
use lib.Dec.{ltb, eqb}
use lib.ListN.{length, get_or, set, length-set, length-replicate}
use lib.Seq.{get_or-set_same, get_or-set_other}
use Rattle.laws.proofs.Choice.{if_both}
use Rattle.laws.proofs.Tests.{and_left}
use Rattle.laws.proofs.Arrays.{nothing_at}
use Rattle.laws.proofs.Loops.{iter_keeps}
use Rattle.track.specs.Sizes.{most_train_routes, most_routes, most_pairs, most_conflicts}
use Rattle.fields.specs.declared.Cursor.{Cursor}
use Rattle.fields.specs.Fields.{failed, reference}
use Rattle.fields.proofs.Ranges.{Known, code_known, code_in, reference_known, reference_in}
use Rattle.pairs.specs.declared.Pair.{Pair}
use Rattle.pairs.specs.declared.Pairs.{Pairs}
use Rattle.pairs.specs.Pairs.{place_of, no_pairs, counted, pair_count, in_order, pair_of, ordered, a_pair, listed, pair_turn, pairs_from, named, pairs}

-- ---- the number of pairs

-- its fault is known where the fault before is, as a code's is
count_known : (s : List ℕ) (c : Cursor) → Known c → Known (pair_count s c).cur
unfolding pair_count counted
count_known s c k = code_known s c 0 most_conflicts k

-- with no fault there was none before
count_before : (s : List ℕ) (c : Cursor) → (pair_count s c).cur.fault ≡ 0 → c.fault ≡ 0
unfolding pair_count counted
count_before s c e = (code_in s c 0 most_conflicts e).0

-- ---- a pair's order

module _ (last : Pair) (a b : Cursor) where
  -- its fault is known where that of the second number is
  ordered_known : Known b → Known (ordered last a b)
  unfolding ordered failed
  ordered_known k =
      if_both Known (eqb b.fault 0) (λ t. if_both Known (in_order last (pair_of a b)) (λ u. k) (λ u. inr (omega arith, omega arith))) (λ t. k)

  -- with no fault the smaller comes first, and there was none before
  ordered_in : (ordered last a b).fault ≡ 0 → (b.fault ≡ 0) × (a.value < b.value)
  unfolding ordered failed in_order pair_of
  ordered_in =
      if_both Well (eqb b.fault 0)
      (λ t. if_both Well (in_order last (pair_of a b)) (λ u e. (e, ltb-true a.value b.value (and_left _ _ u))) (λ u e. absurd (omega arith)))
      (λ t e. absurd (eqb-false b.fault 0 t e))
    where
      -- what is said of a cursor with no fault
      Well : Cursor → Type 0
      Well d = d.fault ≡ 0 → (b.fault ≡ 0) × (a.value < b.value)

-- ---- the table

-- what it says of the routes i and j: nothing both ways, or 1 both ways, and then they are two of the routes that there are
pub data Said (m : List ℕ) (routes i j : ℕ) : Type 0 where
  neither : get_or m (place_of i j) 0 ≡ 0 → get_or m (place_of j i) 0 ≡ 0 → Said m routes i j
  both : get_or m (place_of i j) 0 ≡ 1 → get_or m (place_of j i) 0 ≡ 1 → (i ≡ j → ⊥) → i < routes → j < routes → Said m routes i j

-- two tables with the same at both places say the same
said_same : (m k : List ℕ) (routes i j : ℕ) → get_or k (place_of i j) 0 ≡ get_or m (place_of i j) 0 → get_or k (place_of j i) 0 ≡ get_or m (place_of j i) 0
    → Said m routes i j → Said k routes i j
said_same m k routes i j p q (neither e f) = neither (p ∙ e) (q ∙ f)
said_same m k routes i j p q (both e f d a b) = both (p ∙ e) (q ∙ f) d a b

-- the table of no pairs says 0 both ways of any two routes
none_said : (routes i j : ℕ) → Said no_pairs routes i j
unfolding no_pairs
none_said routes i j = neither (nothing_at most_pairs 0 (place_of i j)) (nothing_at most_pairs 0 (place_of j i))

-- one pair more
module _ (m : List ℕ) (routes a b : ℕ) (size : length m ≡ most_pairs) (few : routes ≤ most_train_routes) (less : a < b) (there : b < routes) where
  -- the table with 1 at both its places
  abbrev marked : List ℕ
  marked = set (set m (place_of a b) 1) (place_of b a) 1

  -- at its place
  at_first : get_or marked (place_of a b) 0 ≡ 1
  unfolding place_of
  at_first =
      get_or-set_other (set m (place_of a b) 1) (place_of b a) (place_of a b) 1 0 (λ e. let d : most_routes * a + b ≡ most_routes * b + a = e in omega arith)
      ∙ get_or-set_same m (place_of a b) 1 0 (omega arith)

  -- at its mirror
  at_second : get_or marked (place_of b a) 0 ≡ 1
  unfolding place_of
  at_second = get_or-set_same (set m (place_of a b) 1) (place_of b a) 1 0 (omega (arith, length-set m (place_of a b) 1))

  -- elsewhere
  at_other : (k : ℕ) → (k ≡ place_of a b → ⊥) → (k ≡ place_of b a → ⊥) → get_or marked k 0 ≡ get_or m k 0
  at_other k p q = get_or-set_other (set m (place_of a b) 1) (place_of b a) k 1 0 q ∙ get_or-set_other m (place_of a b) k 1 0 p

  -- where the table said of two routes what it should, the marked table does
  mark_said : (i j : ℕ) → i < most_routes → j < most_routes → Dec (place_of i j ≡ place_of a b) → Dec (place_of i j ≡ place_of b a) → Said m routes i j → Said marked routes i j
  unfolding place_of
  mark_said i j x y (yes e) d s =
      let p : i ≡ a = omega arith in
      let q : j ≡ b = omega arith in
      rw (p, q) (both at_first at_second (omega arith) (omega arith) there)
  mark_said i j x y (no e) (yes d) s =
      let p : i ≡ b = omega arith in
      let q : j ≡ a = omega arith in
      rw (p, q) (both at_second at_first (omega arith) there (omega arith))
  mark_said i j x y (no e) (no d) s =
      said_same m marked routes i j (at_other (place_of i j) e d)
      (at_other (place_of j i) (λ z. d (let z' : most_routes * j + i ≡ most_routes * a + b = z in omega arith)) (λ z. e (let z' : most_routes * j + i ≡ most_routes * b + a = z in omega arith))) s

-- ---- the pairs

-- up to 48 routes, all of them may be named
named_all : (routes : ℕ) → routes ≤ most_train_routes → named routes ≡ routes
unfolding named
named_all routes few = if_both (λ r. r ≡ routes) (ltb routes most_train_routes) (λ t. refl) (λ t. omega (arith, ltb-false routes most_train_routes t))

module _ (s : List ℕ) (routes : ℕ) (c : Cursor) where
  -- their fault is known where the fault before is
  pub pairs_known : Known c → Known (pairs s routes c).cur
  unfolding pairs pairs_from pair_turn a_pair
  pairs_known k =
      iter_keeps (λ i (t : Pairs). Known t.cur) (pair_turn s (named routes)) _ _ (count_known s c k)
      (λ i t l q. ordered_known t.last _ _ (reference_known s _ _ (reference_known s t.cur _ q)))

  -- with no fault there was none before, and of any two numbers below 48 the table says what it should
  pub pairs_in : routes ≤ most_train_routes → (pairs s routes c).cur.fault ≡ 0
      → (c.fault ≡ 0) × ((i j : ℕ) → i < most_routes → j < most_routes → Said (pairs s routes c).conflict routes i j)
  unfolding pairs pairs_from pair_turn a_pair pair_of listed no_pairs
  pairs_in few =
      rw (named_all routes few) (λ e.
      let r = (iter_keeps Table (pair_turn s routes) _ _ (length-replicate {A = ℕ} most_pairs 0, λ w. (w, λ i j x y. none_said routes i j)) turn).1 e in
      (count_before s c r.0, r.1))
    where
      -- after any turn the table has its 2,304 entries and, with no fault, says of any two routes what it should
      Table : ℕ → Pairs → Type 0
      Table i t = (length t.conflict ≡ most_pairs)
          × (t.cur.fault ≡ 0 → ((pair_count s c).cur.fault ≡ 0) × ((i j : ℕ) → i < most_routes → j < most_routes → Said t.conflict routes i j))

      -- and a turn keeps it so
      turn : (i : ℕ) (t : Pairs) → i < (pair_count s c).pairs → Table i t → Table (suc i) (pair_turn s routes i t)
      turn i t l p = (
        simp length-set p.0,
        λ e.
            let o = ordered_in t.last _ _ e in
            let b = reference_in s (reference s t.cur routes) routes o.0 in
            let a = reference_in s t.cur routes b.0 in
            let q = p.1 a.0 in
            (q.0, λ i j x y. mark_said t.conflict routes _ _ p.0 few o.1 b.1 i j x y (ℕ_discrete _ _) (ℕ_discrete _ _) (q.1 i j x y)),
      )
