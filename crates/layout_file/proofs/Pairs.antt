-- The conflicts of a file: the pairs that were read stand there, and are those of the table.
use Prim.Native.Nat.{ℕ, zero, suc, ◌+◌, ◌-◌, ◌*◌, ◌<◌, ◌≤◌}
use mathlib.Core.Path.{◌≡◌, refl, sym, ap, ap₂, ◌∙◌}
use mathlib.Core.Bool.{true}
use mathlib.Core.List.{List, [], ◌∷◌, ◌++◌, flat_map}
use mathlib.Core.Logic.{⊎_elim}
use native.Mathlib.Omega.{arith}
use native.Mathlib.Decide.{ℕ_discrete}
use borrow.Author.Tests.{ltb-true, ltb-false, eqb-true, eqb-false}
use lib.Dec.{eqb, ltb}
use lib.ListN.{length, get_or, set, length-append, length-set, length-replicate}
use lib.Seq.{get_or-set_same, get_or-set_other}
use Rattle.laws.specs.Tables.{join}
use Rattle.laws.proofs.Choice.{if_both}
use Rattle.laws.proofs.Tests.{and_left, and_right, or_cases}
use Rattle.laws.proofs.Arrays.{nothing_at}
use Rattle.laws.proofs.Loops.{iter_keeps}
use Rattle.laws.proofs.Joins.{join_same, join_rest}
use Rattle.numbers.specs.Form.{Bytes}
use Rattle.track.specs.Sizes.{most_train_routes, most_routes, most_pairs, most_conflicts}
use Rattle.fields.specs.declared.Cursor.{Cursor}
use Rattle.fields.specs.Fields.{failed, code, reference}
use Rattle.fields.proofs.Ranges.{reference_in}
use Rattle.pairs.specs.declared.Pair.{Pair}
use Rattle.pairs.specs.declared.Pairs.{Pairs}
use Rattle.pairs.specs.Pairs.{place_of, no_pairs, counted, pair_count, comes_after, in_order, pair_of, ordered, a_pair, listed, pair_turn, no_pair, pairs_from, named, pairs}
use Rattle.layout_file.specs.Written.{pair_numbers}
use Rattle.layout_file.proofs.Stands.{Stand, stand_none, stand_then}
use Rattle.layout_file.proofs.Fields.{code_stands, reference_stands}
use Rattle.layout_file.proofs.PairPlaces.{pair_of_place, at_place, pairs_below, place_listed, place_empty, place_same, first_of, second_of}

-- the numbers of pairs and of more pairs
pub numbers_append : (ps qs : List Pair) → pair_numbers (ps ++ qs) ≡ pair_numbers ps ++ pair_numbers qs
unfolding pair_numbers flat_map
numbers_append [] qs = refl
numbers_append (p ∷ ps) qs = ap (λ ns. p.first ∷ p.second ∷ ns) (numbers_append ps qs)

-- ---- one pair more in a table

-- the place of a pair
abbrev pub placed : Pair → ℕ
placed p = place_of p.first p.second

-- the table keeps its length
pub listed_long : (m : List ℕ) (p : Pair) → length m ≡ most_pairs → length (listed m p) ≡ most_pairs
unfolding listed
listed_long m p size = length-set (set m (placed p) 1) (place_of p.second p.first) 1 ∙ length-set m (placed p) 1 ∙ size

module _ (m : List ℕ) (size : length m ≡ most_pairs) (p : Pair) (smaller : p.first < p.second) (few : p.second < most_routes) where
  -- it is listed at its own place
  pub listed_own : get_or (listed m p) (placed p) 0 ≡ 1
  unfolding listed place_of
  listed_own =
      get_or-set_other (set m (placed p) 1) (place_of p.second p.first) (placed p) 1 0 (λ e. let d : most_routes * p.first + p.second ≡ most_routes * p.second + p.first = e in omega arith)
      ∙ get_or-set_same m (placed p) 1 0 (omega arith)

  -- and at its mirror
  pub listed_mirror : get_or (listed m p) (place_of p.second p.first) 0 ≡ 1
  unfolding listed place_of
  listed_mirror = get_or-set_same (set m (placed p) 1) (place_of p.second p.first) 1 0 (omega (arith, length-set m (placed p) 1))

  -- and nothing else has changed
  pub listed_other : (k : ℕ) → (k ≡ placed p → ⊥) → (k ≡ place_of p.second p.first → ⊥) → get_or (listed m p) k 0 ≡ get_or m k 0
  unfolding listed
  listed_other k x y = get_or-set_other (set m (placed p) 1) (place_of p.second p.first) k 1 0 y ∙ get_or-set_other m (placed p) k 1 0 x

  -- the pair of its place is the pair itself
  pub place_own : pair_of_place (placed p) ≡ p
  unfolding place_of
  place_own = rw (first_of p.first p.second few, second_of p.first p.second few)

  -- its mirror is no place of a pair, since the larger is first there
  mirror_empty : (n : List ℕ) → at_place n (place_of p.second p.first) ≡ []
  unfolding place_of
  mirror_empty n = place_empty n (place_of p.second p.first) (λ h e. omega arith)

  -- at every place but its own the same pair stands as before, if any
  place_other : (k : ℕ) → (k ≡ placed p → ⊥) → at_place m k ≡ at_place (listed m p) k
  place_other k x = by (ℕ_discrete k (place_of p.second p.first))
    where
      by : Dec (k ≡ place_of p.second p.first) → at_place m k ≡ at_place (listed m p) k
      by (yes y) = rw (y, mirror_empty m, mirror_empty (listed m p))
      by (no y) = place_same m (listed m p) k (sym (listed_other k x y))

  -- where the table has no pair from a place on up to this one: those up to it are those before that place, and it
  pairs_more : (k : ℕ) → k ≤ placed p → ((j : ℕ) → k ≤ j → j < most_pairs → at_place m j ≡ []) → pairs_below (listed m p) (suc (placed p)) ≡ pairs_below m k ++ (p ∷ [])
  unfolding pairs_below join place_of
  pairs_more k h none =
      ap₂ (λ xs ys. xs ++ ys)
      (sym (join_same (placed p) (at_place m) (at_place (listed m p)) (λ j l. place_other j (λ z. let z' : j ≡ most_routes * p.first + p.second = z in omega arith)))
      ∙ ap (λ n. join n (at_place m)) (let e : most_routes * p.first + p.second ≡ k + (most_routes * p.first + p.second - k) = omega arith in e)
      ∙ join_rest (at_place m) k (most_routes * p.first + p.second - k) (λ j l u. none j l (omega arith)))
      (place_listed (listed m p) (placed p) (omega arith) listed_own ∙ ap (λ q. q ∷ []) place_own)

-- ---- a pair in its order

-- a pair that comes after another stands at a later place
after_later : (p last : Pair) → p.second < most_routes → last.second < most_routes → comes_after p last ≡ true → placed last < placed p
unfolding comes_after place_of
after_later p last h l e =
    ⊎_elim (λ t. let x = ltb-true last.first p.first t in omega arith)
    (λ t.
    let x = eqb-true last.first p.first (and_left _ _ t) in
    let y = ltb-true last.second p.second (and_right _ _ t) in
    omega arith) (or_cases _ _ e)

-- with no fault the pair is in order, and there was none before
ordered_well : (last : Pair) (a b : Cursor) → (ordered last a b).fault ≡ 0 → (b.fault ≡ 0) × (in_order last (pair_of a b) ≡ true) × (ordered last a b ≡ b)
unfolding ordered failed
ordered_well last a b =
    if_both (λ (d : Cursor). d.fault ≡ 0 → (b.fault ≡ 0) × (in_order last (pair_of a b) ≡ true) × (d ≡ b)) (eqb b.fault 0)
    (λ t. if_both (λ (d : Cursor). d.fault ≡ 0 → (b.fault ≡ 0) × (in_order last (pair_of a b) ≡ true) × (d ≡ b)) (in_order last (pair_of a b))
    (λ u e. (e, u, refl)) (λ u e. absurd (let z : 23 ≡ 0 = e in omega arith)))
    (λ t e. absurd (eqb-false b.fault 0 t e))

-- where none stands from a place on, the pairs below it are all
all_below : (m : List ℕ) (k : ℕ) → k < most_pairs → ((j : ℕ) → suc k ≤ j → j < most_pairs → at_place m j ≡ []) → pairs_below m most_pairs ≡ pairs_below m (suc k)
unfolding pairs_below
all_below m k h none =
    ap (λ n. join n (at_place m)) (let e : most_pairs ≡ suc k + (most_pairs - suc k) = omega arith in e)
    ∙ join_rest (at_place m) (suc k) (most_pairs - suc k) (λ j l u. none j l (omega arith))

-- ---- a table of no pairs

-- it has a pair at no place
none_empty : (k : ℕ) → at_place no_pairs k ≡ []
unfolding no_pairs
none_empty k = place_empty no_pairs k (λ h e. omega (arith, nothing_at {A = ℕ} most_pairs 0 k))

-- so none below any
none_below : (k : ℕ) → pairs_below no_pairs k ≡ []
unfolding pairs_below join
none_below zero = refl
none_below (suc k) = ap₂ (λ xs ys. xs ++ ys) (none_below k) (none_empty k)

-- ---- what was read stands there

module _ (s : List ℕ) (b : Bytes s) (routes : ℕ) (few : routes ≤ most_routes) (first : Cursor) where
  -- with no fault after i turns: the pairs of the table are i, none stands behind the last one, and their numbers stand in the file
  record Told (i : ℕ) (t : Pairs) : Type 0 where
    before : first.fault ≡ 0
    inside : t.last.second < most_routes
    there : placed t.last < most_pairs
    behind : (k : ℕ) → suc (placed t.last) ≤ k → k < most_pairs → at_place t.conflict k ≡ []
    count : length (pairs_below t.conflict (suc (placed t.last))) ≡ i
    stand : Stand s first.at (pair_numbers (pairs_below t.conflict (suc (placed t.last)))) t.cur.at

  -- before the first turn
  told_start : (c : Cursor) → c.at ≡ first.at → (c.fault ≡ 0 → first.fault ≡ 0) → c.fault ≡ 0 → Told 0 (record { cur = c; last = no_pair; conflict = no_pairs })
  unfolding no_pair pair_numbers flat_map place_of
  told_start c h f e = record {
    before = f e;
    inside = omega arith;
    there = omega arith;
    behind = λ k l u. none_empty k;
    count = ap length (none_below (suc (placed no_pair)));
    stand = rw (none_below (suc (placed no_pair)), h) (stand_none s first.at);
  }

  -- one turn more
  told_on : (i : ℕ) (t : Pairs) → length t.conflict ≡ most_pairs → (t.cur.fault ≡ 0 → Told i t) → (pair_turn s routes i t).cur.fault ≡ 0 → Told (suc i) (pair_turn s routes i t)
  unfolding pair_turn a_pair in_order pair_of pair_numbers flat_map place_of
  told_on i t long told e =
      let o = ordered_well t.last _ _ e in
      let y = reference_stands s b _ routes o.0 in
      let x = reference_stands s b _ routes y.0 in
      let q = told x.0 in
      let p : Pair = pair_of (reference s t.cur routes) (reference s (reference s t.cur routes) routes) in
      let smaller : p.first < p.second = ltb-true _ _ (and_left _ _ o.1) in
      let inside : p.second < most_routes = omega (arith, (reference_in s (reference s t.cur routes) routes o.0).1) in
      let later = after_later p t.last inside q.inside (and_right _ _ o.1) in
      let more = pairs_more t.conflict long p smaller inside (suc (placed t.last)) later q.behind in
      record {
        before = q.before;
        inside = inside;
        there = omega arith;
        behind = λ k l u. sym (place_other t.conflict long p smaller inside k (λ z. let z' : k ≡ placed p = z in omega arith)) ∙ q.behind k (omega arith) u;
        count = ap length more ∙ length-append (pairs_below t.conflict (suc (placed t.last))) (p ∷ []) ∙ omega (arith, q.count);
        stand = rw (more, numbers_append (pairs_below t.conflict (suc (placed t.last))) (p ∷ []), o.2) (stand_then s q.stand (stand_then s x.1 y.1));
      }

-- up to as many routes as the table has, all of them may be named
pub named_all : (routes : ℕ) → routes ≤ most_train_routes → named routes ≡ routes
unfolding named
named_all routes few = if_both (λ r. r ≡ routes) (ltb routes most_train_routes) (λ t. refl) (λ t. omega (arith, ltb-false routes most_train_routes t))

-- all pairs
pub pairs_stand : (s : List ℕ) → Bytes s → (c : Cursor) (routes : ℕ) → routes ≤ most_train_routes → (pairs s routes c).cur.fault ≡ 0
    → (c.fault ≡ 0) × Stand s c.at (length (pairs_below (pairs s routes c).conflict most_pairs) ∷ pair_numbers (pairs_below (pairs s routes c).conflict most_pairs)) (pairs s routes c).cur.at
unfolding pairs pairs_from pair_count counted pair_turn a_pair no_pairs
pairs_stand s b c routes few =
    rw (named_all routes few) (λ e.
    let d : Cursor = code s c 0 most_conflicts in
    let r =
    (iter_keeps Kept (pair_turn s routes) d.value (record { cur = record { at = d.at; fault = d.fault; value = 0 }; last = no_pair; conflict = no_pairs })
    (length-replicate {A = ℕ} most_pairs 0, told_start s b routes few d _ refl (λ z. z))
    (λ i t l p. (listed_long t.conflict _ p.0, told_on s b routes few d i t p.0 p.1))).1 e in
    let k = code_stands s b c 0 most_conflicts r.before in
    (k.0, rw (all_below _ _ r.there r.behind, r.count) (stand_then s k.1 r.stand)))
  where
    -- after i turns
    Kept : ℕ → Pairs → Type 0
    Kept i t = (length t.conflict ≡ most_pairs) × (t.cur.fault ≡ 0 → Told s b routes few (code s c 0 most_conflicts) i t)
