-- The conflicts of a file the other way: where the pairs of a table stand, the table is read.
use Prim.Native.Nat.{ℕ, zero, suc, ◌+◌, ◌-◌, ◌*◌, ◌/◌, ◌%◌, ◌<◌, ◌≤◌}
use mathlib.Core.Path.{◌≡◌, sym, ap, subst, ◌∙◌}
use mathlib.Core.Bool.{true}
use mathlib.Core.List.{List, [], ◌∷◌, ◌++◌, flat_map, append-nil}
use native.Mathlib.Omega.{arith}
use native.Mathlib.Decide.{ℕ_discrete, dec_lt}
use borrow.Author.Tests.{lt-ltb, eq-eqb}
use native.Mathlib.Numerals.{add-one}
use lib.Dec.{eqb, ltb}
use lib.ListN.{length, get_or, length-append, length-replicate}
use lib.Seq.{ext_get_or}
use Rattle.laws.specs.Tests.{◌and◌, ◌or◌}
use Rattle.laws.specs.Tables.{join, iter}
use Rattle.laws.proofs.Choice.{chosen}
use Rattle.laws.proofs.Tests.{and_both, or_left, or_right}
use Rattle.laws.proofs.Arrays.{nothing_at}
use Rattle.track.specs.Sizes.{most_train_routes, most_routes, most_pairs, most_conflicts}
use Rattle.fields.specs.declared.Cursor.{Cursor}
use Rattle.fields.specs.Fields.{code, reference}
use Rattle.pairs.specs.declared.Pair.{Pair}
use Rattle.pairs.specs.declared.Pairs.{Pairs}
use Rattle.pairs.specs.Pairs.{place_of, no_pairs, counted, pair_count, comes_after, in_order, pair_of, ordered, a_pair, listed, pair_turn, no_pair, pairs_from, pairs}
use Rattle.layout_file.specs.Written.{pair_numbers}
use Rattle.layout_file.proofs.Stands.{Stand, stand_here, stand_first, stand_rest}
use Rattle.layout_file.proofs.Fields.{Clear, code_gives, reference_gives}
use Rattle.layout_file.proofs.PairPlaces.{pair_of_place, at_place, pairs_below, AtPlace, one_there, none_there, at_place_law}
use Rattle.layout_file.proofs.Pairs.{placed, numbers_append, listed_own, listed_mirror, listed_other, listed_long, named_all}

-- a pair at a later place comes after
later_after : (p last : Pair) → p.second < most_routes → last.second < most_routes → placed last < placed p → comes_after p last ≡ true
unfolding comes_after place_of
later_after p last h l e = by (dec_lt last.first p.first)
  where
    by : Dec (last.first < p.first) → ltb last.first p.first or (eqb last.first p.first and ltb last.second p.second) ≡ true
    by (yes x) = or_left _ _ (lt-ltb _ _ x)
    by (no x) = or_right _ _ (and_both _ _ (eq-eqb last.first p.first (omega arith)) (lt-ltb last.second p.second (omega arith)))

-- a pair in order is read as it stands
in_order_law : (last : Pair) (a b : Cursor) → b.fault ≡ 0 → in_order last (pair_of a b) ≡ true → ordered last a b ≡ b
unfolding ordered
in_order_law last a b e t = chosen _ _ _ (eq-eqb _ _ e) ∙ chosen _ _ _ t

-- a table of conflicts: 0 or 1, the same both ways, none of a route with itself, and none of a route that there is not
pub record Mirrored (m : List ℕ) (routes : ℕ) : Type 0 where
  pub long : length m ≡ most_pairs
  pub most : (i j : ℕ) → i < most_routes → j < most_routes → get_or m (place_of i j) 0 ≤ 1
  pub same : (i j : ℕ) → i < most_routes → j < most_routes → get_or m (place_of i j) 0 ≡ get_or m (place_of j i) 0
  pub own : (i : ℕ) → i < most_routes → get_or m (place_of i i) 0 ≡ 0
  pub there : (i j : ℕ) → i < most_routes → j < most_routes → get_or m (place_of i j) 0 ≡ 1 → j < routes

module _ (s : List ℕ) (m : List ℕ) (routes : ℕ) (few : routes ≤ most_train_routes) (mirrored : Mirrored m routes) where
  -- the pairs below place k are read: the table read so far has them both ways, and nothing else
  record Made (k at : ℕ) (t : Pairs) : Type 0 where
    clear : Clear t.cur at
    inside : t.last.second < most_routes
    before : placed t.last ≤ k - 1
    long : length t.conflict ≡ most_pairs
    done : (i j : ℕ) → i < j → j < most_routes → place_of i j < k
        → (get_or t.conflict (place_of i j) 0 ≡ get_or m (place_of i j) 0) × (get_or t.conflict (place_of j i) 0 ≡ get_or m (place_of j i) 0)
    rest : (i j : ℕ) → i < j → j < most_routes → k ≤ place_of i j → (get_or t.conflict (place_of i j) 0 ≡ 0) × (get_or t.conflict (place_of j i) 0 ≡ 0)
    own : (i : ℕ) → i < most_routes → get_or t.conflict (place_of i i) 0 ≡ 0

  -- before the first
  made_start : (c : Cursor) (at : ℕ) → Clear c at → Made 0 at (record { cur = c; last = no_pair; conflict = no_pairs })
  unfolding no_pair no_pairs place_of
  made_start c at k = record {
    clear = k;
    inside = omega arith;
    before = omega arith;
    long = length-replicate {A = ℕ} most_pairs 0;
    done = λ i j l h u. absurd (omega arith);
    rest = λ i j l h u. (nothing_at {A = ℕ} most_pairs 0 (place_of i j), nothing_at {A = ℕ} most_pairs 0 (place_of j i));
    own = λ i h. nothing_at {A = ℕ} most_pairs 0 (place_of i i);
  }

  -- past a place that holds no pair: the table wanted has nothing there either
  made_past : (k at : ℕ) (t : Pairs) → k < most_pairs → (k / most_routes < k % most_routes → get_or m k 0 ≡ 1 → ⊥) → Made k at t → Made (suc k) at t
  unfolding place_of
  made_past k at t h none d = record {
    clear = d.clear;
    inside = d.inside;
    before = omega (arith, d.before);
    long = d.long;
    done = λ i j l u v. by i j l u v (ℕ_discrete (most_routes * i + j) k);
    rest = λ i j l u v. d.rest i j l u (omega arith);
    own = d.own;
  }
    where
      by : (i j : ℕ) → i < j → j < most_routes → place_of i j < suc k → Dec (place_of i j ≡ k)
          → (get_or t.conflict (place_of i j) 0 ≡ get_or m (place_of i j) 0) × (get_or t.conflict (place_of j i) 0 ≡ get_or m (place_of j i) 0)
      by i j l u v (no w) = d.done i j l u (let w' : most_routes * i + j ≡ k → ⊥ = w in omega arith)
      by i j l u v (yes w) =
          let r = d.rest i j l u (let w' : most_routes * i + j ≡ k = w in omega arith) in
          let z : get_or m (place_of i j) 0 ≡ 0 =
          let one : get_or m (place_of i j) 0 ≡ 1 → ⊥ = λ e. none (let w' : most_routes * i + j ≡ k = w in omega arith) (ap (λ p. get_or m p 0) (sym w) ∙ e) in
          omega (arith, mirrored.most i j (omega arith) u) in
          (r.0 ∙ sym z, r.1 ∙ sym (sym (mirrored.same i j (omega arith) u) ∙ z))

  -- a pair that is listed at place k, both ways, where the table wanted has it
  made_listed : (k at next : ℕ) (t : Pairs) (c : Cursor) (p : Pair) → p.first < p.second → p.second < most_routes → placed p ≡ k → get_or m k 0 ≡ 1 → Clear c next
      → Made k at t → Made (suc k) next (record { cur = c; last = p; conflict = listed t.conflict p })
  unfolding place_of
  made_listed k at next t c p smaller inside here one clear d = record {
    clear = clear;
    inside = inside;
    before = omega arith;
    long = listed_long t.conflict p d.long;
    done = λ i j l u v. by i j l u v (ℕ_discrete (place_of i j) (placed p));
    rest = λ i j l u v.
        let r = d.rest i j l u (omega arith) in
        let o = other i j l u (λ z. let z' : most_routes * i + j ≡ most_routes * p.first + p.second = z in omega arith) in
        (o.0 ∙ r.0, o.1 ∙ r.1);
    own = λ i u.
        listed_other t.conflict d.long p smaller inside (place_of i i)
        (λ z. let z' : most_routes * i + i ≡ most_routes * p.first + p.second = z in omega arith)
        (λ z. let z' : most_routes * i + i ≡ most_routes * p.second + p.first = z in omega arith) ∙ d.own i u;
  }
    where
      -- at any other two routes nothing has changed
      other : (i j : ℕ) → i < j → j < most_routes → (place_of i j ≡ placed p → ⊥)
          → (get_or (listed t.conflict p) (place_of i j) 0 ≡ get_or t.conflict (place_of i j) 0) × (get_or (listed t.conflict p) (place_of j i) 0 ≡ get_or t.conflict (place_of j i) 0)
      other i j l u w =
          let w' : most_routes * i + j ≡ most_routes * p.first + p.second → ⊥ = w in (
            listed_other t.conflict d.long p smaller inside (place_of i j) w (λ z. let z' : most_routes * i + j ≡ most_routes * p.second + p.first = z in omega arith),
            listed_other t.conflict d.long p smaller inside (place_of j i) (λ z. let z' : most_routes * j + i ≡ most_routes * p.first + p.second = z in omega arith)
                (λ z. let z' : most_routes * j + i ≡ most_routes * p.second + p.first = z in w' (omega arith)),
          )

      by : (i j : ℕ) → i < j → j < most_routes → place_of i j < suc k → Dec (place_of i j ≡ placed p)
          → (get_or (listed t.conflict p) (place_of i j) 0 ≡ get_or m (place_of i j) 0) × (get_or (listed t.conflict p) (place_of j i) 0 ≡ get_or m (place_of j i) 0)
      by i j l u v (no w) =
          let r = d.done i j l u (let w' : most_routes * i + j ≡ most_routes * p.first + p.second → ⊥ = w in omega arith) in
          let o = other i j l u w in
          (o.0 ∙ r.0, o.1 ∙ r.1)
      by i j l u v (yes w) =
          let w' : most_routes * i + j ≡ most_routes * p.first + p.second = w in
          let e : i ≡ p.first = omega arith in
          let f : j ≡ p.second = omega arith in
          let there : get_or m (placed p) 0 ≡ 1 = rw here one in
          rw (e, f) (
            listed_own t.conflict d.long p smaller inside ∙ sym there,
            listed_mirror t.conflict d.long p smaller inside ∙ sym (sym (mirrored.same p.first p.second (omega arith) inside) ∙ there),
          )

  -- the pair at a place that holds one is read, and listed
  made_on : (k at next i : ℕ) (t : Pairs) → k < most_pairs → k / most_routes < k % most_routes → get_or m k 0 ≡ 1 → Stand s at (k / most_routes ∷ k % most_routes ∷ []) next
      → Made k at t → Made (suc k) next (pair_turn s routes i t)
  unfolding pair_turn a_pair place_of pair_of in_order
  made_on k at next i t h smaller one p d =
      let here : most_routes * (k / most_routes) + k % most_routes ≡ k = omega arith in
      let there : k % most_routes < routes = mirrored.there (k / most_routes) (k % most_routes) (omega arith) (omega arith) (ap (λ j. get_or m j 0) here ∙ one) in
      let x = reference_gives s t.cur routes at (k / most_routes) _ d.clear (stand_first s at next (k / most_routes ∷ []) (k % most_routes ∷ []) p) (omega arith) (omega arith) in
      let y = reference_gives s (reference s t.cur routes) routes _ (k % most_routes) next x.clear (stand_rest s at next (k / most_routes ∷ []) (k % most_routes ∷ []) p) there (omega arith) in
      let a : Cursor = reference s t.cur routes in
      let b : Cursor = reference s a routes in
      let q : Pair = pair_of a b in
      let first : q.first ≡ k / most_routes = x.value in
      let second : q.second ≡ k % most_routes = y.value in
      let less : q.first < q.second = omega arith in
      let inside : q.second < most_routes = omega arith in
      let own : placed q ≡ k = omega arith in
      let after : comes_after q t.last ≡ true = later_after q t.last inside d.inside (omega (arith, d.before)) in
      made_listed k at next t (ordered t.last a b) q less inside own one (rw (in_order_law t.last a b y.clear.none (and_both _ _ (lt-ltb _ _ less) after)) y.clear) d

  -- where the pairs below k stand, they are read
  made_below : (k at next : ℕ) (t : Pairs) → k ≤ most_pairs → Stand s at (pair_numbers (pairs_below m k)) next → Made 0 at t
      → Made k next (iter (pair_turn s routes) (length (pairs_below m k)) t)
  unfolding pairs_below join iter pair_numbers flat_map
  made_below zero at next t h p d = subst (λ n. Made 0 n t) (sym (stand_here s at next p)) d
  made_below (suc k) at next t h p d = by (at_place_law m k) p (λ n q. made_below k at n t (omega arith) q d)
    where
      -- by whether the next place holds a pair
      by : AtPlace m k → Stand s at (pair_numbers (pairs_below m k ++ at_place m k)) next
          → ((n : ℕ) → Stand s at (pair_numbers (pairs_below m k)) n → Made k n (iter (pair_turn s routes) (length (pairs_below m k)) t))
          → Made (suc k) next (iter (pair_turn s routes) (length (pairs_below m k ++ at_place m k)) t)
      by (none_there none e) = rw (e, append-nil (pairs_below m k)) (λ q before. made_past k next _ h none (before next q))
      by (one_there less one e) =
          rw (e, numbers_append (pairs_below m k) (pair_of_place k ∷ []), length-append (pairs_below m k) (pair_of_place k ∷ []), add-one) (λ q before.
          made_on k _ next (length (pairs_below m k)) _ h less one (stand_rest s at next (pair_numbers (pairs_below m k)) (k / most_routes ∷ k % most_routes ∷ []) q)
          (before _ (stand_first s at next (pair_numbers (pairs_below m k)) (k / most_routes ∷ k % most_routes ∷ []) q)))

  -- once all places are passed the table read is the table wanted: entry by entry, by which of the two routes is the smaller
  made_all : (at : ℕ) (t : Pairs) → Made most_pairs at t → t.conflict ≡ m
  unfolding place_of
  made_all at t d = ext_get_or 0 t.conflict m (d.long ∙ sym mirrored.long) (λ p l. entry p (omega (arith, d.long)))
    where
      entry : (p : ℕ) → p < most_pairs → get_or t.conflict p 0 ≡ get_or m p 0
      entry p l =
          subst (λ k. get_or t.conflict k 0 ≡ get_or m k 0) (let e : most_routes * (p / most_routes) + p % most_routes ≡ p = omega arith in e)
          (two (p / most_routes) (p % most_routes) (omega arith) (omega arith) (dec_lt (p / most_routes) (p % most_routes)) (dec_lt (p % most_routes) (p / most_routes)))
        where
          two : (i j : ℕ) → i < most_routes → j < most_routes → Dec (i < j) → Dec (j < i) → get_or t.conflict (place_of i j) 0 ≡ get_or m (place_of i j) 0
          two i j x y (yes l) q = (d.done i j l y (omega arith)).0
          two i j x y (no l) (yes q) = (d.done j i q x (omega arith)).1
          two i j x y (no l) (no q) = let e : i ≡ j = omega arith in rw e (d.own j y ∙ sym (mirrored.own j y))

  -- all pairs
  pub pairs_give : length (pairs_below m most_pairs) ≤ most_conflicts → (c : Cursor) (at next : ℕ) → Clear c at → Stand s at (length (pairs_below m most_pairs) ∷ pair_numbers (pairs_below m most_pairs)) next
      → Clear (pairs s routes c).cur next × ((pairs s routes c).conflict ≡ m)
  unfolding pairs pairs_from pair_count counted
  pairs_give most c at next k p =
      let n : ℕ = length (pairs_below m most_pairs) in
      let g = code_gives s c 0 most_conflicts at n _ k (stand_first s at next (n ∷ []) (pair_numbers (pairs_below m most_pairs)) p) (omega arith) most (omega arith) in
      let d : Cursor = code s c 0 most_conflicts in
      let r =
      made_below most_pairs _ next (record { cur = record { at = d.at; fault = d.fault; value = 0 }; last = no_pair; conflict = no_pairs }) (omega arith)
      (stand_rest s at next (n ∷ []) (pair_numbers (pairs_below m most_pairs)) p) (made_start _ _ (record { none = g.clear.none; here = g.clear.here })) in
      rw (named_all routes few, g.value) (r.clear, made_all next _ r)
