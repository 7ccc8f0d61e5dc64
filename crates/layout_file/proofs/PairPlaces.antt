-- The pairs of a table of conflicts, place by place: those below a place, and all of them.
use Prim.Native.Nat.{ℕ, ◌+◌, ◌-◌, ◌*◌, ◌/◌, ◌%◌, ◌<◌, ◌≤◌}
use mathlib.Core.Path.{◌≡◌, sym, ap, ◌∙◌}
use mathlib.Core.List.{List, [], ◌∷◌}
use mathlib.Core.Logic.{◌⊎◌, inl, inr, ⊎_elim}
use native.Mathlib.Decide.{ℕ_discrete, dec_lt}
use native.Mathlib.Omega.{arith}
use borrow.Author.Tests.{lt-ltb, ltb-true, eq-eqb, eqb-true}
use lib.Dec.{eqb, ltb}
use lib.ListN.{get_or}
use Rattle.laws.specs.Choice.{when◌then◌else◌}
use Rattle.laws.specs.Tests.{◌and◌}
use Rattle.laws.specs.Tables.{join}
use Rattle.laws.proofs.Choice.{chosen, passed_over}
use Rattle.laws.proofs.Tests.{and_both, and_left, and_right, fails_from}
use Rattle.laws.proofs.Joins.{join_same, join_rest, join_rows}
use Rattle.track.specs.Sizes.{most_routes, most_pairs}
use Rattle.pairs.specs.declared.Pair.{Pair}
use Rattle.pairs.specs.Pairs.{place_of}
use Rattle.layout.specs.declared.Layout.{Layout}
use Rattle.layout.specs.Layout.{entry_of, conflict}
use Rattle.layout_file.specs.Written.{pair_at, pairs_of}

-- ---- one place

-- the pair whose place this is
abbrev pub pair_of_place : ℕ → Pair
pair_of_place p = record { first = p / most_routes; second = p % most_routes }

-- it, where it is smaller first and listed
unfoldable pub at_place : List ℕ → ℕ → List Pair
at_place m p = when ltb (p / most_routes) (p % most_routes) and eqb (get_or m p 0) 1 then pair_of_place p ∷ [] else []

-- the pairs at the places below k
unfoldable pub pairs_below : List ℕ → ℕ → List Pair
pairs_below m k = join k (at_place m)

module _ (m : List ℕ) (p : ℕ) where
  -- a pair that is listed
  pub place_listed : p / most_routes < p % most_routes → get_or m p 0 ≡ 1 → at_place m p ≡ pair_of_place p ∷ []
  unfolding at_place
  place_listed h e = chosen _ _ _ (and_both _ _ (lt-ltb _ _ h) (eq-eqb _ _ e))

  -- one that is not, or whose first is not the smaller
  pub place_empty : (p / most_routes < p % most_routes → get_or m p 0 ≡ 1 → ⊥) → at_place m p ≡ []
  unfolding at_place
  place_empty h = passed_over _ _ _ (fails_from _ (λ t. h (ltb-true _ _ (and_left _ _ t)) (eqb-true _ _ (and_right _ _ t))))

  -- which of the two it is
  pub data AtPlace : Type 0 where
    one_there : p / most_routes < p % most_routes → get_or m p 0 ≡ 1 → at_place m p ≡ pair_of_place p ∷ [] → AtPlace
    none_there : (p / most_routes < p % most_routes → get_or m p 0 ≡ 1 → ⊥) → at_place m p ≡ [] → AtPlace

  -- by whether the first is the smaller, and whether it is listed
  pub at_place_law : AtPlace
  at_place_law = by (dec_lt (p / most_routes) (p % most_routes)) (ℕ_discrete (get_or m p 0) 1)
    where
      by : Dec (p / most_routes < p % most_routes) → Dec (get_or m p 0 ≡ 1) → AtPlace
      by (yes h) (yes e) = one_there h e (place_listed h e)
      by (no h) e = none_there (λ x y. h x) (place_empty (λ x y. h x))
      by (yes h) (no e) = none_there (λ x y. e y) (place_empty (λ x y. e y))

-- two tables with the same at a place have the same pair there
pub place_same : (m k : List ℕ) (p : ℕ) → get_or m p 0 ≡ get_or k p 0 → at_place m p ≡ at_place k p
unfolding at_place
place_same m k p e = rw e

-- ---- all places

-- the first and the second route of a place
pub first_of : (r q : ℕ) → q < most_routes → (most_routes * r + q) / most_routes ≡ r
first_of r q h = omega arith

pub second_of : (r q : ℕ) → q < most_routes → (most_routes * r + q) % most_routes ≡ q
second_of r q h = omega arith

module _ (L : Layout) where
  -- the pair of two routes stands at their place
  pair_at_law : (r q : ℕ) → q < most_routes → at_place L.conflict (most_routes * r + q) ≡ pair_at L r q
  unfolding at_place pair_at conflict entry_of place_of
  pair_at_law r q h = rw (first_of r q h, second_of r q h)

  module _ (few : L.routes ≤ most_routes)
      (past : (r q : ℕ) → r < most_routes → q < most_routes → L.routes ≤ r → (entry_of L.conflict r q ≡ 0) × (entry_of L.conflict q r ≡ 0)) where
    -- a route that there is not is in no pair
    no_pair : (r q : ℕ) → r < most_routes → q < most_routes → (L.routes ≤ r) ⊎ (L.routes ≤ q) → at_place L.conflict (most_routes * r + q) ≡ []
    unfolding entry_of place_of
    no_pair r q x y c =
        place_empty L.conflict (most_routes * r + q) (λ h e.
        let z : get_or L.conflict (most_routes * r + q) 0 ≡ 0 = ⊎_elim (λ l. (past r q x y l).0) (λ l. (past q r y x l).1) c in
        omega arith)

    -- as many as there are routes, and no more
    routes_all : most_routes ≡ L.routes + (most_routes - L.routes)
    routes_all = omega arith

    -- the pairs whose first is r
    row_kind_of : (r : ℕ) → r < L.routes → join most_routes (λ q. at_place L.conflict (most_routes * r + q)) ≡ join L.routes (pair_at L r)
    row_kind_of r h =
        ap (λ k. join k (λ q. at_place L.conflict (most_routes * r + q))) routes_all
        ∙ join_rest (λ q. at_place L.conflict (most_routes * r + q)) L.routes (most_routes - L.routes) (λ q a b. no_pair r q (omega arith) (omega arith) (inr a))
        ∙ join_same L.routes _ _ (λ q l. pair_at_law r q (omega arith))

    -- the pairs of a layout are those of its table, in the order of their places
    pub pairs_by_place : pairs_of L ≡ pairs_below L.conflict most_pairs
    unfolding pairs_of pairs_below join
    pairs_by_place =
        sym (join_rows (at_place L.conflict) most_routes most_routes
        ∙ ap (λ k. join k row) routes_all
        ∙ join_rest row L.routes (most_routes - L.routes) (λ r a b. join_rest (λ q. at_place L.conflict (most_routes * r + q)) 0 most_routes (λ q x y. no_pair r q (omega arith) (omega arith) (inl a)))
        ∙ join_same L.routes _ _ row_kind_of)
      where
        -- a row of the table
        row : ℕ → List Pair
        row r = join most_routes (λ q. at_place L.conflict (most_routes * r + q))
