-- The number of pairs, a pair and the turns, put together from what was read; and a fault met before or in them, which stays.
use Prim.Native.Nat.{ℕ, ◌+◌, ◌<◌, ◌≤◌, min}
use mathlib.Core.Path.{◌≡◌, refl, sym, ap, subst, ◌∙◌}
use mathlib.Core.Bool.{true, false}
use mathlib.Core.List.{List}
use native.Mathlib.Numerals.{add-one}
use native.Mathlib.Omega.{arith}
use borrow.Author.Tests.{ltb-true, ltb-false}
use lib.Dec.{ltb}
use lib.ListN.{set}
use Rattle.std.specs.Prelude.{Ok}
use Rattle.laws.specs.Choice.{when◌then◌else◌}
use Rattle.laws.specs.Tables.{iter}
use Rattle.laws.proofs.Choice.{if_eq, if_ne, if_both}
use Rattle.numbers.specs.declared.Fault.{Fault}
use Rattle.numbers.specs.declared.Fault.TheVariants.{OutOfRange}
use Rattle.numbers.specs.Given.{number_of, detail_of}
use Rattle.numbers.proofs.Same.{not_none}
use Rattle.track.specs.Sizes.{most_train_routes, most_routes, most_pairs, most_conflicts}
use Rattle.fields.specs.declared.Cursor.{Cursor}
use Rattle.fields.specs.Fields.{failed, field, code, reference}
use Rattle.fields.specs.Reading.{Stands, Met, NumberRead}
use Rattle.fields.proofs.Laws.{met_end, code_met, reference_met, after_turns}
use Rattle.fields.proofs.Ranges.{reference_below}
use Rattle.pairs.specs.declared.Pair.{Pair}
use Rattle.pairs.specs.declared.PairRead.{PairRead}
use Rattle.pairs.specs.declared.Pairs.{Pairs}
use Rattle.pairs.specs.Pairs.{place_of, no_pairs, counted, pair_count, in_order, pair_of, ordered, a_pair, listed, pair_turn, no_pair, pairs_from, named, pairs}
use Rattle.pairs.specs.Reading.{CountRead, PairGiven, PairsRead}

-- ---- the number of pairs

module _ (s : List ℕ) (c : Cursor) where
  -- it is a number read as a code is
  pub count_given : {n at : ℕ} → NumberRead (Ok n) at (field s c 0 (most_conflicts + 1) 23) → CountRead (Ok n) at (pair_count s c)
  unfolding pair_count counted code
  count_given h = (record { none = h.0.none; place = h.0.place }, h.1)

  -- a fault in place of it
  pub count_none : {f : Fault} → Met (field s c 0 (most_conflicts + 1) 23) f → Met (pair_count s c).cur f
  unfolding pair_count counted code
  count_none h = record { number = h.number; place = h.place }

  -- the cursor behind it
  count_told : (d : Cursor) {n at : ℕ} → d.fault ≡ 0 → d.at ≡ at → n ≡ d.value → record { cur = record { at = at; fault = 0; value = 0 }; pairs = n } ≡ counted d
  unfolding counted
  count_told d p q e = rw (← q, e) (ap (λ (f : ℕ). record { cur = record { at = d.at; fault = f; value = 0 }; pairs = d.value }) (sym p))

  pub count_behind : {n at : ℕ} → CountRead (Ok n) at (pair_count s c) → record { cur = record { at = at; fault = 0; value = 0 }; pairs = n } ≡ pair_count s c
  unfolding pair_count counted
  count_behind h = count_told (code s c 0 most_conflicts) h.0.none h.0.place h.1

  -- the cursor at a fault that is met
  pub count_at_fault : {f : Fault} → c.fault ≡ 0 → Met (pair_count s c).cur f
      → record { cur = record { at = detail_of f; fault = number_of f; value = 0 }; pairs = 0 } ≡ pair_count s c
  unfolding pair_count counted code
  count_at_fault e h = ap counted (met_end s c 0 (most_conflicts + 1) 23 e (record { number = h.number; place = h.place }))

  -- a fault before
  pub count_met : {f : Fault} → Met c f → Met (pair_count s c).cur f
  unfolding code
  count_met h = count_none (code_met s c _ h 0 most_conflicts)

-- ---- a pair

module _ (s : List ℕ) (routes : ℕ) (c : Cursor) (last : Pair) where
  -- the cursors behind its two numbers
  abbrev pub first_read : Cursor
  first_read = reference s c routes

  abbrev pub second_read : Cursor
  second_read = reference s first_read routes

  module _ {f : Fault} where
    -- a fault in place of its second number, of its first, and before it
    pub pair_cut : Met second_read f → Met (a_pair s routes c last).cur f
    unfolding a_pair ordered
    pair_cut h =
        let e : second_read ≡ ordered last first_read second_read = if_ne _ _ _ _ _ (λ z. not_none f (sym h.number ∙ z)) refl in
        subst (λ (d : Cursor). Met d f) e h

    pub pair_cut1 : Met first_read f → Met (a_pair s routes c last).cur f
    pair_cut1 h = pair_cut (reference_met s first_read f h routes)

    pub pair_met : Met c f → Met (a_pair s routes c last).cur f
    pair_met h = pair_cut1 (reference_met s c f h routes)

  module _ {first second between at : ℕ} (a : NumberRead (Ok first) between first_read) (b : NumberRead (Ok second) at second_read) where
    -- its two numbers
    both_read : record { first = first; second = second } ≡ pair_of first_read second_read
    unfolding pair_of
    both_read = rw (a.1, b.1)

    -- it is in order
    pub pair_made : true ≡ in_order last (record { first = first; second = second })
        → PairGiven (Ok (record { first = first; second = second })) at (a_pair s routes c last)
    unfolding a_pair ordered when◌then◌else◌
    pair_made e =
        let t : in_order last (pair_of first_read second_read) ≡ true = ap (in_order last) (sym both_read) ∙ sym e in
        let d : second_read ≡ ordered last first_read second_read = if_eq _ _ _ _ _ b.0.none (rw t) in
        (subst (λ (d : Cursor). Stands d at) d b.0, both_read)

    -- it is not
    pub pair_bad : false ≡ in_order last (record { first = first; second = second }) → Met (a_pair s routes c last).cur (OutOfRange between)
    unfolding a_pair ordered failed when◌then◌else◌
    pair_bad e =
        let t : in_order last (pair_of first_read second_read) ≡ false = ap (in_order last) (sym both_read) ∙ sym e in
        let d : failed first_read.at 23 ≡ ordered last first_read second_read = if_eq _ _ _ _ _ b.0.none (rw t) in
        subst (λ (d : Cursor). Met d (OutOfRange between)) d (record { number = refl; place = a.0.place })

-- ---- where a pair stands in the table

-- no more routes are named than a layout has
pub named_few : (routes : ℕ) {r : ℕ} → r ≡ named routes → r ≤ most_train_routes
unfolding named
named_few routes e =
    rw e (if_both (λ r. r ≤ most_train_routes) (ltb routes most_train_routes) (λ t. omega (arith, ltb-true routes most_train_routes t)) (λ f. omega arith))

-- the smaller of their number and 48
named_is : (routes : ℕ) → min routes most_train_routes ≡ named routes
unfolding named
named_is routes =
    if_both (λ r. min routes most_train_routes ≡ r) (ltb routes most_train_routes) (λ t. omega (arith, ltb-true routes most_train_routes t))
    (λ f. omega (arith, ltb-false routes most_train_routes f))

pub few_is : (routes : ℕ) {few : ℕ} → few ≡ min routes most_train_routes → few ≡ named routes
few_is routes e = e ∙ named_is routes

-- the place of two routes below 48 lies in the table
pub place_inside : (i j : ℕ) {p : ℕ} → p ≡ place_of i j → i < most_routes → j < most_routes → p < most_pairs
unfolding place_of
place_inside i j e h k = omega arith

module _ (s : List ℕ) (routes : ℕ) (c : Cursor) (last : Pair) {p : Pair} (few : routes ≤ most_train_routes) (e : p ≡ (a_pair s routes c last).pair) where
  -- both routes of a pair that was read are of the table, since a reference is below the count
  first_below : p.first < most_routes
  unfolding a_pair pair_of
  first_below = rw e (reference_below s c routes most_train_routes refl few (omega arith))

  second_below : p.second < most_routes
  unfolding a_pair pair_of
  second_below = rw e (reference_below s (reference s c routes) routes most_train_routes refl few (omega arith))

  -- so its place lies in the table, and so does its mirror
  pub pair_place : {k : ℕ} → k ≡ place_of p.first p.second → k < most_pairs
  pair_place q = place_inside _ _ q first_below second_below

  pub pair_mirror : {k : ℕ} → k ≡ place_of p.second p.first → k < most_pairs
  pair_mirror q = place_inside _ _ q second_below first_below

-- ---- the pairs

module _ (s : List ℕ) (routes : ℕ) (c : Cursor) where
  -- what i turns read
  abbrev pub pairs_to : ℕ → Pairs
  pairs_to i = iter (pair_turn s (named routes)) i (record { cur = (pair_count s c).cur; last = no_pair; conflict = no_pairs })

  -- i pairs are read, the last before a place
  pub record PairsDone (count : ℕ) (last : Pair) (conflict : List ℕ) (at i : ℕ) : Type 0 where
    pub counted : count ≡ (pair_count s c).pairs
    pub stands : Stands (pairs_to i).cur at
    pub is_last : last ≡ (pairs_to i).last
    pub is_conflict : conflict ≡ (pairs_to i).conflict

  -- the count is read
  pub pairs_begin : {count at : ℕ} → CountRead (Ok count) at (pair_count s c) → PairsDone count (record { first = 0; second = 0 }) no_pairs at 0
  unfolding iter no_pair
  pairs_begin h = record { counted = h.1; stands = h.0; is_last = refl; is_conflict = refl }

  -- the pair that is read after i turns
  abbrev pub pair_there : ℕ → PairRead
  pair_there i = a_pair s (named routes) (pairs_to i).cur (pairs_to i).last

  -- one more
  pub pairs_next : {count at next place mirror : ℕ} {last p : Pair} {conflict : List ℕ} (i : ℕ) → PairsDone count last conflict at i
      → PairGiven (Ok p) next (pair_there i) → place ≡ place_of p.first p.second → mirror ≡ place_of p.second p.first
      → PairsDone count p (set (set conflict place 1) mirror 1) next (i + 1)
  unfolding iter pair_turn listed
  pairs_next i d h e f = rw add-one (record { counted = d.counted; stands = h.0; is_last = h.1; is_conflict = rw (d.is_conflict, e, f, h.1) })

  -- each turn keeps a fault
  pairs_kept : (f : Fault) (i : ℕ) (t : Pairs) → Met t.cur f → Met (pair_turn s (named routes) i t).cur f
  unfolding pair_turn
  pairs_kept f i t h = pair_met s (named routes) t.cur t.last h

  -- a fault met after i turns
  pairs_stop : (f : Fault) (i : ℕ) → i ≤ (pair_count s c).pairs → Met (pairs_to i).cur f → Met (pairs s routes c).cur f
  unfolding pairs pairs_from
  pairs_stop f i l h = after_turns (λ (t : Pairs). Met t.cur f) (pair_turn s (named routes)) _ (pairs_kept f) i (pair_count s c).pairs l h

  -- a fault in place of the count
  pub pairs_none : {f : Fault} → Met (pair_count s c).cur f → Met (pairs s routes c).cur f
  unfolding iter
  pairs_none h = pairs_stop _ 0 (omega arith) h

  -- a fault before
  pub pairs_met : {f : Fault} → Met c f → Met (pairs s routes c).cur f
  pairs_met h = pairs_none (count_met s c h)

  -- a fault in place of a pair
  pub pairs_cut : {count at : ℕ} {f : Fault} {last : Pair} {conflict : List ℕ} (i : ℕ) → PairsDone count last conflict at i → i < count
      → Met (pair_there i).cur f → Met (pairs s routes c).cur f
  unfolding iter pair_turn
  pairs_cut i d l h = pairs_stop _ (i + 1) (omega (arith, d.counted)) (rw add-one h)

  -- all are read
  pub pairs_end : {count at : ℕ} {last : Pair} {conflict : List ℕ} (i : ℕ) → PairsDone count last conflict at i → i ≤ count → count ≤ i
      → PairsRead (Ok (record { last = last; conflict = conflict })) at (pairs s routes c)
  unfolding pairs pairs_from
  pairs_end {count} {at} i d l h =
      let e : i ≡ (pair_count s c).pairs = omega (arith, d.counted) in (
        subst (λ j. Stands (pairs_to j).cur at) e d.stands,
        (d.is_last ∙ ap (λ j. (pairs_to j).last) e, d.is_conflict ∙ ap (λ j. (pairs_to j).conflict) e),
      )
