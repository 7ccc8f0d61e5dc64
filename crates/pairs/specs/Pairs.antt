-- The conflicts of the layout file (section 2).
use Rattle.std.specs.Prelude.{ℕ, ◌+◌, ◌*◌, Bool, List, eqb, ltb, set, replicate}
use Rattle.laws.specs.Choice.{when◌then◌else◌}
use Rattle.laws.specs.Tests.{◌and◌, ◌or◌}
use Rattle.laws.specs.Tables.{iter}
use Rattle.track.specs.Sizes.{most_train_routes, most_routes, most_pairs, most_conflicts}
use Rattle.fields.specs.declared.Cursor.{Cursor}
use Rattle.fields.specs.Fields.{failed, code, reference}
use Rattle.pairs.specs.declared.Count.{Count}
use Rattle.pairs.specs.declared.Pair.{Pair}
use Rattle.pairs.specs.declared.PairRead.{PairRead}
use Rattle.pairs.specs.declared.Pairs.{Pairs}

-- the place of the routes i and j in the table of conflicts
unfoldable pub place_of : ℕ → ℕ → ℕ
place_of i j = most_routes * i + j

-- no pairs
unfoldable pub no_pairs : List ℕ
no_pairs = replicate most_pairs 0

-- what was read, as a number of conflicts
unfoldable pub counted : Cursor → Count
counted d = record { cur = record { at = d.at; fault = d.fault; value = 0 }; pairs = d.value }

-- the number of conflicts, 0..1,128, else 23, unless a fault was met before
unfoldable pub pair_count : List ℕ → Cursor → Count
pair_count s c = counted (code s c 0 most_conflicts)

-- pairs ascend: p comes after q where its first route is larger, or is the same and its second is larger
unfoldable pub comes_after : Pair → Pair → Bool
comes_after p q = ltb q.first p.first or (eqb q.first p.first and ltb q.second p.second)

-- smaller first, and after the last pair
unfoldable pub in_order : Pair → Pair → Bool
in_order last p = ltb p.first p.second and comes_after p last

-- the two numbers of a pair as they were read
unfoldable pub pair_of : Cursor → Cursor → Pair
pair_of a b = record { first = a.value; second = b.value }

-- a pair's second number b, whose first is a: 23 at it, after 24, where the pair is out of order
unfoldable pub ordered : Pair → Cursor → Cursor → Cursor
ordered last a b = when eqb b.fault 0 then (when in_order last (pair_of a b) then b else failed a.at 23) else b

-- a pair, after the last one
unfoldable pub a_pair : List ℕ → ℕ → Cursor → Pair → PairRead
a_pair s routes c last =
    let a : Cursor = reference s c routes in
    let b : Cursor = reference s a routes in
    record { cur = ordered last a b; pair = pair_of a b }

-- the table with a pair more: 1 at both its places
unfoldable pub listed : List ℕ → Pair → List ℕ
listed conflict p = set (set conflict (place_of p.first p.second) 1) (place_of p.second p.first) 1

-- one pair more
unfoldable pub pair_turn : List ℕ → ℕ → ℕ → Pairs → Pairs
pair_turn s routes i t =
    let p : PairRead = a_pair s routes t.cur t.last in
    record { cur = p.cur; last = p.pair; conflict = listed t.conflict p.pair }

-- before the first pair: any pair that is smaller first comes after 0, 0
unfoldable pub no_pair : Pair
no_pair = record { first = 0; second = 0 }

-- as many pairs as the count says
unfoldable pub pairs_from : List ℕ → ℕ → Count → Pairs
pairs_from s routes n = iter (pair_turn s routes) n.pairs (record { cur = n.cur; last = no_pair; conflict = no_pairs })

-- the routes that a pair may name: no more than 48, the most that a layout has
unfoldable pub named : ℕ → ℕ
named routes = when ltb routes most_train_routes then routes else most_train_routes

-- conflicts, 0..1,128; pairs of routes, smaller first, pairs strictly ascending
unfoldable pub pairs : List ℕ → ℕ → Cursor → Pairs
pairs s routes c = pairs_from s (named routes) (pair_count s c)
