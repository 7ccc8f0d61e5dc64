-- No second result meets the contract of a public function. Each `Post` is the contract itself, as the function is proved to meet it.
use mathlib.Core.Path.{◌≡◌, ap, ◌∙◌}
use mathlib.Core.List.{List}
use Prim.Native.Nat.{ℕ}
use Rattle.laws.proofs.Only.{Determines, only}
use Rattle.fields.proofs.Unique.{DeterminesPlace}
use Rattle.fields.proofs.Laws.{begun, one_reading}
use Rattle.pairs.specs.declared.Pair.{Pair}
use Rattle.pairs.specs.declared.place.Pairs.{Pairs}
use Rattle.pairs.proofs.read_pairs.Reads as read_pairs
use Rattle.pairs.proofs.place_of.Reads as place_of
use Rattle.pairs.proofs.no_pairs.Reads as no_pairs
use Rattle.pairs.proofs.place.next_pairs.Reads as next_pairs

-- the place of two routes in the table
pub place_of_determined : Determines place_of.Post
place_of_determined κs a r q s = only

-- no pairs
pub no_pairs_determined : Determines no_pairs.Post
no_pairs_determined κs a r q s = only

-- the conflicts, with a cursor
pub read_pairs_determined : Determines read_pairs.Post
read_pairs_determined κs a r q s = only

-- the conflicts, from a place
same_pairs : {a b : Pairs} → a.last ≡ b.last → a.conflict ≡ b.conflict → a ≡ b
same_pairs {a} {b} n l = ap (λ (p : Pair). record { last = p; conflict = a.conflict }) n ∙ ap (λ (x : List ℕ). record { last = b.last; conflict = x }) l

pub next_pairs_determined : DeterminesPlace (λ κs s. s.1.0.now) next_pairs.Post
next_pairs_determined κs a r q s t p o =
    one_reading _ _ (λ (a b : Pairs) x y. same_pairs (only x.0 y.0) (only x.1 y.1)) r q (p _ (begun _)) (o _ (begun _))
