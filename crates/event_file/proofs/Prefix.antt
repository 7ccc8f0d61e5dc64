-- An event, or a bad number, that is read in a prefix of a file is read alike in the whole; only 21, the end of the prefix, may change.
use Prim.Native.Nat.{ℕ, ◌<◌}
use mathlib.Core.Path.{◌≡◌, refl, ap}
use mathlib.Core.Bool.{true}
use mathlib.Core.List.{List, ◌++◌}
use mathlib.Core.Logic.{◌⊎◌, inl, inr}
use borrow.Author.Tests.{lt-ltb}
use lib.Dec.{ltb}
use lib.ListN.{length}
use Rattle.laws.specs.Choice.{when◌then◌else◌}
use Rattle.numbers.specs.Number.{Number}
use Rattle.numbers.specs.Number.{Value, Fault}
use Rattle.numbers.proofs.Prefix.{Kept, prefix_inside, number_kept}
use Rattle.event_file.specs.Next.{Next}
use Rattle.event_file.specs.Next.{Bad}
use Rattle.event_file.specs.Read.{with_second, with_first, with_kind, event_at}

-- what stands at a place of the prefix is 21, or what stands there in the whole
abbrev Same : Next → Next → Type 0
Same n m = ((place : ℕ) × (n ≡ Bad 21 place)) ⊎ (n ≡ m)

-- 21 in the second number is 21 of the event
second_same : (kind first : ℕ) (n m : Number) → Kept n m → Same (with_second kind first n) (with_second kind first m)
unfolding with_second
second_same kind first n m (inl e) = inl (e.0, rw e.1)
second_same kind first n m (inr e) = inr (ap (with_second kind first) e)

module _ (xs ys : List ℕ) where
  -- 21 in the first number, or in what follows it
  first_same : (kind : ℕ) (n m : Number) → Kept n m → Same (with_first xs kind n) (with_first (xs ++ ys) kind m)
  unfolding with_first
  first_same kind n m (inl e) = inl (e.0, rw e.1)
  first_same kind (Value v next) m (inr e) = rw (← e) (second_same kind v _ _ (number_kept xs ys next))
  first_same kind (Fault v place) m (inr e) = rw (← e) (inr refl)

  -- 21 in the kind, or in what follows it
  kind_same : (n m : Number) → Kept n m → Same (with_kind xs n) (with_kind (xs ++ ys) m)
  unfolding with_kind
  kind_same n m (inl e) = inl (e.0, rw e.1)
  kind_same (Value v next) m (inr e) = rw (← e) (first_same v _ _ (number_kept xs ys next))
  kind_same (Fault v place) m (inr e) = rw (← e) (inr refl)

  -- so an event that begins in a prefix is cut off by its end, or read alike in the whole
  pub event_same : (at : ℕ) → at < length xs → Same (event_at xs at) (event_at (xs ++ ys) at)
  unfolding event_at when◌then◌else◌
  event_same at h =
      let e : ltb at (length xs) ≡ true = lt-ltb at (length xs) h in
      rw (e, prefix_inside xs ys at e) (kind_same _ _ (number_kept xs ys at))
