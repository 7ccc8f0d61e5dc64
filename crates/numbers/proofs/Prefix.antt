-- A number, or a bad one, that is read in a prefix of a string is read alike in the whole; only 21, the end of the prefix, may change.
use Prim.Native.Nat.{ℕ, zero, suc, ◌+◌, ◌-◌}
use mathlib.Core.Path.{◌≡◌, refl, ap}
use mathlib.Core.Bool.{Bool, true, false}
use mathlib.Core.List.{List, ◌++◌}
use mathlib.Core.Logic.{◌⊎◌, inl, inr}
use native.Mathlib.Omega.{arith}
use borrow.Author.Tests.{lt-ltb, ltb-true}
use lib.Dec.{ltb}
use lib.ListN.{length, get_or, length-append, get_or-append}
use Rattle.laws.specs.Choice.{when◌then◌else◌}
use Rattle.numbers.specs.Number.{Number}
use Rattle.numbers.specs.Number.{Value, Fault}
use Rattle.numbers.specs.Number.{max_groups, largest, with_group, groups_at, at_most, number_at}

-- what is read in the prefix is 21, or what is read in the whole
abbrev pub Kept : Number → Number → Type 0
Kept n m = ((place : ℕ) × (n ≡ Fault 21 place)) ⊎ (n ≡ m)

-- 21 in the groups above is 21 of the whole number
with_group_kept : (first low : ℕ) (n m : Number) → Kept n m → Kept (with_group first low n) (with_group first low m)
unfolding with_group
with_group_kept first low n m (inl e) = inl (e.0, rw e.1)
with_group_kept first low n m (inr e) = inr (ap (with_group first low) e)

-- the limit leaves 21 as it is
most_kept : (first limit : ℕ) (n m : Number) → Kept n m → Kept (at_most first limit n) (at_most first limit m)
unfolding at_most
most_kept first limit n m (inl e) = inl (e.0, rw e.1)
most_kept first limit n m (inr e) = inr (ap (at_most first limit) e)

module _ (xs ys : List ℕ) where
  -- a place inside the prefix is one inside the whole
  pub prefix_inside : (at : ℕ) → ltb at (length xs) ≡ true → ltb at (length (xs ++ ys)) ≡ true
  prefix_inside at e = lt-ltb at _ (omega (arith, length-append xs ys, ltb-true at (length xs) e))

  -- and has the same byte there
  same_byte : (at : ℕ) → ltb at (length xs) ≡ true → get_or (xs ++ ys) at 0 ≡ get_or xs at 0
  same_byte at e = get_or-append xs ys 0 at (ltb-true at (length xs) e)

  module _ (first : ℕ) where
    -- by the byte there
    by_byte : (k at b : ℕ) (t : Bool) → Kept (groups_at k xs first (at + 1)) (groups_at k (xs ++ ys) first (at + 1))
        → Kept (when t then Value b (at + 1) else with_group first (b - 128) (groups_at k xs first (at + 1)))
        (when t then Value b (at + 1) else with_group first (b - 128) (groups_at k (xs ++ ys) first (at + 1)))
    unfolding when◌then◌else◌
    by_byte k at b true rest = inr refl
    by_byte k at b false rest = with_group_kept first (b - 128) _ _ rest

    -- inside the prefix, or at its end
    by_place : (k at : ℕ) (t : Bool) → ltb at (length xs) ≡ t → Kept (groups_at k xs first (at + 1)) (groups_at k (xs ++ ys) first (at + 1))
        → Kept (groups_at (suc k) xs first at) (groups_at (suc k) (xs ++ ys) first at)
    unfolding groups_at when◌then◌else◌
    by_place k at true e rest = rw (e, prefix_inside at e, same_byte at e) (by_byte k at (get_or xs at 0) (ltb (get_or xs at 0) 128) rest)
    by_place k at false e rest = rw e (inl (first, refl))

    -- by the bytes that a number may still take
    groups_kept : (k at : ℕ) → Kept (groups_at k xs first at) (groups_at k (xs ++ ys) first at)
    unfolding groups_at
    groups_kept zero at = inr refl
    groups_kept (suc k) at = by_place k at (ltb at (length xs)) refl (groups_kept k (at + 1))

  -- a number, of all its groups
  pub number_kept : (at : ℕ) → Kept (number_at xs at) (number_at (xs ++ ys) at)
  unfolding number_at
  number_kept at = most_kept at largest _ _ (groups_kept at max_groups at)
