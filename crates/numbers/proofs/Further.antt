-- What stands at a place of a string stands as many places further on as other bytes are put before the string.
use Prim.Native.Nat.{ℕ, zero, suc, ◌+◌, ◌-◌, ◌*◌}
use mathlib.Core.Path.{◌≡◌, refl, sym, ap, ◌∙◌}
use mathlib.Core.Bool.{Bool, true, false}
use mathlib.Core.List.{List, ◌++◌}
use native.Mathlib.Omega.{arith}
use borrow.Author.Tests.{lt-ltb, le-ltb, ltb-true, ltb-false}
use lib.Dec.{eqb, ltb}
use lib.ListN.{length, get_or, length-append}
use lib.Seq.{get_or-append-add}
use Rattle.laws.specs.Choice.{when◌then◌else◌}
use Rattle.numbers.specs.Number.{Number}
use Rattle.numbers.specs.Number.{Value, Fault}
use Rattle.numbers.specs.Number.{max_groups, largest, with_group, groups_at, at_most, number_at}

-- so many places further on
abbrev pub further : ℕ → Number → Number
further d (Value value next) = Value value (d + next)
further d (Fault number at) = Fault number (d + at)

-- of two numbers the one that is chosen is moved
choice_further : (d : ℕ) (t : Bool) (n m : Number) → when t then further d n else further d m ≡ further d (when t then n else m)
unfolding when◌then◌else◌
choice_further d true n m = refl
choice_further d false n m = refl

-- a group is put below the others before the move or after it, with the same result
with_group_further : (d first low : ℕ) (n : Number) → with_group (d + first) low (further d n) ≡ further d (with_group first low n)
unfolding with_group
with_group_further d first low (Value value next) = choice_further d (eqb value 0) (Fault 22 first) (Value (low + 128 * value) next)
with_group_further d first low (Fault number at) = refl

-- and so is the limit asked
most_further : (d first limit : ℕ) (n : Number) → at_most (d + first) limit (further d n) ≡ further d (at_most first limit n)
unfolding at_most
most_further d first limit (Value value next) = choice_further d (ltb limit value) (Fault 22 first) (Value value next)
most_further d first limit (Fault number at) = refl

-- by the two tests of a byte
tests_further : (d first at b : ℕ) (t u : Bool) (n : Number)
    → when t then (when u then Value b (d + at + 1) else with_group (d + first) (b - 128) (further d n)) else Fault 21 (d + first)
    ≡ further d (when t then (when u then Value b (at + 1) else with_group first (b - 128) n) else Fault 21 first)
unfolding when◌then◌else◌
tests_further d first at b true true n = let e : d + at + 1 ≡ d + (at + 1) = omega arith in ap (Value b) e
tests_further d first at b true false n = with_group_further d first (b - 128) n
tests_further d first at b false u n = refl

module _ (front s : List ℕ) where
  -- a place is inside the string just where, moved, it is inside the longer one
  pub inside_further : (at : ℕ) → ltb (length front + at) (length (front ++ s)) ≡ ltb at (length s)
  inside_further at = by_test (ltb at (length s)) refl
    where
      by_test : (t : Bool) → ltb at (length s) ≡ t → ltb (length front + at) (length (front ++ s)) ≡ ltb at (length s)
      by_test true e = lt-ltb (length front + at) (length (front ++ s)) (omega (arith, length-append front s, ltb-true at (length s) e)) ∙ sym e
      by_test false e = le-ltb (length front + at) (length (front ++ s)) (omega (arith, length-append front s, ltb-false at (length s) e)) ∙ sym e

  -- a byte and the groups after it: the same tests, the same byte
  groups_more_further : (k first at : ℕ)
      → groups_at k (front ++ s) (length front + first) (length front + at + 1) ≡ further (length front) (groups_at k s first (at + 1))
      → groups_at (suc k) (front ++ s) (length front + first) (length front + at) ≡ further (length front) (groups_at (suc k) s first at)
  unfolding groups_at
  groups_more_further k first at rest =
      rw (inside_further at, get_or-append-add front s at 0, rest)
      (tests_further (length front) first at (get_or s at 0) (ltb at (length s)) (ltb (get_or s at 0) 128) (groups_at k s first (at + 1)))

  -- by the bytes that a number may still take
  groups_further : (k first at : ℕ) → groups_at k (front ++ s) (length front + first) (length front + at) ≡ further (length front) (groups_at k s first at)
  unfolding groups_at
  groups_further zero first at = refl
  groups_further (suc k) first at =
      let e : length front + at + 1 ≡ length front + (at + 1) = omega arith in
      groups_more_further k first at (ap (groups_at k (front ++ s) (length front + first)) e ∙ groups_further k first (at + 1))

  -- a number, of all its groups
  pub number_further : (at : ℕ) → number_at (front ++ s) (length front + at) ≡ further (length front) (number_at s at)
  unfolding number_at
  number_further at =
      ap (at_most (length front + at) largest) (groups_further max_groups at at) ∙ most_further (length front) at largest (groups_at max_groups s at at)
