-- The cases of the number form, each from the facts that choose it.
use Prim.Native.Nat.{ℕ, zero, suc, ◌+◌, ◌-◌, ◌*◌, ◌<◌, ◌≤◌}
use mathlib.Core.Path.{◌≡◌, refl, sym, ap}
use mathlib.Core.List.{List}
use native.Mathlib.Numerals.{sub-one}
use native.Mathlib.Omega.{arith}
use lib.ListN.{length, get_or}
use borrow.Author.Rules.{rules}
use Rattle.laws.proofs.Choice.{choices}
use Rattle.numbers.specs.Number.{Number}
use Rattle.numbers.specs.Number.{Value, Fault}
use Rattle.numbers.specs.Number.{with_group, groups_at, at_most, number_at, largest, max_groups, number_told}

module _ (first low : ℕ) (n : Number) where
  -- the groups after a group are 0
  pub with_group_zero : {v next : ℕ} → n ≡ Value v next → v ≡ 0 → Fault 22 first ≡ with_group first low n
  unfolding with_group
  with_group_zero e z = rw e (search choices)

  -- the groups after a group are a number other than 0
  pub with_group_value : {v next : ℕ} → n ≡ Value v next → (v ≡ 0 → ⊥) → Value (low + 128 * v) next ≡ with_group first low n
  unfolding with_group
  with_group_value e z = rw e (search choices)

  -- the groups after a group have a fault
  pub with_group_fault : {m at : ℕ} → n ≡ Fault m at → Fault m at ≡ with_group first low n
  unfolding with_group
  with_group_fault e = rw e

module _ (first limit : ℕ) (n : Number) where
  -- a number above the limit
  pub most_over : {v next : ℕ} → n ≡ Value v next → limit < v → Fault 22 first ≡ at_most first limit n
  unfolding at_most
  most_over e l = rw e (search choices)

  -- a number up to the limit
  pub most_within : {v next : ℕ} → n ≡ Value v next → v ≤ limit → Value v next ≡ at_most first limit n
  unfolding at_most
  most_within e l = rw e (search choices)

  -- a fault stays
  pub most_fault : {m at : ℕ} → n ≡ Fault m at → Fault m at ≡ at_most first limit n
  unfolding at_most
  most_fault e = rw e

module _ (s : List ℕ) (first at : ℕ) where
  -- no more bytes may be taken
  pub groups_none : (k : ℕ) → k ≡ 0 → Fault 22 first ≡ groups_at k s first at
  unfolding groups_at
  groups_none k e = rw e

  -- the string ends
  pub groups_end : (k : ℕ) → (k ≡ 0 → ⊥) → length s ≤ at → Fault 21 first ≡ groups_at k s first at
  unfolding groups_at
  groups_end zero h l = absurd (h refl)
  groups_end (suc k) h l = search choices

  -- a last byte
  pub groups_last : (k byte : ℕ) → (k ≡ 0 → ⊥) → at < length s → byte ≡ get_or s at 0 → get_or s at 0 < 128
      → Value byte (at + 1) ≡ groups_at k s first at
  unfolding groups_at
  groups_last zero byte h l e b = absurd (h refl)
  groups_last (suc k) byte h l e b = rw e (search choices)

  -- a byte that is not the last
  pub groups_more : (k low : ℕ) (rest n : Number) → (k ≡ 0 → ⊥) → at < length s → 128 ≤ get_or s at 0 → low ≡ get_or s at 0 - 128
      → rest ≡ groups_at (k - 1) s first (at + 1) → n ≡ with_group first low rest → n ≡ groups_at k s first at
  unfolding groups_at
  groups_more zero low rest n h l b e f g = absurd (h refl)
  groups_more (suc k) low rest n h l b e f g = rw (g, e, f, sub-one) (search choices)

  module _ (k : ℕ) (h : k ≡ 0 → ⊥) (l : at < length s) (b : 128 ≤ get_or s at 0) where
    -- the groups after a group have a fault
    pub after_fault : {m place : ℕ} → Fault m place ≡ groups_at (k - 1) s first (at + 1) → Fault m place ≡ groups_at k s first at
    after_fault e = groups_more k _ _ _ h l b refl e (with_group_fault first _ _ refl)

    -- they are 0
    pub after_zero : {v next : ℕ} → Value v next ≡ groups_at (k - 1) s first (at + 1) → v ≡ 0 → Fault 22 first ≡ groups_at k s first at
    after_zero e z = groups_more k _ _ _ h l b refl e (with_group_zero first _ _ refl z)

    -- they are a number other than 0
    pub after_value : {v next : ℕ} (low : ℕ) → low ≡ get_or s at 0 - 128 → Value v next ≡ groups_at (k - 1) s first (at + 1) → (v ≡ 0 → ⊥)
        → Value (low + 128 * v) next ≡ groups_at k s first at
    after_value low f e z = groups_more k low _ _ h l b f e (with_group_value first _ _ refl z)

-- ---- what stands at a place

module _ (s : List ℕ) (at : ℕ) where
  -- the groups there have a fault
  pub number_fault : {m place : ℕ} → Fault m place ≡ groups_at max_groups s at at → Fault m place ≡ number_at s at
  unfolding number_at
  number_fault e = most_fault at largest _ (sym e)

  -- they are too large a number
  pub number_over : {v next : ℕ} → Value v next ≡ groups_at max_groups s at at → largest < v → Fault 22 at ≡ number_at s at
  unfolding number_at
  number_over e l = most_over at largest _ (sym e) l

  -- they are a number up to the largest
  pub number_within : {v next : ℕ} → Value v next ≡ groups_at max_groups s at at → v ≤ largest → Value v next ≡ number_at s at
  unfolding number_at
  number_within e l = most_within at largest _ (sym e) l

-- a number of one byte
pub number_short : (s : List ℕ) (at byte : ℕ) → at < length s → byte ≡ get_or s at 0 → get_or s at 0 < 128 → Value byte (at + 1) ≡ number_at s at
unfolding number_at
number_short s at byte l e b = most_within at largest _ (sym (groups_last s at at max_groups byte (omega arith) l e b)) (omega arith)

-- no two results are told alike: a number is told in three numbers and a fault in two, each with all that it holds
pub number_same : (r q : Number) → number_told r ≡ number_told q → r ≡ q
unfolding number_told
number_same (Value v next) (Value w place) e = cc
number_same (Value v next) (Fault m at) e = cc
number_same (Fault m at) (Value v next) e = cc
number_same (Fault m at) (Fault k place) e = cc

-- a number of one byte, told
pub told_short : (s : List ℕ) (at byte : ℕ) → at < length s → byte ≡ get_or s at 0 → get_or s at 0 < 128
    → number_told (Value byte (at + 1)) ≡ number_told (number_at s at)
told_short s at byte l e b = ap number_told (number_short s at byte l e b)

-- for the functions, a case at each return
pub ruleset cases = (rules, groups_none, groups_end, groups_last, after_fault, after_zero, after_value, number_fault, number_over, number_within, number_short)
