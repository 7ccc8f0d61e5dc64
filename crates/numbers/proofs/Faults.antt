-- Where no byte of a number is a last one: 21 where the string ends first, else 22, also where it ends just then.
use Prim.Native.Nat.{ℕ, zero, suc, ◌+◌, ◌-◌, ◌<◌, ◌≤◌}
use mathlib.Core.Path.{◌≡◌, refl, sym}
use mathlib.Core.List.{List}
use mathlib.Core.Logic.{⊎_elim}
use native.Mathlib.Nat.{eq-zero-or-pos, le_refl, not-suc-le-zero}
use native.Mathlib.Numerals.{sub-one}
use native.Mathlib.Omega.{arith}
use lib.ListN.{length, get_or}
use Rattle.numbers.specs.Number.{Fault}
use Rattle.numbers.specs.Number.{max_groups, largest, groups_at, number_at}
use Rattle.numbers.specs.Form.{Cut}
use Rattle.numbers.proofs.Cases.{with_group_fault, groups_none, groups_end, groups_more, most_fault}

module _ (s : List ℕ) (first : ℕ) where
  -- a byte that is not the last, before a fault
  fault_more : (k at n : ℕ) → at < length s → 128 ≤ get_or s at 0 → groups_at k s first (at + 1) ≡ Fault n first
      → groups_at (suc k) s first at ≡ Fault n first
  fault_more k at n l b e =
      sym (groups_more s first at (suc k) (get_or s at 0 - 128) (Fault n first) (Fault n first) (omega arith) l b refl (rw sub-one (sym e))
      (with_group_fault first (get_or s at 0 - 128) (Fault n first) refl))

  -- the string ends first
  groups_cut : (k at : ℕ) → Cut k s at → groups_at k s first at ≡ Fault 21 first
  groups_cut zero at c = absurd (not-suc-le-zero c.few)
  groups_cut (suc k) at c =
      ⊎_elim (λ z. sym (groups_end s first at (suc k) (omega arith) (omega arith)))
      (λ p. fault_more k at 21 (omega arith) (c.more at (le_refl at) (omega arith))
      (groups_cut k (at + 1) (record { few = omega arith; more = λ i a h. c.more i (omega arith) h })))
      (eq-zero-or-pos (length s - at))

  -- each of the k bytes that may be taken has its top bit set
  groups_long : (k at : ℕ) → at + k ≤ length s → ((i : ℕ) → at ≤ i → i < at + k → 128 ≤ get_or s i 0) → groups_at k s first at ≡ Fault 22 first
  groups_long zero at l t = sym (groups_none s first at 0 refl)
  groups_long (suc k) at l t =
      fault_more k at 22 (omega arith) (t at (le_refl at) (omega arith)) (groups_long k (at + 1) (omega arith) (λ i a h. t i (omega arith) (omega arith)))

-- the file ends early
pub number_cut : (s : List ℕ) (at : ℕ) → Cut max_groups s at → number_at s at ≡ Fault 21 at
unfolding number_at
number_cut s at c = sym (most_fault at largest (groups_at max_groups s at at) (groups_cut s at max_groups at c))

-- as many bytes as a number may take have their top bit set, also at the file's end
pub number_long : (s : List ℕ) (at : ℕ) → at + max_groups ≤ length s → ((i : ℕ) → at ≤ i → i < at + max_groups → 128 ≤ get_or s i 0)
    → number_at s at ≡ Fault 22 at
unfolding number_at
number_long s at l t = sym (most_fault at largest (groups_at max_groups s at at) (groups_long s at max_groups at l t))
