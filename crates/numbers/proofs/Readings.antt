-- What a reading says: a number lies in the string and is the form that is written for it, and a fault is 21 or 22 at the number's first place.
use Prim.Native.Nat.{ℕ, zero, suc, ◌+◌, ◌-◌, ◌*◌, ◌/◌, ◌%◌, ◌^◌, ◌<◌, ◌≤◌, zero-le}
use native.Mathlib.Nat.{eq-or-lt_of_le, pow-suc, pow-le-pow_right}
use native.Mathlib.Numerals.{add-one}
use native.Mathlib.Omega.{arith}
use mathlib.Core.Path.{◌≡◌, refl, ap, subst, ◌∙◌}
use mathlib.Core.Logic.{◌⊎◌, inl, inr, ⊎_elim}
use mathlib.Core.Bool.{false}
use mathlib.Core.List.{List, [], ◌∷◌, ◌++◌}
use lib.ListN.{length, get_or, drop}
use lib.Seq.{drop-cons}
use lib.Dec.{ltb, eqb, lit<}
use borrow.Author.Tests.{ltb-true, ltb-false, eqb-false}
use Rattle.laws.proofs.Choice.{choices, if_both}
use Rattle.numbers.specs.Number.{Number}
use Rattle.numbers.specs.Number.{Value, Fault}
use Rattle.numbers.specs.Number.{max_groups, largest, with_group, groups_at, at_most, number_at}
use Rattle.numbers.specs.Form.{encode_in, encode, Bytes, Cut}

-- a number of one group
pub encode_last : (k n : ℕ) → n < 128 → n ∷ [] ≡ encode_in (suc k) n
unfolding encode_in
encode_last k n h = search choices

-- a number of more groups
pub encode_more : (k n : ℕ) → 128 ≤ n → (128 + n % 128) ∷ encode_in k (n / 128) ≡ encode_in (suc k) n
unfolding encode_in
encode_more k n h = search choices

module _ (s : List ℕ) (first : ℕ) where
  -- what a reading of at most k bytes from a place on says
  abbrev Reading : ℕ → ℕ → Number → Type 0
  Reading k at (Value v next) =
      (at < next) × (next ≤ length s) × (Bytes s → (v < 128 ^ k) × (drop at s ≡ encode_in k v ++ drop next s))
  Reading k at (Fault n place) = (place ≡ first) × ((n ≡ 22) ⊎ ((n ≡ 21) × Cut k s at))

  -- the string from a place inside it on
  from_place : (at : ℕ) → at < length s → drop at s ≡ get_or s at 0 ∷ drop (at + 1) s
  from_place at l = rw add-one (drop-cons s at 0 l)

  -- a last byte
  reading_last : (k at : ℕ) → at < length s → get_or s at 0 < 128 → Reading (suc k) at (Value (get_or s at 0) (at + 1))
  reading_last k at l b = (
    omega arith,
    omega arith,
    λ h. (
      omega (arith, pow-suc 128 k, pow-le-pow_right {n = 128} (lit< tt) {i = 0} {j = k} zero-le),
      rw (← encode_last k (get_or s at 0) b) (from_place at l),
    ),
  )

  -- a byte that is not the last, and the number after it
  reading_value : (k at w next : ℕ) → at < length s → 128 ≤ get_or s at 0 → eqb w 0 ≡ false → Reading k (at + 1) (Value w next)
      → Reading (suc k) at (Value (get_or s at 0 - 128 + 128 * w) next)
  reading_value k at w next l b e f = (omega arith, f.1, bytes)
    where
      -- the sum is 128 or more, with the byte for its lowest group and the number after it for the rest
      bytes : Bytes s → (get_or s at 0 - 128 + 128 * w < 128 ^ suc k) × (drop at s ≡ encode_in (suc k) (get_or s at 0 - 128 + 128 * w) ++ drop next s)
      bytes h =
          let v : ℕ = get_or s at 0 - 128 + 128 * w in
          let small = h at in
          let z : w ≡ 0 → ⊥ = eqb-false w 0 e in
          let p : 128 ≤ v = omega arith in
          let q : 128 + v % 128 ≡ get_or s at 0 = omega arith in
          let r : v / 128 ≡ w = omega arith in
          (omega (arith, pow-suc 128 k, (f.2 h).0), rw (← encode_more k v p, q, r) (from_place at l ∙ ap (λ x. get_or s at 0 ∷ x) (f.2 h).1))

  -- the string ends at a place or before it
  cut_here : (k at : ℕ) → length s ≤ at → Cut (suc k) s at
  cut_here k at l = record { few = omega arith; more = λ i a b. absurd (omega arith) }

  -- where the string ends early after a byte that is not a last one, it ends early from that byte on too
  cut_before : (k at : ℕ) → at < length s → 128 ≤ get_or s at 0 → Cut k s (at + 1) → Cut (suc k) s at
  cut_before k at l b c = record {
    few = omega arith;
    more = λ i a h. ⊎_elim (λ e. rw (← e) b) (λ m. c.more i (omega arith) h) (eq-or-lt_of_le a);
  }

  -- a byte that is not the last, and what is read after it
  reading_with_group : (k at : ℕ) (n : Number) → at < length s → 128 ≤ get_or s at 0 → Reading k (at + 1) n
      → Reading (suc k) at (with_group first (get_or s at 0 - 128) n)
  unfolding with_group
  reading_with_group k at (Value w next) l b f =
      if_both (Reading (suc k) at) (eqb w 0) (λ e. (refl, inl refl)) (λ e. reading_value k at w next l b e f)
  reading_with_group k at (Fault n place) l b f = (f.0, ⊎_elim (λ e. inl e) (λ e. inr (e.0, cut_before k at l b e.1)) f.1)

  -- whatever `groups_at` answers is a reading
  reads : (k at : ℕ) → Reading k at (groups_at k s first at)
  unfolding groups_at
  reads zero at = (refl, inl refl)
  reads (suc k) at =
      if_both (Reading (suc k) at) (ltb at (length s))
      (λ l. if_both (Reading (suc k) at) (ltb (get_or s at 0) 128)
      (λ b. reading_last k at (ltb-true at (length s) l) (ltb-true (get_or s at 0) 128 b))
      (λ b. reading_with_group k at (groups_at k s first (at + 1)) (ltb-true at (length s) l) (ltb-false (get_or s at 0) 128 b) (reads k (at + 1))))
      (λ l. (refl, inr (refl, cut_here k at (ltb-false at (length s) l))))

-- a number of at most eight groups is below 2 to the 56th
pub groups_small : (k : ℕ) (s : List ℕ) (first at v next : ℕ) → Bytes s → k ≤ 8 → groups_at k s first at ≡ Value v next → v < 2 ^ 56
groups_small k s first at v next h l e =
    omega (arith, ((subst (Reading s first k at) e (reads s first k at)).2 h).0, pow-le-pow_right {n = 128} (lit< tt) {i = k} {j = 8} l)

-- what holds of a number and of the fault holds of the limited number
most_keeps : (P : Number → Type 0) (first limit : ℕ) (n : Number) → P (Fault 22 first) → P n → P (at_most first limit n)
unfolding at_most
most_keeps P first limit (Value v next) f p = if_both P (ltb limit v) (λ e. f) (λ e. p)
most_keeps P first limit (Fault m place) f p = p

-- a number, where it is one, is at most the limit
abbrev Most : ℕ → Number → Type 0
Most limit (Value v next) = v ≤ limit
Most limit (Fault m place) = Unit {0}

-- the limited number is at most the limit
most_holds : (first limit : ℕ) (n : Number) → Most limit (at_most first limit n)
unfolding at_most
most_holds first limit (Value v next) = if_both (Most limit) (ltb limit v) (λ e. tt) (λ e. ltb-false limit v e)
most_holds first limit (Fault m place) = tt

-- ---- what stands at a place of the file

module _ (s : List ℕ) (at : ℕ) where
  -- it is a reading
  number_reading : {n : Number} → n ≡ number_at s at → Reading s at max_groups at n
  unfolding number_at
  number_reading e =
      rw e (most_keeps (Reading s at max_groups at) at largest (groups_at max_groups s at at) (refl, inl refl) (reads s at max_groups at))

  module _ {n : Number} {v next : ℕ} where
    -- the place after a number is past its first place
    pub number_after : n ≡ number_at s at → n ≡ Value v next → at < next
    number_after e f = (subst (Reading s at max_groups at) f (number_reading e)).0

    -- the place after a number is not past the string's end
    pub number_inside : n ≡ number_at s at → n ≡ Value v next → next ≤ length s
    number_inside e f = (subst (Reading s at max_groups at) f (number_reading e)).1

    -- a number stands there in the form that is written for it
    pub number_written : Bytes s → n ≡ number_at s at → n ≡ Value v next → drop at s ≡ encode v ++ drop next s
    unfolding encode
    number_written h e f = ((subst (Reading s at max_groups at) f (number_reading e)).2 h).1

    -- a number is at most the largest
    pub number_most : n ≡ number_at s at → n ≡ Value v next → v ≤ largest
    unfolding number_at
    number_most e f = subst (Most largest) f (rw e (most_holds at largest (groups_at max_groups s at at)))

  module _ {n : Number} {m place : ℕ} where
    -- a fault is at the number's first place
    pub fault_place : n ≡ number_at s at → n ≡ Fault m place → place ≡ at
    fault_place e f = (subst (Reading s at max_groups at) f (number_reading e)).0

    -- a fault is 22, or 21 where the file ends early
    pub fault_number : n ≡ number_at s at → n ≡ Fault m place → (m ≡ 22) ⊎ ((m ≡ 21) × Cut max_groups s at)
    fault_number e f = (subst (Reading s at max_groups at) f (number_reading e)).1
