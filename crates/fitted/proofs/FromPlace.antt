-- The numbers from a place of a file on: as many as it has bytes are enough, and what stands at the place tells how they begin.
use Prim.Native.Nat.{ℕ, zero, suc, ◌+◌, ◌<◌, ◌≤◌}
use mathlib.Core.Path.{◌≡◌, refl, sym, ap, ◌∙◌}
use mathlib.Core.List.{List}
use native.Mathlib.Nat.{zero-add, suc-add}
use native.Mathlib.Omega.{arith}
use borrow.Author.Tests.{le-ltb}
use lib.Dec.{ltb}
use lib.ListN.{length}
use Rattle.laws.specs.Choice.{when◌then◌else◌}
use Rattle.laws.proofs.Choice.{if_lt, if_ge, passed_over}
use Rattle.numbers.specs.Number.{Number}
use Rattle.numbers.specs.Number.{Value, Fault}
use Rattle.numbers.specs.Number.{number_at}
use Rattle.numbers.proofs.Readings.{number_after}
use Rattle.fitted.specs.Numbers.{no_numbers, before, numbers_next, numbers_from, from_place}

module _ (file : List ℕ) where
  -- a number takes a byte or more, so what is left is enough for what follows it
  next_more : (m at : ℕ) → ((next : ℕ) → length file ≤ m + next → numbers_from (suc m) file next ≡ numbers_from m file next)
      → (x : Number) → x ≡ number_at file at → length file ≤ suc m + at → numbers_next (numbers_from (suc m) file) x ≡ numbers_next (numbers_from m file) x
  unfolding numbers_next
  next_more m at more (Value value next) e h = ap (before value) (more next (omega (arith, number_after file at e refl)))
  next_more m at more (Fault number place) e h = refl

  -- one more number is allowed, and there is none: by the numbers that are allowed
  one_more : (m at : ℕ) → length file ≤ m + at → numbers_from (suc m) file at ≡ numbers_from m file at
  unfolding numbers_from
  one_more zero at h = passed_over (ltb at (length file)) _ _ (le-ltb at (length file) (omega arith))
  one_more (suc m) at h = ap (λ r. when ltb at (length file) then r else no_numbers 0 at) (next_more m at (one_more m) (number_at file at) refl h)

  -- so any more numbers may be allowed
  pub more_same : (k m at : ℕ) → length file ≤ m + at → numbers_from (k + m) file at ≡ numbers_from m file at
  more_same zero m at h = ap (λ n. numbers_from n file at) (zero-add m)
  more_same (suc k) m at h = ap (λ n. numbers_from n file at) (suc-add k m) ∙ one_more (k + m) at (omega arith) ∙ more_same k m at h

  module _ (at : ℕ) where
    -- at the file's end or past it there are none
    pub from_end : length file ≤ at → no_numbers 0 at ≡ from_place file at
    unfolding from_place numbers_from
    from_end h = if_ge at (length file) _ _ _ h refl

    -- before it they begin with what stands there
    from_next : at < length file → numbers_next (from_place file) (number_at file at) ≡ from_place file at
    unfolding from_place numbers_from
    from_next h = if_lt at (length file) _ _ _ h (next_more (length file) at (one_more (length file)) (number_at file at) refl (omega arith))

    -- a number
    pub from_value : {v next : ℕ} → at < length file → number_at file at ≡ Value v next → before v (from_place file next) ≡ from_place file at
    unfolding numbers_next
    from_value h e = ap (numbers_next (from_place file)) (sym e) ∙ from_next h

    -- a fault
    pub from_fault : {m place : ℕ} → at < length file → number_at file at ≡ Fault m place → no_numbers m place ≡ from_place file at
    unfolding numbers_next
    from_fault h e = ap (numbers_next (from_place file)) (sym e) ∙ from_next h
