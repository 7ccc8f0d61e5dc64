-- That the entries of a list differ, by the set of those before each.
use Prim.Native.Nat.{ℕ, ◌+◌, ◌<◌, ◌≤◌}
use mathlib.Core.Path.{◌≡◌, refl, sym, ap, ap₂, ◌∙◌}
use mathlib.Core.Bool.{Bool, true, false, not}
use mathlib.Core.List.{List}
use native.Mathlib.Numerals.{add-one}
use borrow.Author.Rules.{rules}
use lib.ListN.{get_or}
use Rattle.laws.specs.Tables.{iter}
use Rattle.laws.proofs.Loops.{SoFar, held_start, held_on, all_stops, all_done}
use Rattle.track.specs.Lists.{among, all_differ}
use Rattle.sets.specs.Sets.{holds, joined, add_entry, set_of}
use Rattle.sets.proofs.Sets.{holds_set_of}

-- the first i entries differ, and the set is theirs
unfoldable pub Apart : ℕ → List ℕ → ℕ → ℕ → Type 0
Apart n xs set i = SoFar n (λ k. not (among k xs (get_or xs k 0))) i × (set ≡ set_of i xs)

-- before the first entry the set is empty
pub apart_start : (n : ℕ) (xs : List ℕ) → Apart n xs 0 0
unfolding Apart set_of iter
apart_start n xs = (held_start n _, refl)

-- nothing is left: all differ
pub apart_done : (n : ℕ) (xs : List ℕ) (set i : ℕ) → Apart n xs set i → n ≤ i → true ≡ all_differ n xs
unfolding Apart all_differ
apart_done n xs set i h l = all_done n _ i h.0 l

module _ (n : ℕ) (xs : List ℕ) (set i x : ℕ) (b : Bool) (h : Apart n xs set i) (l : i < n) (e : x ≡ get_or xs i 0) (p : x < 64)
    (k : b ≡ holds set x) where
  -- what is in the set is one of those before
  seen : b ≡ among i xs (get_or xs i 0)
  unfolding Apart among
  seen = k ∙ ap (λ s. holds s x) h.1 ∙ holds_set_of i xs x p ∙ ap (among i xs) e

  -- the entry is in the set: it is one of those before, and not all differ
  pub apart_stops : b ≡ true → false ≡ all_differ n xs
  unfolding Apart all_differ
  apart_stops t = all_stops n _ i h.0 l (ap not seen) (ap (λ v. not (not v)) t)

  -- it is not: one entry more, and it joins the set
  pub apart_on : (s : ℕ) → b ≡ false → s ≡ joined set x → Apart n xs s (i + 1)
  unfolding Apart set_of iter add_entry
  apart_on s t d =
      (held_on n _ i h.0 l (ap not seen) (ap (λ v. not (not v)) t), d ∙ ap₂ joined h.1 e ∙ ap (λ m. set_of m xs) (sym (add-one i)))

-- for the loop that tests a list by the set of what it has seen
pub ruleset aparts = (rules, apart_start, apart_done, apart_stops, apart_on)
