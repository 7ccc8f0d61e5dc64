-- Numbers in places, and text that is joined, written from a place on.
use Prim.Native.Nat.{ℕ, zero, suc, ◌+◌, ◌-◌, ◌*◌, ◌/◌, ◌%◌, ◌≤◌}
use mathlib.Core.Path.{◌≡◌, refl, sym, ap, subst, ◌∙◌}
use mathlib.Core.List.{List, [], ◌∷◌, ◌++◌}
use native.Mathlib.Numerals.{sub-one}
use native.Mathlib.Omega.{arith}
use borrow.Author.Rules.{rules}
use lib.ListN.{length, set, length-set}
use Rattle.laws.specs.Tables.{join}
use Rattle.laws.proofs.Joins.{join_more}
use Rattle.numerals.specs.Writes.{Put}
use Rattle.numerals.proofs.Writes.{put_none, put_one, put_then, put_within}
use Rattle.lengths_text.specs.Places.{place, places, filled}
use Rattle.lengths_text.specs.Sheet.{side_by_side}

-- ---- places

-- the places before and the last of them
places_more : (fill k n : ℕ) → (k ≡ 0 → ⊥) → places fill (k - 1) (n / 10) ++ (place fill n ∷ []) ≡ places fill k n
unfolding places
places_more fill zero n h = absurd (h refl)
places_more fill (suc k) n h = rw sub-one

module _ (a : List ℕ) (at fill k n : ℕ) where
  -- no places
  pub put_no_places : k ≡ 0 → Put a at (places fill k n) k a at
  unfolding places
  put_no_places e = rw e (put_none 0)

  -- the places before the last of them, and that
  pub put_more_places : (b : List ℕ) (m v : ℕ) → (k ≡ 0 → ⊥) → Put a at (places fill (k - 1) (n / 10)) (k - 1) b m → v ≡ place fill n
      → Put a at (places fill k n) k (set b m v) (m + 1)
  put_more_places b m v h p e =
      subst (λ xs. Put a at xs k (set b m v) (m + 1)) (ap (λ x. places fill (k - 1) (n / 10) ++ (x ∷ [])) e ∙ places_more fill k n h)
      (put_within k (omega arith) (put_then p (put_one v)))

  -- the places before the last digit, and that
  pub put_last : (b : List ℕ) (m : ℕ) → Put a at (places fill k (n / 10)) k b m → Put a at (filled fill k n) (k + 1) (set b m (48 + n % 10)) (m + 1)
  unfolding filled
  put_last b m p = put_then p (put_one (48 + n % 10))

-- the buffer's length, past a byte that is stored after text
pub long_then_set : (a b xs : List ℕ) (at most m k x : ℕ) → Put a at xs most b m → length (set b k x) ≡ length a
long_then_set a b xs at most m k x p = length-set b k x ∙ p.long

-- for the functions that write places
pub ruleset placing = (rules, put_no_places, put_more_places, put_last, long_then_set)

-- ---- text that is joined, w bytes at most each time

module _ (f : ℕ → List ℕ) (w : ℕ) (a : List ℕ) (at : ℕ) where
  -- none yet
  pub join_start : Put a at (join 0 f) (w * 0) a at
  unfolding join
  join_start = put_none (w * 0)

  -- one more, behind those before it
  pub join_next : (b c : List ℕ) (i m n : ℕ) → Put a at (join i f) (w * i) b m → Put b m (f i) w c n → Put a at (join (i + 1) f) (w * (i + 1)) c n
  join_next b c i m n p q =
      let r : w * i + w ≤ w * (i + 1) = omega arith in
      subst (λ xs. Put a at xs (w * (i + 1)) c n) (sym (join_more i f)) (put_within (w * (i + 1)) r (put_then p q))

  -- all n of them
  pub join_end : (n : ℕ) (b : List ℕ) (i m : ℕ) → Put a at (join i f) (w * i) b m → i ≤ n → n ≤ i → Put a at (join n f) (w * n) b m
  join_end n b i m p g h = let e : i ≡ n = omega arith in subst (λ k. Put a at (join k f) (w * k) b m) e p

-- ---- numbers side by side

module _ (f : ℕ → ℕ) (a : List ℕ) (at : ℕ) where
  -- none yet
  pub side_start : Put a at (side_by_side 0 f) (8 * 0) a at
  unfolding side_by_side
  side_start = join_start (λ k. filled 32 7 (f k)) 8 a at

  -- one more
  pub side_next : (b c : List ℕ) (i m n v : ℕ) → Put a at (side_by_side i f) (8 * i) b m → Put b m (filled 32 7 v) 8 c n → v ≡ f i
      → Put a at (side_by_side (i + 1) f) (8 * (i + 1)) c n
  unfolding side_by_side
  side_next b c i m n v p q e = join_next (λ k. filled 32 7 (f k)) 8 a at b c i m n p (subst (λ z. Put b m (filled 32 7 z) 8 c n) e q)

  -- all six
  pub side_end : (b : List ℕ) (i m : ℕ) → Put a at (side_by_side i f) (8 * i) b m → i ≤ 6 → 6 ≤ i → Put a at (side_by_side 6 f) 48 b m
  unfolding side_by_side
  side_end b i m p g h = join_end (λ k. filled 32 7 (f k)) 8 a at 6 b i m p g h

-- for the functions that write numbers side by side
pub ruleset sides = (rules, side_start, side_next, side_end)
