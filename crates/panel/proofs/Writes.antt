-- Bytes written one after the other into a buffer.
use Prim.Native.Nat.{ℕ, zero, suc, ◌+◌, ◌≤◌}
use mathlib.Core.Path.{◌≡◌, refl, sym, ap, ◌∙◌}
use mathlib.Core.List.{List, [], ◌∷◌, ◌++◌}
use native.Mathlib.Nat.{add-zero, add-suc, suc-add, zero-add}
use native.Mathlib.Numerals.{add-one}
use native.Mathlib.Omega.{arith}
use borrow.Author.Rules.{rules}
use lib.ListN.{length, set}
use lib.Seq.{length-sets}
use Rattle.laws.specs.Tables.{table_from, table, join}
use Rattle.laws.proofs.Joins.{join_more}
use Rattle.numerals.proofs.Writes.{written_then}
use Rattle.panel.specs.Writes.{Wrote}

-- ---- tables and runs of bytes that grow by one

-- k + 1 entries are k and the one after them
from_more : (k i : ℕ) (f : ℕ → ℕ) → table_from i (suc k) f ≡ table_from i k f ++ (f (i + k) ∷ [])
unfolding table_from
from_more zero i f = ap (λ m. f m ∷ []) (sym (add-zero i))
from_more (suc k) i f =
    ap (λ xs. f i ∷ xs) (from_more k (suc i) f ∙ ap (λ m. table_from (suc i) k f ++ (f m ∷ [])) (suc-add i k ∙ sym (add-suc i k)))

-- so a table of one more
table_more : (n : ℕ) (f : ℕ → ℕ) → table (n + 1) f ≡ table n f ++ (f n ∷ [])
unfolding table
table_more n f = rw add-one (from_more n 0 f ∙ ap (λ m. table_from 0 n f ++ (f m ∷ [])) (zero-add n))

-- ---- what is written after what was written

module _ {a : List ℕ} {k : ℕ} where
  -- nothing
  wrote_none : Wrote a k [] a k
  wrote_none = record { buffer = refl; place = sym (add-zero k) }

  -- one byte
  pub wrote_one : (x : ℕ) → Wrote a k (x ∷ []) (set a k x) (k + 1)
  wrote_one x = record { buffer = refl; place = refl }

  -- one run of bytes after another
  pub wrote_then : {xs ys b c : List ℕ} {m n : ℕ} → Wrote a k xs b m → Wrote b m ys c n → Wrote a k (xs ++ ys) c n
  wrote_then {xs} {ys} p q = let w = written_then a xs ys k p.buffer p.place q.buffer q.place in record { buffer = w.0; place = w.1 }

  -- a buffer keeps its length
  pub wrote_length : {xs b : List ℕ} {m : ℕ} → Wrote a k xs b m → length b ≡ length a
  wrote_length {xs} p = ap length p.buffer ∙ length-sets a k xs

-- ---- loops that write a byte, or a run of bytes, in each turn

module _ (f : ℕ → ℕ) (a : List ℕ) (k : ℕ) where
  -- of a table, before its first byte, nothing is written
  pub table_start : Wrote a k (table 0 f) a k
  unfolding table table_from
  table_start = wrote_none

  -- the next byte is written after those before it
  pub table_on : (b : List ℕ) (m i v : ℕ) → Wrote a k (table i f) b m → v ≡ f i → Wrote a k (table (i + 1) f) (set b m v) (m + 1)
  table_on b m i v p e = rw (table_more i f, ← e) (wrote_then p (wrote_one v))

  -- none is left: the whole table is written
  pub table_end : (b : List ℕ) (m i n : ℕ) → Wrote a k (table i f) b m → i ≤ n → n ≤ i → Wrote a k (table n f) b m
  table_end b m i n p g h = let e : n ≡ i = omega arith in rw e p

module _ (f : ℕ → List ℕ) (a : List ℕ) (k : ℕ) where
  -- of runs of bytes, before the first, nothing is written
  pub join_start : Wrote a k (join 0 f) a k
  unfolding join
  join_start = wrote_none

  -- the next run is written after those before it
  pub join_on : (b c : List ℕ) (m n i : ℕ) → Wrote a k (join i f) b m → Wrote b m (f i) c n → Wrote a k (join (i + 1) f) c n
  join_on b c m n i p q = rw (join_more i f) (wrote_then p q)

  -- none is left: all runs are written
  pub join_end : (b : List ℕ) (m i n : ℕ) → Wrote a k (join i f) b m → i ≤ n → n ≤ i → Wrote a k (join n f) b m
  join_end b m i n p g h = let e : n ≡ i = omega arith in rw e p

-- for loops that write
pub ruleset writes = (rules, table_start, table_on, table_end, join_start, join_on, join_end)
