-- Text written one piece after another.
use Prim.Native.Nat.{ℕ, suc, ◌+◌, ◌≤◌}
use mathlib.Core.Path.{◌≡◌, refl, sym, ap, ap₂, ◌∙◌}
use mathlib.Core.List.{List, [], ◌∷◌, ◌++◌}
use native.Mathlib.Nat.{add-zero, add-suc, suc-add, add_assoc}
use native.Mathlib.Omega.{arith}
use lib.ListN.{length, set, length-append}
use lib.Seq.{sets, length-sets}
use Rattle.numerals.specs.Writes.{Put}

-- writing xs and then ys right after them is writing both in one go
sets_append : (xs ys l : List ℕ) (i : ℕ) → sets (sets l i xs) (i + length xs) ys ≡ sets l i (xs ++ ys)
sets_append [] ys l i = ap (λ k. sets l k ys) (add-zero i)
sets_append (x ∷ xs) ys l i =
    ap (λ k. sets (sets (set l i x) (suc i) xs) k ys) (add-suc i (length xs) ∙ sym (suc-add i (length xs))) ∙ sets_append xs ys (set l i x) (suc i)

-- so two runs of bytes, one after the other, are one: what the buffer is then, and the next place
pub written_then : (a xs ys : List ℕ) (at : ℕ) {b c : List ℕ} {m n : ℕ} → b ≡ sets a at xs → m ≡ at + length xs → c ≡ sets b m ys → n ≡ m + length ys
    → (c ≡ sets a at (xs ++ ys)) × (n ≡ at + length (xs ++ ys))
written_then a xs ys at p q r s = (
  r ∙ ap₂ (λ l k. sets l k ys) p q ∙ sets_append xs ys a at,
  s ∙ ap (λ k. k + length ys) q ∙ add_assoc at (length xs) (length ys) ∙ ap (λ k. at + k) (sym (length-append xs ys)),
)

module _ {a : List ℕ} {at : ℕ} where
  -- nothing
  pub put_none : (most : ℕ) → Put a at [] most a at
  put_none most = record { buffer = refl; place = sym (add-zero at); near = omega arith; long = refl }

  -- one byte
  pub put_one : (x : ℕ) → Put a at (x ∷ []) 1 (set a at x) (at + 1)
  put_one x = record { buffer = refl; place = refl; near = omega arith; long = length-sets a at (x ∷ []) }

  -- one piece after another
  pub put_then : {xs ys b c : List ℕ} {i j m n : ℕ} → Put a at xs i b m → Put b m ys j c n → Put a at (xs ++ ys) (i + j) c n
  put_then {xs} {ys} p q = let w = written_then a xs ys at p.buffer p.place q.buffer q.place in record {
    buffer = w.0;
    place = w.1;
    near = omega (arith, p.near, q.near);
    long = q.long ∙ p.long;
  }

  -- a bound that is wider
  pub put_within : {xs b : List ℕ} {i m : ℕ} (j : ℕ) → i ≤ j → Put a at xs i b m → Put a at xs j b m
  put_within j h p = record { buffer = p.buffer; place = p.place; near = omega (arith, p.near); long = p.long }
