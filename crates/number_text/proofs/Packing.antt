-- A text read byte by byte: the loop, and what is read of one text after another.
use Prim.Native.Nat.{ℕ, min, ◌+◌, ◌*◌, ◌/◌, ◌<◌, ◌≤◌}
use mathlib.Core.Path.{◌≡◌, refl, sym, ap, subst, ◌∙◌}
use mathlib.Core.List.{List, [], ◌∷◌, ◌++◌, append-nil, append_assoc}
use native.Mathlib.Numerals.{add-one}
use native.Mathlib.Omega.{arith}
use Rattle.std.proofs.Math.Nat.{min-le_left, min-le_right}
use Rattle.std.proofs.lemmas.List.{length-take-le, take_all}
use borrow.Author.Tests.{ltb-true, ltb-false}
use lib.Dec.{ltb}
use lib.ListN.{length, get_or, take}
use lib.Seq.{take-suc}
use Rattle.laws.proofs.Choice.{if_both}
use Rattle.numerals.specs.Writes.{Put}
use Rattle.numerals.proofs.Writes.{put_none, put_then, put_within}
use Rattle.number_text.specs.declared.pack.Reader.{Reader}
use Rattle.number_text.specs.Text.{next, given, reader_after, packed}
use Rattle.number_text.specs.Pieces.{fewer, PackedPiece}

-- ---- one text after another

-- the second is read from where the first left the reading
pub reader_append : (s : Reader) (xs ys : List ℕ) → reader_after s (xs ++ ys) ≡ reader_after (reader_after s xs) ys
unfolding reader_after
reader_append s [] ys = refl
reader_append s (x ∷ xs) ys = reader_append (next s x) xs ys

-- and gives its numbers after those of the first
pub packed_append : (s : Reader) (xs ys : List ℕ) → packed s (xs ++ ys) ≡ packed s xs ++ packed (reader_after s xs) ys
unfolding packed reader_after
packed_append s [] ys = refl
packed_append s (x ∷ xs) ys = ap (λ l. given s x ++ l) (packed_append (next s x) xs ys) ∙ sym (append_assoc (given s x) _ _)

-- one byte
pub reader_one : (s : Reader) (byte : ℕ) → reader_after s (byte ∷ []) ≡ next s byte
unfolding reader_after
reader_one s byte = refl

-- and gives the number that it ends, if any, and nothing else
pub packed_one : (s : Reader) (byte : ℕ) → packed s (byte ∷ []) ≡ given s byte
unfolding packed
packed_one s byte = append-nil (given s byte)

-- ---- the loop

-- the smaller of two sizes is the lesser
pub fewer_min : (a b : ℕ) → min a b ≡ fewer a b
unfolding fewer
fewer_min a b = sym (if_both (λ n. n ≡ min a b) (ltb a b) (λ e. omega (arith, ltb-true a b e)) (λ e. omega (arith, ltb-false a b e)))

module _ (s : Reader) (bytes a : List ℕ) where
  -- one byte more
  more : (i : ℕ) → i < length bytes → take (i + 1) bytes ≡ take i bytes ++ (get_or bytes i 0 ∷ [])
  more i h = rw add-one (take-suc bytes i 0 h)

  -- before the first byte the reading stands where it stood
  pub reader_start : s ≡ reader_after s (take 0 bytes)
  unfolding reader_after
  reader_start = refl

  -- and nothing is written
  pub pack_start : Put a 0 (packed s (take 0 bytes)) (3 * 0) a 0
  unfolding packed
  pack_start = put_none 0

  -- a byte more is read from where those before it left the reading
  pub reader_on : (i : ℕ) (r q : Reader) → i < length bytes → r ≡ reader_after s (take i bytes) → q ≡ next r (get_or bytes i 0)
      → q ≡ reader_after s (take (i + 1) bytes)
  reader_on i r q h e f =
      f ∙ ap (λ (t : Reader). next t (get_or bytes i 0)) e ∙ sym (reader_one _ _) ∙ sym (reader_append s (take i bytes) _) ∙ ap (reader_after s) (sym (more i h))

  -- its number, if it ends one, is written behind those before, in three bytes at most
  pub pack_on : (b c : List ℕ) (i m k : ℕ) (r : Reader) → i < length bytes → r ≡ reader_after s (take i bytes) → Put a 0 (packed s (take i bytes)) (3 * i) b m
      → Put b m (given r (get_or bytes i 0)) 3 c k → Put a 0 (packed s (take (i + 1) bytes)) (3 * (i + 1)) c k
  pack_on b c i m k r h e p q =
      let text : packed s (take i bytes) ++ given r (get_or bytes i 0) ≡ packed s (take (i + 1) bytes) =
      ap (λ l. packed s (take i bytes) ++ l) (ap (λ (t : Reader). given t (get_or bytes i 0)) e ∙ sym (packed_one _ _))
      ∙ sym (packed_append s (take i bytes) _) ∙ ap (packed s) (sym (more i h)) in
      subst (λ xs. Put a 0 xs (3 * (i + 1)) c k) text (put_within (3 * (i + 1)) (omega arith) (put_then p q))

-- for those that are read there is room
pub few_items : (bytes a : List ℕ) (n : ℕ) → n ≡ min (length bytes) (length a / 3) → 3 * length (take n bytes) ≤ length a
few_items bytes a n e =
    let size : length (take n bytes) ≡ n = length-take-le n bytes (omega (arith, e, min-le_left (length bytes) (length a / 3))) in
    omega (arith, e, min-le_right (length bytes) (length a / 3))

-- after the last of those bytes as much of the piece is read as the buffer surely has room for
pub pack_done : (s : Reader) (bytes a b : List ℕ) (i n m : ℕ) (r : Reader) → n ≡ min (length bytes) (length a / 3) → i ≤ length (take n bytes)
    → length (take n bytes) ≤ i → r ≡ reader_after s (take i (take n bytes)) → Put a 0 (packed s (take i (take n bytes))) (3 * i) b m
    → PackedPiece a s bytes b (record { reader = r; read = n; written = m })
pack_done s bytes a b i n m r e l g f p =
    let most : n ≤ length bytes = omega (arith, e, min-le_left (length bytes) (length a / 3)) in
    let room : 3 * n ≤ length a = omega (arith, e, min-le_right (length bytes) (length a / 3)) in
    let size : length (take n bytes) ≡ n = length-take-le n bytes most in
    let all : take i (take n bytes) ≡ take n bytes = take_all i (take n bytes) g in record {
      read = e ∙ fewer_min (length bytes) (length a / 3);
      reader = f ∙ ap (reader_after s) all;
      text = subst (λ xs. Put a 0 (packed s xs) (length a) b m) all (put_within (length a) (omega arith) p);
    }
