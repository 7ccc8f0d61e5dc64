-- The file of any layout is a string of bytes.
use Prim.Native.Nat.{ℕ, zero, suc, ◌+◌, ◌/◌, ◌%◌, ◌<◌}
use mathlib.Core.List.{List, [], ◌∷◌, ◌++◌, flat_map}
use native.Mathlib.Omega.{arith}
use borrow.Author.Tests.{ltb-true}
use lib.Dec.{ltb}
use Rattle.laws.proofs.Choice.{if_both}
use Rattle.numbers.specs.Number.{max_groups}
use Rattle.numbers.specs.Form.{encode_in, encode, Bytes}
use Rattle.layout.specs.declared.Layout.{Layout}
use Rattle.layout_file.specs.Written.{forms, written, file_of}

-- no bytes
no_bytes : Bytes []
no_bytes i = omega arith

-- a byte before bytes
with_byte : (x : ℕ) (xs : List ℕ) → x < 256 → Bytes xs → Bytes (x ∷ xs)
with_byte x xs h b zero = h
with_byte x xs h b (suc i) = b i

-- bytes before bytes
both_bytes : (xs ys : List ℕ) → Bytes xs → Bytes ys → Bytes (xs ++ ys)
both_bytes [] ys a b = b
both_bytes (x ∷ xs) ys a b = with_byte x (xs ++ ys) (a 0) (both_bytes xs ys (λ i. a (suc i)) b)

-- a number's form: a last byte is below 128, and any other is 128 and what is left of a division by 128
form_bytes : (k n : ℕ) → Bytes (encode_in k n)
unfolding encode_in
form_bytes zero n = no_bytes
form_bytes (suc k) n =
    if_both Bytes (ltb n 128) (λ t. with_byte n [] (omega (arith, ltb-true n 128 t)) no_bytes)
    (λ t. with_byte (128 + n % 128) (encode_in k (n / 128)) (omega arith) (form_bytes k (n / 128)))

-- the forms of numbers
forms_bytes : (ns : List ℕ) → Bytes (forms ns)
unfolding forms flat_map encode
forms_bytes [] = no_bytes
forms_bytes (n ∷ ns) = both_bytes (encode n) (forms ns) (form_bytes max_groups n) (forms_bytes ns)

-- so the file
pub file_bytes : (L : Layout) → Bytes (file_of L)
unfolding file_of
file_bytes L = forms_bytes (written L)
