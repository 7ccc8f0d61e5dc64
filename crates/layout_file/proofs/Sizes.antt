-- How many bytes the forms of numbers have: of one, of some one after another, and of lists.
use Prim.Native.Nat.{ℕ, ◌+◌, ◌*◌, ◌/◌, ◌%◌, ◌<◌, ◌≤◌}
use mathlib.Core.Path.{◌≡◌, refl, ap, sym, ◌∙◌}
use mathlib.Core.List.{List, [], ◌∷◌, ◌++◌, flat_map}
use native.Mathlib.Decide.{dec_lt}
use native.Mathlib.Omega.{arith}
use lib.ListN.{length, get_or, length-append}
use Rattle.laws.specs.Totals.{total}
use Rattle.laws.proofs.Totals.{total_same, total_each, Adds, total_join}
use Rattle.numbers.specs.Form.{encode}
use Rattle.numbers.proofs.Readings.{encode_last, encode_more}
use Rattle.layout_file.specs.Written.{listing, item_numbers, point_numbers, forms}
use Rattle.layout_file.proofs.Stands.{forms_append}

-- ---- one number

-- a number below 128 has one
pub size_short : (v : ℕ) → v < 128 → length (encode v) ≡ 1
unfolding encode
size_short v h = ap length (sym (encode_last 2 v h))

-- a number below 128 times 128 that is not below 128 has two
pub size_long : (v : ℕ) → 128 ≤ v → v < 16384 → length (encode v) ≡ 2
unfolding encode
size_long v l h =
    ap length (sym (encode_more 2 v l)) ∙ ap (λ form. length ((128 + v % 128) ∷ form)) (sym (encode_last 1 (v / 128) (omega arith)))

-- so a number below 128 times 128 has one or two
pub size_two : (v : ℕ) → v < 16384 → length (encode v) ≤ 2
size_two v h = one (dec_lt v 128)
  where
    one : Dec (v < 128) → length (encode v) ≤ 2
    one (yes l) = omega (arith, size_short v l)
    one (no l) = omega (arith, size_long v (omega arith) h)

-- ---- numbers one after another

-- the bytes of their forms
unfoldable pub size : List ℕ → ℕ
size ns = length (forms ns)

-- these are so many
pub record Sized (ns : List ℕ) (m : ℕ) : Type 0 where
  pub bytes : size ns ≡ m

-- of none
pub size_none : size [] ≡ 0
unfolding size forms flat_map
size_none = refl

-- of one and more
pub size_with : (v : ℕ) (ns : List ℕ) → size (v ∷ ns) ≡ length (encode v) + size ns
unfolding size forms flat_map
size_with v ns = length-append (encode v) (forms ns)

-- of some and more
size_append : (ns ms : List ℕ) → size (ns ++ ms) ≡ size ns + size ms
unfolding size
size_append ns ms = ap length (forms_append ns ms) ∙ length-append (forms ns) (forms ms)

-- so they add up
size_adds : Adds size
size_adds = record { none = size_none; sum = size_append }

-- the same number, told otherwise
pub sized_as : {ns : List ℕ} {a b : ℕ} → Sized ns a → a ≡ b → Sized ns b
sized_as r e = record { bytes = r.bytes ∙ e }

-- none
pub none_sized : Sized [] 0
none_sized = record { bytes = size_none }

-- one below 128 and more
pub short_sized : {v : ℕ} {ns : List ℕ} {m : ℕ} → v < 128 → Sized ns m → Sized (v ∷ ns) (1 + m)
short_sized {v} {ns} h r = record { bytes = omega (arith, size_with v ns, size_short v h) }

-- some and more
pub both_sized : {ns ms : List ℕ} {a b : ℕ} → Sized ns a → Sized ms b → Sized (ns ++ ms) (a + b)
both_sized {ns} {ms} r q = record { bytes = omega (arith, size_append ns ms) }

-- ---- lists

-- a list of fewer than 128
pub listing_sized : (n : ℕ) (each : ℕ → List ℕ) (m : ℕ → ℕ) → n < 128 → ((i : ℕ) → i < n → Sized (each i) (m i)) → Sized (listing n each) (1 + total n m)
unfolding listing
listing_sized n each m h e =
    short_sized h (record { bytes = total_join size size_adds n each ∙ total_same n (λ i. size (each i)) m (λ i l. (e i l).bytes) })

-- numbers of objects
pub items_sized : (n : ℕ) (items : List ℕ) → n < 128 → ((i : ℕ) → i < n → get_or items i 0 < 128) → Sized (item_numbers n items) (1 + n)
unfolding item_numbers
items_sized n items h low =
    sized_as (listing_sized n (λ i. get_or items i 0 ∷ []) (λ i. 1) h (λ i l. short_sized (low i l) none_sized)) (omega (arith, total_each n 1))

-- points with positions
pub points_sized : (n : ℕ) (points positions : List ℕ) → n < 128 → ((i : ℕ) → i < n → (get_or points i 0 < 128) × (get_or positions i 0 < 128))
    → Sized (point_numbers n points positions) (1 + n * 2)
unfolding point_numbers
points_sized n points positions h low =
    sized_as (listing_sized n (λ i. get_or points i 0 ∷ get_or positions i 0 ∷ []) (λ i. 2) h (λ i l. short_sized (low i l).0 (short_sized (low i l).1 none_sized)))
    (omega (arith, total_each n 2))
