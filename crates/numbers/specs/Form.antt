-- The number form of the layout file (section 2), as it is written, and what is said of reading it.
use Rattle.std.specs.Prelude.{ℕ, zero, suc, ◌+◌, ◌-◌, ◌/◌, ◌%◌, ◌<◌, ◌≤◌, ◌≡◌, List, [], ◌∷◌, length, get_or, ltb}
use Rattle.laws.specs.Choice.{when◌then◌else◌}
use Rattle.numbers.specs.Number.{Value}
use Rattle.numbers.specs.Number.{max_groups, number_at}

-- section 2, lowest group first, top bit set on every byte but the last: a number in so many groups at most
unfoldable pub encode_in : ℕ → ℕ → List ℕ
encode_in zero n = []
encode_in (suc left) n = when ltb n 128 then n ∷ [] else (128 + n % 128) ∷ encode_in left (n / 128)

-- section 2, the form that is written for a number
unfoldable pub encode : ℕ → List ℕ
encode n = encode_in max_groups n

-- section 2, the file: each entry of a string is a byte
abbrev pub Bytes : List ℕ → Type 0
Bytes s = (i : ℕ) → get_or s i 0 < 256

-- section 2, shortest form only: what is written for a number is read as that number, to its end, and no other string of bytes is
pub record OneForm (n : ℕ) : Type 0 where
  pub read : number_at (encode n) 0 ≡ Value n (length (encode n))
  pub only : (form : List ℕ) → Bytes form → number_at form 0 ≡ Value n (length form) → form ≡ encode n

-- section 2, the file ends early: fewer than so many bytes are left from a place on, and each has its top bit set
pub record Cut (left : ℕ) (s : List ℕ) (at : ℕ) : Type 0 where
  pub few : length s - at < left
  pub more : (i : ℕ) → at ≤ i → i < length s → 128 ≤ get_or s i 0
