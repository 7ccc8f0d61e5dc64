-- No second result and no second buffer meet the contract of a public function.
-- `Post` is the contract itself, as the function is proved to meet it.
use mathlib.Core.Path.{◌≡◌}
use mathlib.Core.List.{List}
use Prim.Native.Nat.{ℕ}
use Rattle.laws.proofs.Only.{only}
use Rattle.numerals.proofs.put_digits.Reads as put_digits
use Rattle.numerals.proofs.put_word.Reads as put_word

-- at every call, two outcomes that meet the contract have the same result and leave the same bytes
abbrev pub DeterminesBytes : {K : Type 0} {A R S : K → Type 0} → ((κs : K) → S κs → List ℕ) → ((κs : K) → A κs → R κs → S κs → Type 0) → Type 0
DeterminesBytes {K} {A} {R} {S} bytes Post =
    (κs : K) (a : A κs) (r q : R κs) (s t : S κs) → Post κs a r s → Post κs a q t → (r ≡ q) × (bytes κs s ≡ bytes κs t)

-- a number in decimal
pub put_digits_determined : DeterminesBytes (λ κs s. s.1.1.0.now) put_digits.Post
put_digits_determined κs a r q s t p o = (only p.place o.place, only p.buffer o.buffer)

-- a word
pub put_word_determined : DeterminesBytes (λ κs s. s.1.0.now) put_word.Post
put_word_determined κs a r q s t p o = (only p.place o.place, only p.buffer o.buffer)
