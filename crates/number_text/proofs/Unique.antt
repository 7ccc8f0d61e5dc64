-- No second result, and no second buffer, meets the contract of a public function.
-- Each `Post` is the contract itself, as the function is proved to meet it.
use Prim.Native.Nat.{ℕ}
use mathlib.Core.Path.{◌≡◌, refl, sym, ap, ◌∙◌}
use native.Mathlib.Omega.{arith}
use Rattle.std.specs.Prelude.{Result, Ok, Err}
use Rattle.laws.proofs.Only.{Determines, only}
use Rattle.numerals.proofs.Unique.{DeterminesBytes}
use Rattle.number_text.specs.declared.pack.Reader.{Reader}
use Rattle.number_text.specs.declared.pack.Packed.{Packed}
use Rattle.number_text.specs.declared.unpack.Unpacked.{Unpacked}
use Rattle.number_text.specs.Pieces.{place_of, stop_given}
use Rattle.numbers.specs.declared.Fault.{Fault}
use Rattle.numbers.proofs.Same.{from_21, fault_same}
use Rattle.number_text.proofs.pack.start.Reads as start
use Rattle.number_text.proofs.pack.pack_piece.Reads as pack_piece
use Rattle.number_text.proofs.unpack.unpack_piece.Reads as unpack_piece
use Rattle.number_text.proofs.word.read_word.Reads as read_word

-- before the first byte of a text
pub start_determined : Determines start.Post
start_determined κs a r q s = only

-- two records with the same parts are the same
same_packed : {s t : Reader} {n m i j : ℕ} → s ≡ t → n ≡ m → i ≡ j
    → ◌≡◌ {A = Packed} (record { reader = s; read = n; written = i }) (record { reader = t; read = m; written = j })
same_packed e f g = rw (e, f, g)

-- two places or faults that are told alike are the same
next_same : (a b : Result ℕ Fault) → place_of a ≡ place_of b → stop_given a ≡ stop_given b → a ≡ b
next_same (Ok at) (Ok to) p e = ap Ok p
next_same (Ok at) (Err g) p e = absurd (omega (arith, from_21 g))
next_same (Err f) (Ok to) p e = absurd (omega (arith, from_21 f))
next_same (Err f) (Err g) p e = ap Err (fault_same f g e p)

-- so are two of how far a file was read
same_unpacked : (r q : Unpacked) → r.column ≡ q.column → place_of r.next ≡ place_of q.next → r.written ≡ q.written
    → stop_given r.next ≡ stop_given q.next → r ≡ q
same_unpacked r q e f g h = rw (e, g, next_same r.next q.next f h) refl

-- a piece of a text
pub pack_piece_determined : DeterminesBytes (λ κs s. s.1.1.0.now) pack_piece.Post
pack_piece_determined κs a r q s t p o =
    let read = only p.read o.read in (
      same_packed (p.reader ∙ rw read (sym o.reader)) read (p.text.place ∙ rw read (sym o.text.place)),
      p.text.buffer ∙ rw read (sym o.text.buffer),
    )

-- a piece of a file in the number form
pub unpack_piece_determined : DeterminesBytes (λ κs s. s.1.1.1.1.0.now) unpack_piece.Post
unpack_piece_determined κs a r q s t p o = (
  same_unpacked r q (only p.column o.column) (only p.at o.at) (only p.text.place o.text.place) (only p.stop o.stop),
  only p.text.buffer o.text.buffer,
)

-- a word for one number
pub read_word_determined : Determines read_word.Post
read_word_determined κs a r q s = only
