-- Numbers with a space between, and the bytes of a panel.
use Prim.Native.Nat.{ℕ, ◌+◌, ◌*◌, ◌≤◌}
use mathlib.Core.Path.{◌≡◌, ◌∙◌}
use mathlib.Core.List.{List}
use native.Mathlib.Omega.{arith}
use borrow.Author.Rules.{rules}
use lib.ListN.{length, get_or, set, length-set}
use Rattle.laws.specs.Tables.{join}
use Rattle.numerals.specs.Digits.{decimal_digits}
use Rattle.numerals.specs.Writes.{Put}
use Rattle.numerals.proofs.Writes.{put_none, put_one, put_then}
use Rattle.panel.specs.Writes.{Wrote}
use Rattle.panel.proofs.Writes.{join_on}
use Rattle.event_file.specs.Lines.{decimal, two_numbers, three_numbers, after_space, spaced}

-- text that is put is written, as the bytes of a panel's image are
put_wrote : {a xs b : List ℕ} {at most m : ℕ} → Put a at xs most b m → Wrote a at xs b m
put_wrote p = record { buffer = p.buffer; place = p.place }

-- ---- numbers with a space between

module _ (a b : List ℕ) (at m : ℕ) where
  -- a number, a space, a number
  pub put_two_made : (c : List ℕ) (x y n : ℕ) → Put a at (decimal_digits 20 x) 20 b m → Put (set b m 32) (m + 1) (decimal_digits 20 y) 20 c n → Put a at (two_numbers x y) 41 c n
  unfolding two_numbers decimal
  put_two_made c x y n p q = put_then (put_then p (put_one 32)) q

  -- a number, a space, two numbers
  pub put_three_made : (c : List ℕ) (x y z n : ℕ) → Put a at (decimal_digits 20 x) 20 b m → Put (set b m 32) (m + 1) (two_numbers y z) 41 c n → Put a at (three_numbers x y z) 62 c n
  unfolding three_numbers decimal
  put_three_made c x y z n p q = put_then (put_then p (put_one 32)) q

  -- a space, a byte
  pub put_spaced_made : (x : ℕ) → Put (set a at 32) (at + 1) (decimal_digits 3 x) 3 b m → Put a at (after_space x) 4 b m
  unfolding after_space
  put_spaced_made x p = put_then (put_one 32) p

-- ---- the buffer's length, past single bytes

module _ (b c xs : List ℕ) (at most n k x : ℕ) where
  -- a byte is stored, then text is written
  pub long_set : Put (set b k x) at xs most c n → length c ≡ length b
  long_set p = p.long ∙ length-set b k x

  -- text, a byte, text
  pub long_set_then : (a ys : List ℕ) (from i m : ℕ) → Put a from ys i b m → Put (set b k x) at xs most c n → length c ≡ length a
  long_set_then a ys from i m q p = long_set p ∙ q.long

  -- two bytes, text
  pub long_sets : (j y : ℕ) → Put (set (set b k x) j y) at xs most c n → length c ≡ length b
  long_sets j y p = p.long ∙ length-set (set b k x) j y ∙ length-set b k x

pub ruleset numerals = (rules, long_set, long_set_then, long_sets, put_two_made, put_three_made, put_spaced_made)

-- ---- the bytes of a panel

module _ (a bytes : List ℕ) (at : ℕ) where
  -- none yet
  pub bytes_start : Put a at (spaced 0 bytes) (4 * 0) a at
  unfolding spaced join
  bytes_start = put_none 0

  -- one more, behind those before it
  pub bytes_on : (b c : List ℕ) (i m n : ℕ) → Put a at (spaced i bytes) (4 * i) b m → Put b m (after_space (get_or bytes i 0)) 4 c n
      → Put a at (spaced (i + 1) bytes) (4 * (i + 1)) c n
  unfolding spaced
  bytes_on b c i m n p q =
      let w : Wrote a at (join (i + 1) (λ k. after_space (get_or bytes k 0))) c n = join_on _ _ _ _ _ _ _ _ (put_wrote p) (put_wrote q) in
      let both = put_then p q in
      record { buffer = w.buffer; place = w.place; near = omega (arith, both.near); long = both.long }

  -- all of them
  pub bytes_end : (b : List ℕ) (i n m : ℕ) → Put a at (spaced i bytes) (4 * i) b m → i ≤ n → n ≤ i → Put a at (spaced n bytes) (4 * n) b m
  bytes_end b i n m p g h = let e : n ≡ i = omega arith in rw e p

pub ruleset panels = (rules, bytes_start, bytes_on, bytes_end)
