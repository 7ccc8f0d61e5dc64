-- What is printed of a length, read back by its point, is its millimetres, and so within half a millimetre of it.
use Prim.Native.Nat.{ℕ, zero, suc, ◌+◌, ◌-◌, ◌*◌, ◌/◌, ◌%◌, ◌^◌, ◌≤◌, ◌<◌}
use mathlib.Core.Path.{◌≡◌, refl, sym, ap, subst, ◌∙◌}
use mathlib.Core.Bool.{Bool, true, false, not, ◌&&◌, true≢false}
use mathlib.Core.List.{List, [], ◌∷◌, ◌++◌}
use native.Mathlib.Omega.{arith}
use native.Mathlib.Nat.{div-lt_iff_lt-mul, mul_comm, pow-succ'}
use borrow.Author.Tests.{le-leb, eqb-true, ne_eqb}
use lib.Dec.{eqb, leb, lit<}
use lib.ListN.{length, get_or}
use lib.Ieee.{Float}
use Rattle.laws.specs.Choice.{when◌then◌else◌}
use Rattle.laws.specs.Tests.{◌and◌}
use Rattle.laws.proofs.Choice.{which, holds, fails, chosen, passed_over}
use Rattle.laws.proofs.Tests.{and_both}
use Rattle.number_text.specs.Text.{is_digit}
use Rattle.numerals.specs.Words.{ascii}
use Rattle.block_lengths.specs.Fractions.{within}
use Rattle.block_lengths.specs.Lengths.{answer}
use Rattle.block_lengths.specs.Millimetres.{nearest_millimetre, millimetres}
use Rattle.block_lengths.specs.Paper.{speeds, row_of, seconds_over, table71, table72}
use Rattle.block_lengths.specs.Right.{sixtieths, On, OnTheLine}
use Rattle.block_lengths.proofs.Right.{right, line_short, on_its_row}
use Rattle.block_lengths.proofs.Tables.{rises71, rises72, short71, short72}
use Rattle.lengths_text.specs.Places.{place, places, filled, metres_text}
use Rattle.lengths_text.specs.ReadBack.{before, behind, with_byte, read_on, read_back, Printed, Legible}

-- a text and one behind it are read one after the other
read_both : (n : ℕ) (xs ys : List ℕ) → read_on n (xs ++ ys) ≡ read_on (read_on n xs) ys
unfolding read_on
read_both n [] ys = refl
read_both n (x ∷ xs) ys = read_both (with_byte n x) xs ys

-- a byte behind a text
read_last : (n x : ℕ) (xs : List ℕ) → read_on n (xs ++ (x ∷ [])) ≡ with_byte (read_on n xs) x
unfolding read_on
read_last n x xs = read_both n xs (x ∷ [])

-- a digit is added behind the number
digit_read : (n d : ℕ) → d < 10 → with_byte n (48 + d) ≡ 10 * n + d
unfolding with_byte is_digit
digit_read n d h =
    chosen (leb 48 (48 + d) and leb (48 + d) 57) _ _ (and_both _ _ (le-leb 48 (48 + d) (omega arith)) (le-leb (48 + d) 57 (omega arith)))
    ∙ ap (λ z. 10 * n + z) (back d)
  where
    back : (d : ℕ) → 48 + d - 48 ≡ d
    back d = omega arith

-- the last digit behind the others is the number
last_read : (n : ℕ) → with_byte (n / 10) (48 + n % 10) ≡ n
last_read n = digit_read (n / 10) (n % 10) (omega arith) ∙ whole n
  where
    whole : (n : ℕ) → 10 * (n / 10) + n % 10 ≡ n
    whole n = omega arith

-- a tenth of a number of so many digits has one less
tenth : (n k : ℕ) → n < 10 ^ suc k → n / 10 < 10 ^ k
tenth n k h = (div-lt_iff_lt-mul (lit< tt)).1 (subst (λ z. n < z) (pow-succ' 10 k ∙ mul_comm 10 (10 ^ k)) h)

-- what fills a place where the number is over adds nothing: a space, and a zero before any digit
module _ (fill : ℕ) (nothing : with_byte 0 fill ≡ 0) where
  -- a place before the last: the fill where the number is over, else its digit
  place_read : (n : ℕ) → with_byte (n / 10) (place fill n) ≡ n
  unfolding place
  place_read n = elim (which (eqb n 0)) [
    | holds e ↦ ap (λ z. with_byte (n / 10) z) (chosen (eqb n 0) fill (48 + n % 10) e) ∙ over (eqb-true n 0 e)
    | fails e ↦ ap (λ z. with_byte (n / 10) z) (passed_over (eqb n 0) fill (48 + n % 10) e) ∙ last_read n
  ]
    where
      over : n ≡ 0 → with_byte (n / 10) fill ≡ n
      over e = ap (λ z. with_byte (z / 10) fill) e ∙ nothing ∙ sym e

  -- so the places of a number that has no more digits are the number
  places_read : (k n : ℕ) → n < 10 ^ k → read_on 0 (places fill k n) ≡ n
  unfolding read_on places
  places_read zero n h = omega (arith, h)
  places_read (suc k) n h =
      read_last 0 (place fill n) (places fill k (n / 10)) ∙ ap (λ z. with_byte z (place fill n)) (places_read k (n / 10) (tenth n k h)) ∙ place_read n

  -- and with its last digit too
  filled_read : (k n : ℕ) → n < 10 ^ suc k → read_on 0 (filled fill k n) ≡ n
  unfolding filled
  filled_read k n h =
      read_last 0 (48 + n % 10) (places fill k (n / 10)) ∙ ap (λ z. with_byte z (48 + n % 10)) (places_read k (n / 10) (tenth n k h)) ∙ last_read n

-- metres in eight places
metres_read : (n : ℕ) → n < 100000000 → read_on 0 (filled 32 7 n) ≡ n
unfolding with_byte is_digit ◌and◌ when◌then◌else◌
metres_read n h = filled_read 32 refl 7 n h

-- millimetres in three
millimetres_read : (n : ℕ) → n < 1000 → read_on 0 (filled 48 2 n) ≡ n
unfolding with_byte is_digit ◌and◌ when◌then◌else◌
millimetres_read n h = filled_read 48 refl 2 n h

-- ---- the point

-- a text without a point
no_point : List ℕ → Bool
no_point [] = true
no_point (x ∷ xs) = not (eqb x 46) && no_point xs

-- a byte behind it that is no point leaves it without one
no_point_last : (xs : List ℕ) (x : ℕ) → no_point xs ≡ true → eqb x 46 ≡ false → no_point (xs ++ (x ∷ [])) ≡ true
unfolding no_point
no_point_last [] x p e = rw e
no_point_last (y ∷ xs) x p e = both (not (eqb y 46)) (no_point xs) (no_point (xs ++ (x ∷ []))) p (λ q. no_point_last xs x q e)
  where
    both : (a b c : Bool) → a && b ≡ true → (b ≡ true → c ≡ true) → a && c ≡ true
    both true b c q f = f q
    both false b c q f = q

-- a digit is no point
digit_no_point : (d : ℕ) → eqb (48 + d) 46 ≡ false
digit_no_point d = ne_eqb (48 + d) 46 (λ e. let f : 48 + d ≡ 46 = e in omega arith)

-- nor is a space
place_no_point : (n : ℕ) → eqb (place 32 n) 46 ≡ false
unfolding place
place_no_point n = elim (which (eqb n 0)) [
  | holds e ↦ ap (λ z. eqb z 46) (chosen (eqb n 0) 32 (48 + n % 10) e)
  | fails e ↦ ap (λ z. eqb z 46) (passed_over (eqb n 0) 32 (48 + n % 10) e) ∙ digit_no_point (n % 10)
]

-- so no place is
places_no_point : (k n : ℕ) → no_point (places 32 k n) ≡ true
unfolding places no_point
places_no_point zero n = refl
places_no_point (suc k) n = no_point_last (places 32 k (n / 10)) (place 32 n) (places_no_point k (n / 10)) (place_no_point n)

-- and no metres have one
metres_no_point : (n : ℕ) → no_point (filled 32 7 n) ≡ true
unfolding filled
metres_no_point n = no_point_last (places 32 7 (n / 10)) (48 + n % 10) (places_no_point 7 (n / 10)) (digit_no_point (n % 10))

-- a text without a point, a point, and a text: the first stands before the point, and the second behind it
split : (xs ys : List ℕ) → no_point xs ≡ true → (before (xs ++ (46 ∷ []) ++ ys) ≡ xs) × (behind (xs ++ (46 ∷ []) ++ ys) ≡ ys)
unfolding no_point before behind when◌then◌else◌
split [] ys p = (refl, refl)
split (x ∷ xs) ys p = further (eqb x 46) p (split xs ys)
  where
    further : (t : Bool) → not t && no_point xs ≡ true → (no_point xs ≡ true → (before (xs ++ (46 ∷ []) ++ ys) ≡ xs) × (behind (xs ++ (46 ∷ []) ++ ys) ≡ ys))
        → ((when t then [] else x ∷ before (xs ++ (46 ∷ []) ++ ys)) ≡ x ∷ xs) × ((when t then xs ++ (46 ∷ []) ++ ys else behind (xs ++ (46 ∷ []) ++ ys)) ≡ ys)
    further true q f = absurd (true≢false (sym q))
    further false q f = let r = f q in (ap (λ zs. x ∷ zs) r.0, r.1)

-- ---- a length

module _ (mm : ℕ) where
  -- its metres, the point, its millimetres
  parts : (before (metres_text mm) ≡ filled 32 7 (mm / 1000)) × (behind (metres_text mm) ≡ filled 48 2 (mm % 1000))
  unfolding metres_text ascii
  parts = split (filled 32 7 (mm / 1000)) (filled 48 2 (mm % 1000)) (metres_no_point (mm / 1000))

  -- three places behind the point
  three_places : length (behind (metres_text mm)) ≡ 3
  unfolding filled places
  three_places = ap length parts.1

  -- of less than 10 ^ 11 mm it is read back as it is
  pub read_back_law : mm < 100000000000 → read_back (metres_text mm) ≡ mm
  unfolding read_back
  read_back_law h =
      ap (λ xs. 1000 * read_on 0 xs + read_on 0 (behind (metres_text mm))) parts.0
      ∙ ap (λ xs. 1000 * read_on 0 (filled 32 7 (mm / 1000)) + read_on 0 xs) parts.1
      ∙ ap (λ n. 1000 * n + read_on 0 (filled 48 2 (mm % 1000))) (metres_read (mm / 1000) (omega arith))
      ∙ ap (λ n. 1000 * (mm / 1000) + n) (millimetres_read (mm % 1000) (omega arith))
      ∙ whole
    where
      whole : 1000 * (mm / 1000) + mm % 1000 ≡ mm
      whole = omega arith

-- a line of at most 65,536 m has no more millimetres
few : (n : ℕ) → n ≤ 3932160 → nearest_millimetre n 60 < 100000000000
unfolding nearest_millimetre
few n h = omega arith

-- so what is printed of a length of a table is within half a millimetre of it
printed_half : (t : List (List ℕ)) (headway column row seconds : ℕ) (x : Float) → sixtieths t row seconds column ≤ 3932160 → On row seconds headway
    → OnTheLine t headway column x → Printed x
printed_half t headway column row seconds x h o p = record {
  three = three_places (millimetres x);
  half =
      subst (λ n. within 2000 x n 1000 ≡ true)
      (sym (read_back_law (millimetres x) (subst (λ n. n < 100000000000) (sym (p.nearest row seconds o)) (few (sixtieths t row seconds column) h))))
      p.half;
}

-- and so of every answer that is no refusal
pub legible : (headway column : ℕ) → 120 ≤ headway → headway ≤ 600 → column < 6 → Legible (answer headway (get_or speeds column 0)).lengths
legible headway column l h c =
    let r = right headway column l h c in
    let o = on_its_row headway l in
    record {
      plain_printed = printed_half table71 headway column (row_of headway) (seconds_over headway) _ (line_short table71 rises71 short71 headway column h c) o r.plain_line;
      stopping_printed = printed_half table72 headway column (row_of headway) (seconds_over headway) _ (line_short table72 rises72 short72 headway column h c) o r.stopping_line;
    }
