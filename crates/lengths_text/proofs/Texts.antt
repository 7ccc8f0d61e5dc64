-- Pieces of text, one behind the other, are the text.
use Prim.Native.Nat.{ℕ, ◌+◌, ◌*◌, ◌/◌, ◌%◌, ◌<◌, ◌≤◌}
use mathlib.Core.Path.{◌≡◌, refl, sym, ap, subst, ◌∙◌}
use mathlib.Core.Bool.{Bool}
use mathlib.Core.List.{List, [], ◌∷◌, ◌++◌}
use native.Mathlib.Omega.{arith}
use borrow.Author.Rules.{rules}
use lib.Dec.{lit≤}
use lib.ListN.{length, get_or}
use lib.Ieee.{Float}
use Rattle.laws.proofs.Choice.{if_eq, if_ne}
use Rattle.laws.specs.Tables.{join}
use Rattle.numerals.specs.Words.{ascii}
use Rattle.numerals.specs.Digits.{decimal_digits, fitting}
use Rattle.numerals.specs.Writes.{Put}
use Rattle.numerals.proofs.Writes.{put_then, put_within}
use Rattle.numerals.proofs.Numerals.{put_fitting, put_no_room, put_room}
use Rattle.std.specs.Prelude.{Result, Ok, Err}
use Rattle.block_lengths.specs.declared.BlockLengths.{BlockLengths}
use Rattle.block_lengths.specs.declared.LengthsAnswer.{LengthsAnswer}
use Rattle.block_lengths.specs.declared.Refusal.{Refusal}
use Rattle.block_lengths.specs.Told.{refusal_number, told}
use Rattle.block_lengths.specs.Paper.{speeds, entry}
use Rattle.block_lengths.specs.Lengths.{refusal, answer}
use Rattle.block_lengths.specs.Millimetres.{millimetres}
use Rattle.lengths_text.specs.Places.{filled, metres_text}
use Rattle.lengths_text.specs.Answer.{named, measured, lengths_text, refusal_text, answer_text, most_answer, answer_in}
use Rattle.lengths_text.specs.Sheet.{table_of, side_by_side, row_text, table_text, sheet, most_sheet, sheet_in}
use Rattle.lengths_text.proofs.Metres.{some_number}
use Rattle.lengths_text.proofs.Writing.{join_start, join_next, join_end}

module _ (a b : List ℕ) (at i : ℕ) where
  -- a word and a number
  pub named_made : (word c : List ℕ) (n k : ℕ) → Put a at word (length word) b i → at + (length word + 10) ≤ length a
      → Put b i (fitting (length b) i 10 (decimal_digits 10 n)) 10 c k → Put a at (named word n) (length word + 10) c k
  unfolding named
  named_made word c n k p r q = put_then p (put_fitting b i 10 (decimal_digits 10 n) c k (omega (arith, p.near, p.long)) q)

  -- metres, the point, millimetres
  metres_made : (c d : List ℕ) (m j k : ℕ) → Put a at (filled 32 7 (m / 1000)) 8 b i → Put b i (46 ∷ []) 1 c j → Put c j (filled 48 2 (m % 1000)) 3 d k
      → Put a at (metres_text m) 12 d k
  unfolding metres_text ascii
  metres_made c d m j k p q r = put_then (put_then p q) r

  -- and a word
  pub measured_made : (x : Float) (word c d e : List ℕ) (m j k l : ℕ) → m ≡ millimetres x → Put a at (filled 32 7 (m / 1000)) 8 b i → Put b i (46 ∷ []) 1 c j
      → Put c j (filled 48 2 (m % 1000)) 3 d k → Put d k word (length word) e l → Put a at (measured x word) (12 + length word) e l
  unfolding measured
  measured_made x word c d e m j k l v p q r s =
      subst (λ z. Put a at (metres_text z ++ word) (12 + length word) e l) v (put_then (metres_made c d m j k p q r) s)

-- ---- the answer

module _ (a b : List ℕ) (i : ℕ) where
  -- 28
  pub headway_told : Put a 0 (ascii "28: the headway is not one of 120 to 600 seconds\n") 49 b i → Put a 0 (refusal_text 28) most_answer b i
  unfolding refusal_text
  headway_told p = subst (λ xs. Put a 0 xs most_answer b i) (if_eq 28 28 _ _ _ refl refl) (put_within most_answer (lit≤ tt) p)

  -- 29
  pub speed_told : Put a 0 (ascii "29: the speed is none of 70, 90, 100, 130, 160 and 200 km/h\n") 60 b i → Put a 0 (refusal_text 29) most_answer b i
  unfolding refusal_text
  speed_told p = subst (λ xs. Put a 0 xs most_answer b i) (if_ne 29 28 _ _ _ (λ e. omega (arith, e)) refl) (put_within most_answer (lit≤ tt) p)

-- no room for an answer
pub answer_none : (a : List ℕ) (headway speed : ℕ) → length a < 256 → Put a 0 (answer_in (length a) headway speed) most_answer a 0
answer_none a headway speed h = put_no_room a 0 most_answer (answer_text (answer headway speed)) (omega arith)

module _ (a b : List ℕ) (i headway speed : ℕ) (r : LengthsAnswer) (e : r ≡ answer headway speed) where
  -- the text of what is answered, where there is room for it
  answer_told : 256 ≤ length a → (xs : List ℕ) → xs ≡ answer_text r → Put a 0 xs most_answer b i → Put a 0 (answer_in (length a) headway speed) most_answer b i
  answer_told h xs t p =
      put_room a 0 most_answer (answer_text (answer headway speed)) b i (omega arith) (subst (λ zs. Put a 0 zs most_answer b i) (t ∙ ap answer_text e) p)

module _ (a b : List ℕ) (i headway speed : ℕ) (r : Result BlockLengths Refusal) (e : told r ≡ answer headway speed) (h : 256 ≤ length a) where
  -- the lengths
  pub answer_granted : (v : BlockLengths) → r ≡ Ok v → Put a 0 (lengths_text v) most_answer b i → Put a 0 (answer_in (length a) headway speed) most_answer b i
  unfolding answer_text
  answer_granted v f p = answer_told a b i headway speed (told (Ok v)) (ap told (sym f) ∙ e) h (lengths_text v) (if_eq 0 0 _ _ _ refl refl) p

  -- the refusal
  pub answer_refused : (v : Refusal) → r ≡ Err v → Put a 0 (refusal_text (refusal_number v)) most_answer b i → Put a 0 (answer_in (length a) headway speed) most_answer b i
  unfolding answer_text refusal
  answer_refused v f p =
      answer_told a b i headway speed (told (Err v)) (ap told (sym f) ∙ e) h (refusal_text (refusal_number v)) (if_ne (refusal_number v) 0 _ _ _ (some_number v) refl) p

-- ---- the sheet

module _ (a b : List ℕ) (at i : ℕ) (stopping : Bool) where
  -- a row
  pub row_made : (c d e : List ℕ) (row j k l : ℕ) → Put a at (filled 32 4 (row + 2)) 5 b i → Put b i (filled 32 5 (60 * (row + 2))) 6 c j
      → Put c j (side_by_side 6 (entry (table_of stopping) row)) 48 d k → Put d k (10 ∷ []) 1 e l → Put a at (row_text stopping row) 60 e l
  unfolding row_text ascii
  row_made c d e row j k l p q r s = put_then (put_then (put_then p q) r) s

  -- no row yet, one more, all nine
  pub rows_start : Put a at (join 0 (row_text stopping)) (60 * 0) a at
  rows_start = join_start (row_text stopping) 60 a at

  pub rows_next : (c : List ℕ) (row n : ℕ) → Put a at (join row (row_text stopping)) (60 * row) b i → Put b i (row_text stopping row) 60 c n
      → Put a at (join (row + 1) (row_text stopping)) (60 * (row + 1)) c n
  rows_next c row n p q = join_next (row_text stopping) 60 a at b c row i n p q

  pub rows_end : (row : ℕ) → Put a at (join row (row_text stopping)) (60 * row) b i → row ≤ 9 → 9 ≤ row → Put a at (join 9 (row_text stopping)) 540 b i
  rows_end row p g h = join_end (row_text stopping) 60 a at 9 b row i p g h

  -- a table
  pub table_made : (c d e : List ℕ) (j k l : ℕ) → Put a at (ascii "    headway   speed in km/h\n  min     s") 39 b i → Put b i (side_by_side 6 (λ column. get_or speeds column 0)) 48 c j
      → Put c j (ascii "\n") 1 d k → Put d k (join 9 (row_text stopping)) 540 e l → Put a at (table_text stopping) 628 e l
  unfolding table_text
  table_made c d e j k l p q r s = put_then (put_then (put_then p q) r) s

-- no room for the sheet
pub sheet_none : (a : List ℕ) → length a < 2048 → Put a 0 (sheet_in (length a)) most_sheet a 0
sheet_none a h = put_no_room a 0 most_sheet sheet (omega arith)

-- for the functions that write rows
pub ruleset rows = (rules, rows_start, rows_next, rows_end)
