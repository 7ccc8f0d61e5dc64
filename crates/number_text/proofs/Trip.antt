-- What is printed of a file's numbers is read as these numbers.
use Prim.Native.Nat.{ℕ, ◌<◌, ◌≤◌}
use mathlib.Core.Path.{◌≡◌, refl, sym, ap, subst, ◌∙◌}
use mathlib.Core.Bool.{true}
use mathlib.Core.List.{List, [], ◌∷◌, ◌++◌, append-nil, append_assoc}
use native.Mathlib.Omega.{arith}
use native.Mathlib.Decide.{ℕ_discrete}
use lib.Dec.{eqb}
use lib.ListN.{length, take}
use lib.Seq.{take-length, take-append_seam, take-add}
use Rattle.laws.specs.Choice.{when◌then◌else◌}
use Rattle.laws.specs.Tests.{◌or◌}
use Rattle.laws.proofs.Choice.{if_eq, if_ne, if_both}
use Rattle.laws.proofs.Loops.{iter_keeps}
use Rattle.numbers.specs.Number.{Number}
use Rattle.numbers.specs.Number.{Value, Fault}
use Rattle.numbers.specs.Number.{largest, number_at}
use Rattle.numbers.specs.Form.{encode, Bytes}
use Rattle.numbers.proofs.Readings.{fault_place}
use Rattle.numbers.proofs.Forms.{exact}
use Rattle.numerals.specs.Digits.{decimal_digits}
use Rattle.number_text.specs.declared.pack.Reader.{Reader}
use Rattle.number_text.specs.Text.{line_end, ends_word, standing, first, after_end, next, reader_after, packed, stops_at, packed_text}
use Rattle.number_text.specs.Lines.{Run, next_column, before, behind, number_text, begun, onward, turn_of, unpacked, ended}
use Rattle.number_text.specs.Trip.{Restored}
use Rattle.number_text.proofs.Packing.{reader_append, packed_append, reader_one, packed_one}
use Rattle.number_text.proofs.Digits.{Clean, next_end, given_end, given_nothing, leaves_digits}

-- ---- what is left to be given

-- after so many numbers in a line: a new line, with nothing left; or the last number is to be ended
data Stands (column : ℕ) (r : Reader) (rest : List ℕ) : Type 0 where
  fresh : column ≡ 0 → Clean r → rest ≡ [] → Stands column r rest
  within : (column ≡ 0 → ⊥) → r.doing ≡ 1 → r.value ≤ largest → rest ≡ encode r.value → Stands column r rest

-- a space ends a word
space_ends : ends_word 32 ≡ true
unfolding ends_word ◌or◌
space_ends = refl

-- a line's end does too
line_ends : ends_word line_end ≡ true
unfolding ends_word ◌or◌
line_ends = refl

-- after a space nothing of a word is read
clean_space : (line : ℕ) → Clean (after_end line 32)
unfolding after_end standing when◌then◌else◌
clean_space line = record { doing = refl; value = refl }

-- nor after a line's end
clean_line : (line : ℕ) → Clean (after_end line line_end)
unfolding after_end standing when◌then◌else◌
clean_line line = record { doing = refl; value = refl }

-- ---- one end

-- a text, read from r on, leaves nothing of a word, and gives what is said
record Ends (r : Reader) (gift xs : List ℕ) : Type 0 where
  pub clean : Clean (reader_after r xs)
  pub gives : packed r xs ≡ gift

-- a byte that ends a word gives the number before it
ends_number : (r : Reader) (byte : ℕ) → ends_word byte ≡ true → Clean (after_end r.line byte) → r.doing ≡ 1 → r.value ≤ largest
    → Ends r (encode r.value) (byte ∷ [])
ends_number r byte e c d v = record {
  clean = subst Clean (next_end r byte e (omega (arith, d)) v ∙ sym (reader_one r byte)) c;
  gives = packed_one r byte ∙ sym (given_end r byte e d v);
}

-- a line's end after nothing gives nothing
ends_nothing : (r : Reader) → Clean r → Ends r [] (line_end ∷ [])
ends_nothing r c =
    let few : r.doing < 2 = omega (arith, c.doing) in
    let most : r.value ≤ largest = omega (arith, c.value) in record {
      clean = subst Clean (next_end r line_end line_ends few most ∙ sym (reader_one r line_end)) (clean_line r.line);
      gives = packed_one r line_end ∙ sym (given_nothing r line_end (λ z. let y : r.doing ≡ 1 = z in omega (arith, c.doing)));
    }

-- ---- one number

-- the space before it ends the number before, if there is one in the line
before_ends : (column : ℕ) (r : Reader) (rest : List ℕ) → Stands column r rest → Ends r rest (before column)
unfolding before reader_after packed
before_ends column r rest (fresh z c e) = subst (Ends r rest) (if_eq column 0 _ _ _ z refl) (record { clean = c; gives = sym e })
before_ends column r rest (within h d v e) =
    subst (Ends r rest) (if_ne column 0 _ _ _ h refl) (subst (λ xs. Ends r xs (32 ∷ [])) (sym e) (ends_number r 32 space_ends (clean_space r.line) d v))

-- what a text gives, with what is left, and where the reading then stands
record Gives (column : ℕ) (r : Reader) (gift xs : List ℕ) : Type 0 where
  pub rest : List ℕ
  pub gives : packed r xs ++ rest ≡ gift
  pub stands : Stands column (reader_after r xs) rest

-- the line's end behind it ends it, if the line is full
behind_gives : (column n : ℕ) (r : Reader) → r.doing ≡ 1 → r.value ≡ n → n ≤ largest → Dec (column ≡ 0) → Gives column r (encode n) (behind column)
unfolding behind reader_after packed
behind_gives column n r d e v (yes z) =
    let end = ends_number r line_end line_ends (clean_line r.line) d (omega (arith, e)) in
    subst (Gives column r (encode n)) (if_eq column 0 _ _ _ z refl)
    (record { rest = []; gives = append-nil _ ∙ end.gives ∙ ap encode e; stands = fresh z end.clean refl })
behind_gives column n r d e v (no h) =
    subst (Gives column r (encode n)) (if_ne column 0 _ _ _ h refl)
    (record { rest = encode n; gives = refl; stands = within h d (omega (arith, e)) (ap encode (sym e)) })

-- a number's text gives what was left before it, then the number
number_gives : (per column n : ℕ) (r : Reader) (rest : List ℕ) → n ≤ largest → Stands column r rest
    → Gives (next_column per column) r (rest ++ encode n) (number_text per column n)
unfolding number_text
number_gives per column n r rest v s =
    let a = before_ends column r rest s in
    let q : Reader = reader_after r (before column) in
    let b = leaves_digits 4 n q (omega arith) v a.clean in
    let t : Reader = reader_after q (decimal_digits 5 n) in
    let c = behind_gives (next_column per column) n t b.doing b.value v (ℕ_discrete _ 0) in
    let end : List ℕ = behind (next_column per column) in
    let two : reader_after r (before column ++ decimal_digits 5 n) ≡ t = reader_append r (before column) (decimal_digits 5 n) in
    let front : packed r (before column ++ decimal_digits 5 n) ≡ rest =
    packed_append r (before column) (decimal_digits 5 n) ∙ rw (a.gives, b.none) (append-nil rest) in
    let all : packed r (before column ++ decimal_digits 5 n ++ end) ≡ rest ++ packed t end =
    packed_append r (before column ++ decimal_digits 5 n) end ∙ rw (two, front) in
    let whole = reader_append r (before column ++ decimal_digits 5 n) end ∙ ap (λ (x : Reader). reader_after x end) two in
    record {
      rest = c.rest;
      gives = ap (λ xs. xs ++ c.rest) all ∙ append_assoc rest (packed t end) c.rest ∙ ap (λ xs. rest ++ xs) c.gives;
      stands = subst (λ (x : Reader). Stands (next_column per column) x c.rest) (sym whole) c.stands;
    }

-- ---- all numbers

module _ (per : ℕ) (bytes : List ℕ) (h : Bytes bytes) where
  -- the text so far gives the bytes so far
  abbrev So : Run → Type 0
  So u = Gives u.column first (take u.at bytes) u.text

  -- the bytes up to the place after a number
  taken_more : (at n next : ℕ) → number_at bytes at ≡ Value n next → take at bytes ++ encode n ≡ take next bytes
  taken_more at n next e =
      let form = exact bytes at n next h e in
      sym (ap (λ k. take k bytes) form.1 ∙ take-add at (length (encode n)) bytes
      ∙ ap (λ xs. take at bytes ++ take (length (encode n)) xs) form.2 ∙ ap (λ xs. take at bytes ++ xs) (take-append_seam (encode n) _))

  -- a number more
  so_value : (u : Run) (n next : ℕ) → number_at bytes u.at ≡ Value n next → So u → So (onward per u (Value n next))
  unfolding onward
  so_value u n next e s =
      let r : Reader = reader_after first u.text in
      let front : List ℕ = packed first u.text in
      let text : List ℕ = number_text per u.column n in
      let g = number_gives per u.column n r s.rest (exact bytes u.at n next h e).0 s.stands in record {
        rest = g.rest;
        gives = ap (λ xs. xs ++ g.rest) (packed_append first u.text text) ∙ append_assoc front (packed r text) g.rest
            ∙ ap (λ xs. front ++ xs) g.gives ∙ sym (append_assoc front s.rest (encode n)) ∙ ap (λ xs. xs ++ encode n) s.gives
            ∙ taken_more u.at n next e;
        stands = subst (λ (x : Reader). Stands (next_column per u.column) x g.rest) (sym (reader_append first u.text text)) g.stands;
      }

  -- what stands at the next place keeps it: a number, as above, or a fault, which leaves all as it was
  so_next : (u : Run) (x : Number) → number_at bytes u.at ≡ x → So u → So (onward per u x)
  unfolding onward
  so_next u (Value n next) e s = so_value u n next e s
  so_next u (Fault number place) e s = rw (fault_place bytes u.at (sym e) refl) s

  -- a turn keeps it: by whether there was a fault before
  so_turn : (u : Run) → So u → So (turn_of per bytes u)
  unfolding turn_of
  so_turn u s = if_both So (eqb u.stop 0) (λ e. so_next u _ refl s) (λ e. s)

  -- no text gives no bytes
  so_start : So (begun 0 0)
  unfolding begun reader_after packed first standing
  so_start = record { rest = []; gives = refl; stands = fresh refl (record { doing = refl; value = refl }) refl }

  -- so it holds after all turns
  so_far : (most : ℕ) → So (unpacked most per bytes 0 0)
  unfolding unpacked
  so_far most = iter_keeps (λ i u. So u) (λ i. turn_of per bytes) most (begun 0 0) so_start (λ i u l s. so_turn u s)

  -- ---- the whole file

  -- a text that ended its last number and gave all bytes still does so with a line end behind it, and nothing is refused
  whole_clean : (text : List ℕ) → Clean (reader_after first text) → packed first text ≡ bytes → (packed_text text ≡ bytes) × ((stops_at text).doing ≡ 0)
  unfolding packed_text stops_at
  whole_clean text c e =
      let end = ends_nothing (reader_after first text) c in (
        packed_append first text (line_end ∷ []) ∙ ap (λ xs. packed first text ++ xs) end.gives ∙ append-nil _ ∙ e,
        ap (λ (r : Reader). r.doing) (reader_append first text (line_end ∷ [])) ∙ end.clean.doing,
      )

  -- its last line is ended, if it is not yet
  whole : (u : Run) (rest : List ℕ) → packed first u.text ++ rest ≡ bytes → Stands u.column (reader_after first u.text) rest
      → (packed_text (ended u) ≡ bytes) × ((stops_at (ended u)).doing ≡ 0)
  unfolding ended
  whole u rest e (fresh z c f) =
      subst (λ text. (packed_text text ≡ bytes) × ((stops_at text).doing ≡ 0)) (if_eq u.column 0 _ _ _ z refl)
      (whole_clean u.text c (sym (append-nil _) ∙ ap (λ xs. packed first u.text ++ xs) (sym f) ∙ e))
  whole u rest e (within h d v f) =
      let r : Reader = reader_after first u.text in
      let end = ends_number r line_end line_ends (clean_line r.line) d v in
      subst (λ text. (packed_text text ≡ bytes) × ((stops_at text).doing ≡ 0)) (if_ne u.column 0 _ _ _ h refl)
      (whole_clean (u.text ++ (line_end ∷ [])) (subst Clean (sym (reader_append first u.text (line_end ∷ []))) end.clean)
      (packed_append first u.text (line_end ∷ []) ∙ ap (λ xs. packed first u.text ++ xs) (end.gives ∙ sym f) ∙ e))

  -- where all numbers of a file were printed, packing the text gives the file
  pub round_trip : (most : ℕ) → (unpacked most per bytes 0 0).at ≡ length bytes → Restored most per bytes
  round_trip most e =
      let s = so_far most in
      let all : take (unpacked most per bytes 0 0).at bytes ≡ bytes = ap (λ k. take k bytes) e ∙ take-length bytes in
      let w = whole (unpacked most per bytes 0 0) s.rest (s.gives ∙ all) s.stands in
      record { same = w.0; taken = w.1 }
