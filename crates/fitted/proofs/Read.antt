-- A number that is told, a piece of the file by what stands at the next place, and the answer to a file: the cases of the code.
use Prim.Native.Nat.{ℕ, ◌-◌, ◌<◌, ◌≤◌}
use mathlib.Core.Path.{◌≡◌, refl, sym, ap, ◌∙◌}
use mathlib.Core.Bool.{Bool, true, false}
use mathlib.Core.List.{List}
use native.Mathlib.Omega.{arith}
use lib.ListN.{length}
use borrow.Author.Rules.{rules}
use Rattle.laws.proofs.Choice.{if_eq, if_ne, if_le, if_gt}
use Rattle.layout.specs.declared.Layout.{Layout}
use Rattle.numbers.specs.Number.{number_at, number_told}
use Rattle.numbers.proofs.Cases.{number_same}
use Rattle.numbers.proofs.Same.{from_21}
use Rattle.numbers.proofs.Readings.{number_after}
use Rattle.fitted.specs.declared.Told.{Told}
use Rattle.std.specs.Prelude.{Result, Ok, Err}
use Rattle.laws.specs.Choice.{when◌then◌else◌}
use Rattle.numbers.specs.declared.Given.{Given}
use Rattle.numbers.specs.declared.Fault.{Fault}
use Rattle.numbers.specs.declared.Fault.TheVariants.{EndsEarly, BadlyFormed, OutOfRange, NoSuchObject, RuleBroken, LeftOver}
use Rattle.numbers.specs.Given.{number_of, detail_of, given}
use Rattle.fitted.specs.declared.Piece.{Piece as PieceGiven}
use Rattle.fitted.specs.declared.End.TheVariants.{Later, AtEnd, Bad}
use Rattle.fitted.specs.Reading.{in_numbers, stop_given, told_of}
use Rattle.fitted.specs.Records.{Piece}
use Rattle.fitted.specs.Numbers.{Numbers, no_numbers, before}
use Rattle.fitted.specs.Fitted.{with_told, lacking_with, tell, tell_all}
use Rattle.fitted.specs.Pieces.{stop_of, ended, piece_of, answer}
use Rattle.fitted.proofs.FromPlace.{from_end, from_value, from_fault}

-- ---- one number

-- of so many sections, as the code counts them
module _ (sections lacking n many : ℕ) (e : many ≡ sections) where
  -- there is no such section: one is lacking
  pub lacking_now : many ≤ n → 1 ≡ lacking_with sections lacking n
  unfolding lacking_with
  lacking_now h = if_le sections n _ _ _ (omega arith) refl

  -- there is: it is as before
  pub lacking_still : n < many → lacking ≡ lacking_with sections lacking n
  unfolding lacking_with
  lacking_still h = if_gt sections n _ _ _ (omega arith) refl

-- ---- a piece

-- the rest of a piece from a place on, after what was told until then, which is the whole piece q
module _ (sections : ℕ) (last : Bool) (bytes : List ℕ) (t : Told) (at : ℕ) {q : Piece} (whole : piece_of sections last bytes t at ≡ q) where
  -- what the numbers from the place on tell
  abbrev by : Numbers → Piece
  by r = ended last (tell_all sections t r.list) r.place r.fault

  -- the end of the bytes
  pub piece_end : {r : Piece} → length bytes ≤ at → r ≡ ended last t at 0 → r ≡ q
  unfolding piece_of no_numbers tell_all
  piece_end h e = e ∙ ap by (from_end bytes at h) ∙ whole

  module _ {r : Result Given Fault} (h : at < length bytes) (e : number_told (given r) ≡ number_told (number_at bytes at)) where
    -- a fault
    pub piece_fault : {f : Fault} {p : Piece} → r ≡ Err f → p ≡ ended last t (detail_of f) (number_of f) → p ≡ q
    unfolding piece_of no_numbers tell_all
    piece_fault f g = g ∙ ap by (from_fault bytes at h (sym (number_same _ _ e) ∙ ap given f)) ∙ whole

    -- a number is told, and what follows it is the rest
    pub piece_value : {n : Given} {u : Told} → r ≡ Ok n → u ≡ tell sections t n.value → piece_of sections last bytes u n.next ≡ q
    unfolding piece_of before tell_all
    piece_value {n} f g =
        ap (λ (x : Told). piece_of sections last bytes x n.next) g ∙ ap by (from_value bytes at h (sym (number_same _ _ e) ∙ ap given f)) ∙ whole

-- fewer bytes are left behind a number
pub piece_less : (bytes : List ℕ) (at : ℕ) {r : Result Given Fault} {n : Given} → at < length bytes → number_told (given r) ≡ number_told (number_at bytes at) → r ≡ Ok n
    → length bytes - n.next < length bytes - at
piece_less bytes at h e f = omega (arith, number_after bytes at (number_same _ _ e) (ap given f))

-- for reading a piece
pub ruleset pieces = (rules, piece_end, piece_fault, piece_value, piece_less)

-- ---- a piece that ends

-- the last piece ends by the fault
stop_fault : (f : Fault) → number_of f ≡ stop_of true (number_of f)
unfolding stop_of when◌then◌else◌
stop_fault (EndsEarly at) = refl
stop_fault (BadlyFormed at) = refl
stop_fault (OutOfRange at) = refl
stop_fault (NoSuchObject at) = refl
stop_fault (RuleBroken rule) = refl
stop_fault (LeftOver at) = refl

module _ (last : Bool) (told : Told) where
  -- at the file's end, or before it
  pub through_last : {at : ℕ} → last ≡ true → in_numbers (record { told = told; end = AtEnd at }) ≡ ended last told at 0
  unfolding ended stop_of when◌then◌else◌
  through_last e = rw e

  pub through_more : {at : ℕ} → last ≡ false → in_numbers (record { told = told; end = Later at }) ≡ ended last told at 0
  unfolding ended stop_of when◌then◌else◌
  through_more e = rw e

  module _ (f : Fault) where
    -- the last at a fault
    pub ended_last : last ≡ true → in_numbers (record { told = told; end = Bad f }) ≡ ended last told (detail_of f) (number_of f)
    unfolding ended
    ended_last e = ap (λ n. record { told = told; at = detail_of f; stop = n }) (rw e (stop_fault f))

    -- another at a bad number
    pub ended_bad : number_of f ≡ 22 → in_numbers (record { told = told; end = Bad f }) ≡ ended last told (detail_of f) (number_of f)
    unfolding ended stop_of
    ended_bad e = ap (λ n. record { told = told; at = detail_of f; stop = n }) (e ∙ if_eq _ _ _ _ _ e refl)

    -- another before a number that is cut off
    pub ended_cut : last ≡ false → (number_of f ≡ 22 → ⊥) → in_numbers (record { told = told; end = Later (detail_of f) }) ≡ ended last told (detail_of f) (number_of f)
    unfolding ended when◌then◌else◌ stop_of
    ended_cut e h = ap (λ n. record { told = told; at = detail_of f; stop = n }) (if_ne _ _ _ _ _ h (rw e))

-- ---- the answer

module _ (L : Layout) (p : PieceGiven) where
  -- the file has a fault
  pub answer_fault : (f : Fault) → p.end ≡ Bad f → told_of L (Err f) ≡ answer L (in_numbers p)
  unfolding answer
  answer_fault f e = rw e (if_ne _ _ _ _ _ (λ (z : number_of f ≡ 3). omega (arith, from_21 f)) refl)

  -- it was read to its end
  pub answer_read : {l : Layout} → stop_given p.end ≡ 3 → l ≡ with_told L p.told → told_of L (Ok l) ≡ answer L (in_numbers p)
  unfolding answer
  answer_read e f = if_eq _ _ _ _ _ e (rw f)
