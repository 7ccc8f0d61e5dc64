-- A whole file is one piece, the last: what is told of it, or its first fault, is the answer.
use Prim.Native.Nat.{ℕ, zero, suc, ◌<◌}
use mathlib.Core.Path.{◌≡◌, refl, sym, ap, ◌∙◌}
use mathlib.Core.Bool.{true}
use mathlib.Core.List.{List}
use mathlib.Core.Logic.{◌⊎◌, inl, inr, ⊎_elim}
use native.Mathlib.Omega.{arith}
use lib.Dec.{ltb}
use lib.ListN.{length}
use Rattle.laws.specs.Choice.{when◌then◌else◌}
use Rattle.laws.proofs.Choice.{if_eq, if_ne, if_both}
use Rattle.numbers.specs.Number.{Number}
use Rattle.numbers.specs.Number.{Value, Fault}
use Rattle.numbers.specs.Number.{number_at}
use Rattle.numbers.proofs.Readings.{fault_number}
use Rattle.layout.specs.declared.Layout.{Layout}
use Rattle.fitted.specs.declared.Told.{Told}
use Rattle.fitted.specs.Records.{Piece}
use Rattle.numbers.specs.declared.Fault.{Fault as FileFault}
use Rattle.fitted.specs.declared.Piece.{Piece as PieceGiven}
use Rattle.fitted.specs.declared.End.{End}
use Rattle.fitted.specs.declared.End.TheVariants.{Later, AtEnd, Bad}
use Rattle.fitted.specs.Reading.{in_numbers, stop_given}
use Rattle.fitted.specs.Records.{Fitting}
use Rattle.fitted.specs.Numbers.{Numbers, no_numbers, before, numbers_next, numbers_from, from_place, numbers_of}
use Rattle.fitted.specs.Fitted.{with_told, equipped, fit_by, none_told, tell_all, fit}
use Rattle.fitted.specs.Pieces.{stop_of, ended, piece_of, answer}
use Rattle.fitted.proofs.Telling.{told_is}

-- what ends numbers is the end of the bytes, 21 or 22
abbrev pub Known : ℕ → Type 0
Known n = (n ≡ 0) ⊎ ((n ≡ 21) ⊎ (n ≡ 22))

module _ (file : List ℕ) where
  -- by what stands at a place
  next_known : (rest : ℕ → Numbers) → ((next : ℕ) → Known (rest next).fault) → (at : ℕ) (x : Number) → x ≡ number_at file at → Known (numbers_next rest x).fault
  unfolding numbers_next before no_numbers
  next_known rest known at (Value value next) e = known next
  next_known rest known at (Fault number place) e = inr (⊎_elim (λ z. inr z) (λ z. inl z.0) (fault_number file at e refl))

  -- by the numbers that are allowed
  numbers_known : (m at : ℕ) → Known (numbers_from m file at).fault
  unfolding numbers_from no_numbers
  numbers_known zero at = inl refl
  numbers_known (suc m) at =
      if_both (λ (r : Numbers). Known r.fault) (ltb at (length file)) (λ t. next_known (numbers_from m file) (numbers_known m) at (number_at file at) refl) (λ t. inl refl)

  -- from a place on
  pub from_known : (at : ℕ) → Known (from_place file at).fault
  unfolding from_place
  from_known at = numbers_known (suc (length file)) at

-- what is told of the numbers of a file, read as one piece
abbrev read_as : Layout → Numbers → Piece
read_as L r = ended true (tell_all L.sections none_told r.list) r.place r.fault

-- the last piece ends by 3 at the file's end
stop_end : (fault : ℕ) → fault ≡ 0 → stop_of true fault ≡ 3
unfolding stop_of when◌then◌else◌
stop_end fault e = rw e

-- and by the fault at a fault
stop_fault : (fault : ℕ) → (fault ≡ 21) ⊎ (fault ≡ 22) → stop_of true fault ≡ fault
unfolding stop_of when◌then◌else◌
stop_fault fault (inl e) = rw e
stop_fault fault (inr e) = rw e

-- the answer to a file by its numbers, where they end by its end
answer_whole : (L : Layout) (r : Numbers) → r.fault ≡ 0 → answer L (read_as L r) ≡ fit_by L r
unfolding answer ended fit_by equipped
answer_whole L r e =
    sym (if_eq (stop_of true r.fault) 3 _ _ _ (stop_end r.fault e) refl)
    ∙ ap (λ (t : Told). record { number = 0; detail = 0; layout = with_told L t }) (told_is L.sections r.list)
    ∙ if_eq r.fault 0 _ _ _ e refl

-- and where they end by a fault
answer_bad : (L : Layout) (r : Numbers) → (r.fault ≡ 21) ⊎ (r.fault ≡ 22) → answer L (read_as L r) ≡ fit_by L r
unfolding answer ended fit_by
answer_bad L r e =
    let s : stop_of true r.fault ≡ r.fault = stop_fault r.fault e in
    let far : (n : ℕ) → n < 21 → r.fault ≡ n → ⊥ = λ n h z. ⊎_elim (λ y. omega arith) (λ y. omega arith) e in
    sym (if_ne (stop_of true r.fault) 3 _ _ _ (λ z. far 3 (omega arith) (sym s ∙ z)) refl)
    ∙ ap (λ n. record { number = n; detail = r.place; layout = L }) s
    ∙ if_ne r.fault 0 _ _ _ (far 0 (omega arith)) refl

-- one or the other
answer_is : (L : Layout) (r : Numbers) → Known r.fault → answer L (read_as L r) ≡ fit_by L r
answer_is L r = ⊎_elim (answer_whole L r) (answer_bad L r)

-- so is the answer to a file that is read as one piece
pub fit_is : (L : Layout) (file : List ℕ) (none : Told) (p : Piece) {r : Fitting} → none ≡ none_told → p ≡ piece_of L.sections true file none 0 → r ≡ answer L p → r ≡ fit L file
unfolding fit piece_of numbers_of
fit_is L file none p e f g = g ∙ ap (answer L) f ∙ ap (λ (t : Told). answer L (piece_of L.sections true file t 0)) e ∙ answer_is L (from_place file 0) (from_known file 0)

-- a file that is read as one piece ends at a fault or at its end
by_end : (end : End) (fault : ℕ) → Known fault → stop_given end ≡ stop_of true fault → ((f : FileFault) → end ≡ Bad f → ⊥) → stop_given end ≡ 3
by_end (Later at) fault (inl z) e h = absurd (omega (arith, stop_end fault z))
by_end (Later at) fault (inr z) e h = absurd (⊎_elim (λ y. omega (arith, stop_fault fault z)) (λ y. omega (arith, stop_fault fault z)) z)
by_end (AtEnd at) fault k e h = refl
by_end (Bad f) fault k e h = absurd (h f refl)

pub whole_end : (L : Layout) (file : List ℕ) (t : Told) (p : PieceGiven) → in_numbers p ≡ piece_of L.sections true file t 0 → ((f : FileFault) → p.end ≡ Bad f → ⊥)
    → stop_given p.end ≡ 3
unfolding piece_of ended
whole_end L file t p e h = by_end p.end (from_place file 0).fault (from_known file 0) (ap (λ (q : Piece). q.stop) e) h
