-- However the file is cut into reads, the answer is that to the whole file.
use Prim.Native.Nat.{ℕ, zero, suc, ◌+◌, ◌<◌, ◌≤◌}
use mathlib.Core.Path.{◌≡◌, refl, sym, ap, ap₂, ◌∙◌}
use mathlib.Core.Bool.{Bool, true, false}
use mathlib.Core.List.{List, [], ◌∷◌, ◌++◌, flatten, append_assoc, append-nil}
use mathlib.Core.Logic.{◌⊎◌, inl, inr, ⊎_elim}
use native.Mathlib.Nat.{zero-add}
use native.Mathlib.Omega.{arith}
use borrow.Author.Tests.{ltb-true}
use lib.Dec.{eqb, ltb}
use lib.ListN.{length, take, drop, length-append, take-append-drop}
use lib.Seq.{length-take-le}
use Rattle.laws.specs.Choice.{when◌then◌else◌}
use Rattle.laws.proofs.Choice.{if_eq, if_ne, if_both, if_under}
use Rattle.numbers.specs.Number.{Number}
use Rattle.numbers.specs.Number.{Value, Fault}
use Rattle.numbers.specs.Number.{number_at}
use Rattle.numbers.proofs.Readings.{number_inside, fault_place, fault_number}
use Rattle.numbers.proofs.Prefix.{Kept, number_kept}
use Rattle.numbers.proofs.Further.{further, inside_further, number_further}
use Rattle.layout.specs.declared.Layout.{Layout}
use Rattle.fitted.specs.declared.Told.{Told}
use Rattle.fitted.specs.Records.{Piece}
use Rattle.fitted.specs.Numbers.{Numbers, no_numbers, before, numbers_next, numbers_from, from_place}
use Rattle.fitted.specs.Fitted.{tell, fit, none_told, tell_all}
use Rattle.fitted.specs.Pieces.{stop_of, ended, piece_of, in_file, told_in_reads, fit_in_reads}
use Rattle.fitted.proofs.FromPlace.{more_same, from_value, from_fault}
use Rattle.fitted.proofs.Whole.{fit_is}

-- ---- other bytes are put before a string

-- the same numbers, which end so many places further on
abbrev moved : ℕ → Numbers → Numbers
moved d r = record { list = r.list; fault = r.fault; place = d + r.place }

module _ (front s : List ℕ) where
  -- a number and those that follow it, or a fault
  next_moved : (rest more : ℕ → Numbers) → ((next : ℕ) → more (length front + next) ≡ moved (length front) (rest next))
      → (x : Number) → numbers_next more (further (length front) x) ≡ moved (length front) (numbers_next rest x)
  unfolding numbers_next before no_numbers
  next_moved rest more same (Value value next) = ap (before value) (same next)
  next_moved rest more same (Fault number place) = refl

  -- by the numbers that are allowed
  numbers_moved : (m at : ℕ) → numbers_from m (front ++ s) (length front + at) ≡ moved (length front) (numbers_from m s at)
  unfolding numbers_from no_numbers
  numbers_moved zero at = refl
  numbers_moved (suc m) at =
      rw (inside_further front s at, number_further front s at, next_moved (numbers_from m s) (numbers_from m (front ++ s)) (numbers_moved m) (number_at s at))
      (if_under (moved (length front)) (ltb at (length s)) (numbers_next (numbers_from m s) (number_at s at)) (no_numbers 0 at))

  -- the numbers of a string are found behind the other bytes
  from_moved : (at : ℕ) → from_place (front ++ s) (length front + at) ≡ moved (length front) (from_place s at)
  unfolding from_place
  from_moved at =
      let long : suc (length (front ++ s)) ≡ length front + suc (length s) = omega (arith, length-append front s) in
      numbers_moved (suc (length (front ++ s))) at
      ∙ ap (moved (length front)) (ap (λ n. numbers_from n s at) long ∙ more_same s (length front) (suc (length s)) at (omega arith))

-- ---- a string is a prefix of a longer one

-- numbers before others, which end as those do
abbrev after : List ℕ → Numbers → Numbers
after ns r = record { list = ns ++ r.list; fault = r.fault; place = r.place }

module _ (xs ys : List ℕ) where
  -- 22 in the prefix is 22 in the whole; else what stands behind the prefix's numbers follows them
  abbrev Goes : ℕ → Numbers → Type 0
  Goes at r =
      ((r.fault ≡ 22) × (r ≡ from_place (xs ++ ys) at))
      ⊎ ((r.fault ≡ 22 → ⊥) × (after r.list (from_place (xs ++ ys) r.place) ≡ from_place (xs ++ ys) at))

  -- no number, with no fault but that the prefix ends
  goes_none : (at fault place : ℕ) → (fault ≡ 22 → ⊥) → place ≡ at → Goes at (no_numbers fault place)
  unfolding no_numbers
  goes_none at fault place d e = inr (d, ap (from_place (xs ++ ys)) e)

  -- by what stands at a place inside the prefix
  next_goes : (rest : ℕ → Numbers) → ((next : ℕ) → Goes next (rest next)) → (at : ℕ) → at < length xs
      → (x : Number) → x ≡ number_at xs at → Kept x (number_at (xs ++ ys) at) → Goes at (numbers_next rest x)
  unfolding numbers_next before no_numbers
  next_goes rest on at h x e (inl (place, f)) = rw f (goes_none at 21 place (λ z. absurd (omega arith)) (fault_place xs at e f))
  next_goes rest on at h (Value value next) e (inr f) =
      let q = from_value (xs ++ ys) at (omega (arith, length-append xs ys)) (sym f) in
      ⊎_elim (λ g. inl (g.0, ap (before value) g.1 ∙ q)) (λ g. inr (g.0, ap (before value) g.1 ∙ q)) (on next)
  next_goes rest on at h (Fault number place) e (inr f) =
      ⊎_elim (λ g. inl (g, from_fault (xs ++ ys) at (omega (arith, length-append xs ys)) (sym f)))
      (λ g. goes_none at number place (λ z. absurd (omega (arith, g.0))) (fault_place xs at e refl)) (fault_number xs at e refl)

  -- by the numbers that are allowed
  numbers_go : (m at : ℕ) → Goes at (numbers_from m xs at)
  unfolding numbers_from
  numbers_go zero at = goes_none at 0 at (λ z. absurd (omega arith)) refl
  numbers_go (suc m) at =
      if_both (Goes at) (ltb at (length xs))
      (λ t. next_goes (numbers_from m xs) (numbers_go m) at (ltb-true at (length xs) t) (number_at xs at) refl (number_kept xs ys at))
      (λ t. goes_none at 0 at (λ z. absurd (omega arith)) refl)

-- ---- numbers end inside a string

module _ (s : List ℕ) where
  -- behind a number, or at a fault
  next_inside : (rest : ℕ → Numbers) → ((next : ℕ) → next ≤ length s → (rest next).place ≤ length s) → (at : ℕ) → at ≤ length s
      → (x : Number) → x ≡ number_at s at → (numbers_next rest x).place ≤ length s
  unfolding numbers_next before no_numbers
  next_inside rest on at h (Value value next) e = on next (number_inside s at e refl)
  next_inside rest on at h (Fault number place) e = omega (arith, fault_place s at e refl)

  -- by the numbers that are allowed
  place_inside : (m at : ℕ) → at ≤ length s → (numbers_from m s at).place ≤ length s
  unfolding numbers_from no_numbers
  place_inside zero at h = h
  place_inside (suc m) at h =
      if_both (λ (r : Numbers). r.place ≤ length s) (ltb at (length s)) (λ t. next_inside (numbers_from m s) (place_inside m) at h (number_at s at) refl) (λ t. h)

-- the numbers of what is left of a string, with more behind it, are those of the whole from there on
rest_moved : (xs ys : List ℕ) (k : ℕ) → k ≤ length xs → moved k (from_place (drop k xs ++ ys) 0) ≡ from_place (xs ++ ys) k
rest_moved xs ys k h =
    let long : length (take k xs) ≡ k = length-take-le k xs h in
    let here : length (take k xs) + 0 ≡ k = omega arith in
    ap (λ n. moved n (from_place (drop k xs ++ ys) 0)) (sym long) ∙ sym (from_moved (take k xs) (drop k xs ++ ys) 0)
    ∙ ap (λ s. from_place s (length (take k xs) + 0)) (sym (append_assoc (take k xs) (drop k xs) ys) ∙ ap (λ s. s ++ ys) (take-append-drop k xs))
    ∙ ap (from_place (xs ++ ys)) here

-- ---- what is told of a file by its reads

-- of numbers before others: what the first tell, and then the others
tell_after : (sections : ℕ) (t : Told) (ns ms : List ℕ) → tell_all sections t (ns ++ ms) ≡ tell_all sections (tell_all sections t ns) ms
unfolding tell_all
tell_after sections t [] ms = refl
tell_after sections t (n ∷ ns) ms = tell_after sections (tell sections t n) ns ms

-- 22 ends every piece, the last or not
stop_bad : (last : Bool) (fault : ℕ) → fault ≡ 22 → stop_of last fault ≡ 22
unfolding stop_of when◌then◌else◌
stop_bad last fault e = rw e

-- else a piece that is not the last ends where more is to be read
stop_wait : (fault : ℕ) → (fault ≡ 22 → ⊥) → stop_of false fault ≡ 2
unfolding stop_of when◌then◌else◌
stop_wait fault d = sym (if_ne fault 22 22 2 2 d refl)

module _ (sections : ℕ) where
  -- what numbers tell of a file of which so many bytes are gone, and of which they are the last
  abbrev last_by : ℕ → Told → Numbers → Piece
  last_by gone t r = in_file gone (ended true (tell_all sections t r.list) r.place r.fault)

  -- numbers that follow others tell after those, and end so many places further on in the file
  last_after : (gone k : ℕ) (t : Told) (ns : List ℕ) (r : Numbers) → last_by (gone + k) (tell_all sections t ns) r ≡ last_by gone t (after ns (moved k r))
  unfolding in_file ended
  last_after gone k t ns r =
      let there : gone + k + r.place ≡ gone + (k + r.place) = omega arith in
      ap₂ (λ (x : Told) (at : ℕ). record { told = x; at = at; stop = stop_of true r.fault }) (sym (tell_after sections t ns r.list)) there

  module _ (bytes more : List ℕ) (gone : ℕ) (t : Told) (on : List ℕ → ℕ → Told → Piece) where
    -- what is told of a piece that is not the last, and then of what follows it
    abbrev step : Numbers → Piece
    step q =
        let p : Piece = ended false (tell_all sections t q.list) q.place q.fault in
        when eqb p.stop 2 then on (drop p.at bytes) (gone + p.at) p.told else in_file gone p

    -- where what follows tells the rest, both tell the whole: at a bad number nothing follows, else the rest is read from there on
    step_tells : ((k : ℕ) (u : Told) → on (drop k bytes) (gone + k) u ≡ last_by (gone + k) u (from_place (drop k bytes ++ more) 0))
        → (q : Numbers) → q.place ≤ length bytes → Goes bytes more 0 q → step q ≡ last_by gone t (from_place (bytes ++ more) 0)
    unfolding ended in_file
    step_tells rest q h (inl (f, g)) =
        sym (if_ne (stop_of false q.fault) 2 _ _ _ (λ z. absurd (omega (arith, stop_bad false q.fault f))) refl)
        ∙ ap (λ (n : ℕ). record { told = tell_all sections t q.list; at = gone + q.place; stop = n }) (stop_bad false q.fault f ∙ sym (stop_bad true q.fault f))
        ∙ ap (last_by gone t) g
    step_tells rest q h (inr (f, g)) =
        sym (if_eq (stop_of false q.fault) 2 _ _ _ (stop_wait q.fault f) refl)
        ∙ rest q.place (tell_all sections t q.list)
        ∙ last_after gone q.place t q.list (from_place (drop q.place bytes ++ more) 0)
        ∙ ap (λ r. last_by gone t (after q.list r)) (rest_moved bytes more q.place h)
        ∙ ap (last_by gone t) g

  -- so each read goes on where the one before it ended: read by read
  reads_tell : (reads : List (List ℕ)) (bytes : List ℕ) (gone : ℕ) (t : Told)
      → told_in_reads sections bytes reads gone t ≡ last_by gone t (from_place (bytes ++ flatten reads) 0)
  unfolding told_in_reads piece_of flatten from_place
  reads_tell [] bytes gone t = ap (λ s. last_by gone t (from_place s 0)) (sym (append-nil bytes))
  reads_tell (r ∷ reads) bytes gone t =
      step_tells bytes (r ++ flatten reads) gone t (λ left before u. told_in_reads sections (left ++ r) reads before u)
      (λ k u. reads_tell reads (drop k bytes ++ r) (gone + k) u
      ∙ ap (λ s. last_by (gone + k) u (from_place s 0)) (append_assoc (drop k bytes) r (flatten reads)))
      (from_place bytes 0) (place_inside bytes (suc (length bytes)) 0 (omega arith)) (numbers_go bytes (r ++ flatten reads) (suc (length bytes)) 0)

-- a piece from the file's first byte on
own_file : (p : Piece) → in_file 0 p ≡ p
unfolding in_file
own_file p = ap (λ (at : ℕ). record { told = p.told; at = at; stop = p.stop }) (zero-add p.at)

-- L1: however a file of fitted sections is cut into reads, the answer is that to the whole file
pub cut_fits_same : (L : Layout) (first : List ℕ) (reads : List (List ℕ)) → fit_in_reads L first reads ≡ fit L (flatten (first ∷ reads))
unfolding fit_in_reads flatten piece_of
cut_fits_same L first reads =
    fit_is L (first ++ flatten reads) none_told (told_in_reads L.sections first reads 0 none_told) refl (reads_tell L.sections reads first 0 none_told ∙ own_file _) refl
