-- The turns of a run over a file in the number form, each from the facts that choose it.
use Prim.Native.Nat.{ℕ, suc, ◌+◌, ◌*◌, ◌/◌, ◌≤◌}
use mathlib.Core.Path.{◌≡◌, refl, sym, ap, subst, ◌∙◌}
use mathlib.Core.Bool.{Bool, true, false}
use mathlib.Core.List.{List, [], ◌++◌, append-nil}
use native.Mathlib.Numerals.{add-one}
use native.Mathlib.Omega.{arith}
use lib.Dec.{eqb}
use lib.ListN.{length}
use Rattle.laws.specs.Choice.{when◌then◌else◌}
use Rattle.laws.specs.Tables.{iter}
use Rattle.laws.proofs.Choice.{if_eq, if_ne}
use Rattle.std.specs.Prelude.{Result, Ok, Err}
use Rattle.numbers.specs.declared.Given.{Given}
use Rattle.numbers.specs.declared.Fault.{Fault as FileFault}
use Rattle.numbers.specs.Given.{number_of, detail_of, given}
use Rattle.numbers.specs.Number.{Number}
use Rattle.numbers.specs.Number.{Value, Fault}
use Rattle.numbers.specs.Number.{number_at}
use Rattle.numbers.proofs.Same.{not_none}
use Rattle.numerals.specs.Writes.{Put}
use Rattle.numerals.proofs.Writes.{put_none, put_then, put_within}
use Rattle.number_text.specs.Lines.{Run, next_column, number_text, begun, onward, turn_of, unpacked}
use Rattle.number_text.specs.Pieces.{Unpacked, stop_given, held, Went}

-- ---- one turn

module _ (per : ℕ) (p : Unpacked) (r : Result Given FileFault) (a : List ℕ) where
  -- a number's text is written
  pub value_went : (b : List ℕ) {n : Given} (column k : ℕ) → r ≡ Ok n → column ≡ next_column per p.column
      → Put a p.written (number_text per p.column n.value) 7 b k
      → Went a p.written 7 b (record { column = column; at = n.next; written = k; stop = 0 }) (onward per (held p) (given r))
  unfolding onward held
  value_went b column k e f t = rw e (record { column = f; at = refl; stop = refl; text = t })

  -- a fault writes nothing
  pub fault_went : {f : FileFault} {number place : ℕ} → r ≡ Err f → number ≡ number_of f → place ≡ detail_of f
      → Went a p.written 7 a (record { column = p.column; at = place; written = p.written; stop = number }) (onward per (held p) (given r))
  unfolding onward held
  fault_went e n d = rw (e, n, d) (record { column = refl; at = refl; stop = refl; text = put_none 7 })

module _ (per : ℕ) (p : Unpacked) (x : Number) (a : List ℕ) where
  -- where there was no fault before, what stands at the next place
  pub turn_goes : (bytes b : List ℕ) (r : Unpacked) → p.stop ≡ 0 → x ≡ number_at bytes p.at → Went a p.written 7 b r (onward per (held p) x)
      → Went a p.written 7 b r (turn_of per bytes (held p))
  unfolding turn_of held
  turn_goes bytes b r z e w = subst (Went a p.written 7 b r) (if_eq _ _ _ _ _ z (ap (onward per (held p)) e)) w

-- after a fault nothing is done
pub turn_stopped : (per : ℕ) (p : Unpacked) (a bytes : List ℕ) → (p.stop ≡ 0 → ⊥) → Went a p.written 7 a p (turn_of per bytes (held p))
unfolding turn_of held
turn_stopped per p a bytes h =
    subst (Went a p.written 7 a p) (if_ne _ _ _ _ _ h refl) (record { column = refl; at = refl; stop = refl; text = put_none 7 })

-- a fault has a number
pub fault_stops : (x : Result ℕ FileFault) {f : FileFault} → x ≡ Err f → stop_given x ≡ 0 → ⊥
fault_stops x {f} e z = not_none f (sym (ap stop_given e) ∙ z)

-- ---- the turns of a call

-- the same run with nothing printed before
abbrev fresh : Run → Run
fresh u = record { column = u.column; at = u.at; stop = u.stop; text = [] }

-- what is printed after what was printed
abbrev after : List ℕ → Run → Run
after text t = record { column = t.column; at = t.at; stop = t.stop; text = text ++ t.text }

module _ (per : ℕ) (bytes : List ℕ) where
  -- what stands at a place adds its text to what was printed; a fault adds none
  onward_adds : (u : Run) (x : Number) → onward per u x ≡ after u.text (onward per (fresh u) x)
  unfolding onward
  onward_adds u (Value n next) = refl
  onward_adds u (Fault number place) = rw append-nil

  -- and nothing is added after a fault
  by_stop : (u : Run) (t : Bool)
      → (when t then onward per u (number_at bytes u.at) else u) ≡ after u.text (when t then onward per (fresh u) (number_at bytes u.at) else fresh u)
  unfolding when◌then◌else◌
  by_stop u true = onward_adds u (number_at bytes u.at)
  by_stop u false = rw append-nil

  -- a turn prints after what was printed
  turn_adds : (u : Run) → turn_of per bytes u ≡ after u.text (turn_of per bytes (fresh u))
  unfolding turn_of
  turn_adds u = by_stop u (eqb u.stop 0)

  module _ (a : List ℕ) (column at : ℕ) where
    -- the run after i turns
    abbrev ran_to : ℕ → Run
    ran_to i = iter (λ k. turn_of per bytes) i (begun column at)

    -- before the first turn nothing is written
    pub run_start : Went a 0 (7 * 0) a (record { column = column; at = at; written = 0; stop = 0 }) (ran_to 0)
    unfolding iter begun
    run_start = record { column = refl; at = refl; stop = refl; text = put_none 0 }

    -- the run that the code's record holds, with nothing printed before
    same_fresh : (b : List ℕ) (most : ℕ) (p : Unpacked) (u : Run) → Went a 0 most b p u → held p ≡ fresh u
    unfolding held
    same_fresh b most p u w = rw (w.column, w.at, w.stop)

    -- a turn writes its text behind what was written, in seven bytes at most
    pub run_on : (b c : List ℕ) (p r : Unpacked) (i : ℕ) → Went a 0 (7 * i) b p (ran_to i) → Went b p.written 7 c r (turn_of per bytes (held p))
        → Went a 0 (7 * (i + 1)) c r (ran_to (i + 1))
    unfolding iter
    run_on b c p r i w t =
        let u : Run = ran_to i in
        let v : Went b p.written 7 c r (turn_of per bytes (fresh u)) =
        subst (λ (x : Run). Went b p.written 7 c r (turn_of per bytes x)) (same_fresh b (7 * i) p u w) t in
        rw (add-one, iter, turn_adds u) (record {
          column = v.column;
          at = v.at;
          stop = v.stop;
          text = put_within (7 * suc i) (omega arith) (put_then w.text v.text);
        })

    -- after the last turn all turns are done, and the buffer had room for them
    pub run_done : (b : List ℕ) (p : Unpacked) (i n : ℕ) → n ≡ length a / 7 → i ≤ n → n ≤ i → Went a 0 (7 * i) b p (ran_to i)
        → Went a 0 (length a) b p (unpacked (length a / 7) per bytes column at)
    unfolding unpacked
    run_done b p i n e l g w =
        let here : i ≡ length a / 7 = omega arith in
        let room : 7 * i ≤ length a = omega arith in
        subst (λ k. Went a 0 (length a) b p (ran_to k)) here
        (record { column = w.column; at = w.at; stop = w.stop; text = put_within (length a) room w.text })
