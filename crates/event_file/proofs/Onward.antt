-- The list from a place of the file on: as many events as the file has bytes are enough, and what stands at the place tells how it begins.
use Prim.Native.Nat.{ℕ, zero, suc, ◌+◌, ◌≤◌}
use mathlib.Core.Path.{◌≡◌, refl, sym, ap, subst}
use mathlib.Core.Bool.{Bool}
use mathlib.Core.List.{List, [], ◌++◌}
use mathlib.Core.Logic.{◌⊎◌, inl, inr, ⊎_elim}
use native.Mathlib.Omega.{arith}
use borrow.Author.Tests.{ltb-false}
use lib.Dec.{ltb}
use lib.ListN.{length}
use Rattle.laws.proofs.Choice.{if_both}
use Rattle.interlocking.specs.declared.State.{State}
use Rattle.interlocking.specs.declared.Answer.{Answer}
use Rattle.step_facts.specs.Run.{Event}
use Rattle.numbers.specs.Number.{Number}
use Rattle.numbers.specs.Number.{Value, Fault}
use Rattle.numbers.specs.Number.{number_at}
use Rattle.numbers.proofs.Readings.{number_after, number_inside, fault_number}
use Rattle.event_file.specs.Next.{Next}
use Rattle.event_file.specs.Next.{Taken, Bad, Nothing}
use Rattle.event_file.specs.Read.{with_second, with_first, with_kind, event_at}
use Rattle.event_file.specs.Lines.{next_count}
use Rattle.event_file.specs.List.{events_word, fault_line, answer_line, list_next, list_from}
use Rattle.event_file.proofs.Reading.{event_none}

module _ (file : List ℕ) where
  -- ---- an event takes three bytes or more and ends not past the file's end, a fault is 21 or 22, and nothing stands past the end alone

  -- it is so of what stands at a place
  abbrev pub Past : ℕ → Next → Type 0
  Past at (Taken kind first second next) = (at + 3 ≤ next) × (next ≤ length file)
  Past at (Bad number place) = (number ≡ 21) ⊎ (number ≡ 22)
  Past at Nothing = length file ≤ at

  -- the fault of one number
  fault_past : (place : ℕ) {m p : ℕ} → Fault m p ≡ number_at file place → (m ≡ 21) ⊎ (m ≡ 22)
  fault_past place e = ⊎_elim (λ z. inr z) (λ z. inl z.0) (fault_number file place e refl)

  -- the second number of an event, read two bytes behind the place or further
  second_past : (at kind first place : ℕ) (n : Number) → at + 2 ≤ place → n ≡ number_at file place → Past at (with_second kind first n)
  unfolding with_second
  second_past at kind first place (Value value next) h e = (omega (arith, number_after file place e refl), number_inside file place e refl)
  second_past at kind first place (Fault number p) h e = fault_past place e

  -- the first number, read a byte behind the place or further, with the second behind it
  first_past : (at kind place : ℕ) (n : Number) → at + 1 ≤ place → n ≡ number_at file place → Past at (with_first file kind n)
  unfolding with_first
  first_past at kind place (Value value next) h e =
      second_past at kind value next (number_at file next) (omega (arith, number_after file place e refl)) refl
  first_past at kind place (Fault number p) h e = fault_past place e

  -- the kind, with both numbers behind it
  kind_past : (at place : ℕ) (n : Number) → at ≤ place → n ≡ number_at file place → Past at (with_kind file n)
  unfolding with_kind
  kind_past at place (Value value next) h e =
      first_past at value next (number_at file next) (omega (arith, number_after file place e refl)) refl
  kind_past at place (Fault number p) h e = fault_past place e

  -- so it holds of every place
  pub event_past : (at : ℕ) → Past at (event_at file at)
  unfolding event_at
  event_past at = if_both (Past at) (ltb at (length file)) (λ t. kind_past at at (number_at file at) (omega arith) refl) (λ t. ltb-false at (length file) t)

  module _ (f : State → Event → Answer) (panel : Bool) (show : State → List ℕ) where
    -- ---- one more event is allowed, and there is none

    -- an event takes bytes, so what is left is enough for what follows it
    next_more : (m : ℕ)
        → ((s : State) (n at : ℕ) → length file ≤ m + at → list_from (suc m) f panel show file s n at ≡ list_from m f panel show file s n at)
        → (s : State) (n at : ℕ) (x : Next) → Past at x → length file ≤ suc m + at
        → list_next f panel show s n (λ t next. list_from (suc m) f panel show file t n next) x
        ≡ list_next f panel show s n (λ t next. list_from m f panel show file t n next) x
    unfolding list_next
    next_more m before s n at (Taken kind first second next) p h =
        let r : Answer = f s (record { kind = kind; first = first; second = second }) in
        ap (λ xs. answer_line panel show n r ++ xs) (before r.next n next (omega (arith, p.0)))
    next_more m before s n at (Bad number place) p h = refl
    next_more m before s n at Nothing p h = refl

    -- by the events that are allowed
    pub one_more : (m : ℕ) (s : State) (n at : ℕ) → length file ≤ m + at → list_from (suc m) f panel show file s n at ≡ list_from m f panel show file s n at
    unfolding list_from list_next
    one_more zero s n at h = let past : length file ≤ at = omega arith in rw (← event_none file at past)
    one_more (suc m) s n at h = next_more m (one_more m) s (next_count n) at (event_at file at) (event_past at) h

    -- ---- from a place on

    -- the list with as many events as the file may have
    abbrev pub from_place : State → ℕ → ℕ → List ℕ
    from_place s n at = list_from (suc (length file)) f panel show file s n at

    module _ (s : State) (n at : ℕ) where
      -- it begins with the line of the event there
      pub from_taken : (kind first second next : ℕ) → event_at file at ≡ Taken kind first second next
          → let r : Answer = f s (record { kind = kind; first = first; second = second }) in
          from_place s n at ≡ answer_line panel show (next_count n) r ++ from_place r.next (next_count n) next
      unfolding list_from list_next
      from_taken kind first second next e =
          let r : Answer = f s (record { kind = kind; first = first; second = second }) in
          let p : Past at (Taken kind first second next) = subst (Past at) e (event_past at) in
          rw e (ap (λ xs. answer_line panel show (next_count n) r ++ xs) (sym (one_more (length file) r.next (next_count n) next (omega (arith, p.0)))))

      -- it is the line of the fault there
      pub from_bad : (number place : ℕ) → event_at file at ≡ Bad number place → from_place s n at ≡ fault_line events_word number place
      unfolding list_from list_next
      from_bad number place e = rw e

      -- it is empty
      pub from_none : event_at file at ≡ Nothing → from_place s n at ≡ []
      unfolding list_from list_next
      from_none e = rw e
