-- What a call's turns print, and how far they come, told by the list of the whole file.
use Prim.Native.Nat.{ℕ, zero, suc, ◌+◌, ◌-◌, ◌<◌, ◌≤◌}
use mathlib.Core.Path.{◌≡◌, refl, sym, ap, subst, ◌∙◌}
use mathlib.Core.Bool.{Bool, true, false}
use mathlib.Core.List.{List, [], ◌++◌, append_assoc, append-nil}
use mathlib.Core.Logic.{⊎_elim}
use native.Mathlib.Omega.{arith}
use borrow.Author.Tests.{ltb-true, ltb-false, eqb-true, eqb-false}
use lib.Dec.{eqb, ltb}
use lib.ListN.{length}
use Rattle.laws.specs.Choice.{when◌then◌else◌}
use Rattle.laws.specs.Tests.{◌and◌}
use Rattle.laws.specs.Tables.{iter}
use Rattle.laws.proofs.Choice.{if_both, if_ge}
use Rattle.interlocking.specs.declared.State.{State}
use Rattle.interlocking.specs.declared.Answer.{Answer}
use Rattle.step_facts.specs.Run.{Event}
use Rattle.event_file.specs.Next.{Next}
use Rattle.event_file.specs.Next.{Taken, Bad, Nothing}
use Rattle.event_file.specs.Read.{event_at}
use Rattle.event_file.specs.Lines.{most_line}
use Rattle.event_file.specs.Run.{Run, stopped, took, next_of, turn_of, after, turn_run, start, piece_of}
use Rattle.event_file.specs.List.{events_word, fault_line}
use Rattle.event_file.proofs.Reading.{event_none}
use Rattle.event_file.proofs.Turns.{both_fail}
use Rattle.event_file.proofs.Prefix.{event_same}
use Rattle.event_file.proofs.Further.{further_next, event_further}
use Rattle.event_file.proofs.Onward.{Past, event_past, from_place, from_taken, from_bad, from_none}

module _ (f : State → Event → Answer) (panel : Bool) (show : State → List ℕ) (file gone bytes : List ℕ) (last : Bool) where
  -- the list from a place of the buffer on; `gone` is what the file has before the buffer
  abbrev pub list_at : State → ℕ → ℕ → List ℕ
  list_at s n at = from_place file f panel show s n (length gone + at)

  -- from a place on a run came so far: it goes on in the same bytes, not before the place `low`; it waits for more of the file; the file
  -- ended; or there is a fault
  pub data Outcome (s : State) (n at low : ℕ) (g : Run) : Type 0 where
    goes : g.stop < 2 → low ≤ g.at → g.at ≤ length bytes → list_at s n at ≡ g.text ++ list_at g.state g.count g.at → Outcome s n at low g
    waits : g.stop ≡ 2 → last ≡ false → at ≤ g.at → g.at ≤ length bytes → list_at s n at ≡ g.text ++ list_at g.state g.count g.at
        → Outcome s n at low g
    ends : g.stop ≡ 3 → list_at s n at ≡ g.text → Outcome s n at low g
    fails : 3 < g.stop → list_at s n at ≡ g.text ++ fault_line events_word g.stop (length gone + g.at) → Outcome s n at low g

  -- ---- one event

  module _ (s : State) (n at : ℕ) (h : at ≤ length bytes) where
    -- what stands at a place of the buffer and is read alike in the whole file, taken as in the last piece
    read_outcome : (x : Next) → Past bytes at x → event_at file (length gone + at) ≡ further_next (length gone) x
        → Outcome s n at (suc at) (next_of f panel show true s n at x)
    unfolding next_of took stopped when◌then◌else◌
    read_outcome (Taken kind first second next) p e =
        goes (omega arith) (omega (arith, p.0)) p.1 (from_taken file f panel show s n (length gone + at) kind first second (length gone + next) e)
    read_outcome (Bad number place) p e =
        rw (both_fail (eqb number 21) false refl)
        (fails (⊎_elim (λ z. omega (arith, z)) (λ z. omega (arith, z)) p) (from_bad file f panel show s n (length gone + at) number (length gone + place) e))
    read_outcome Nothing p e = ends refl (from_none file f panel show s n (length gone + at) e)

    -- the next event lies past the bytes in the buffer, and more is to come: it waits
    past_outcome : last ≡ false → Outcome s n at (suc at) (stopped s n at 2)
    unfolding stopped
    past_outcome e = waits refl e (omega arith) h refl

    module _ (later : List ℕ) (cut : file ≡ gone ++ (bytes ++ later)) where
      -- the last bytes
      last_outcome : later ≡ [] → Outcome s n at (suc at) (next_of f panel show true s n at (event_at bytes at))
      last_outcome none =
          read_outcome (event_at bytes at) (event_past bytes at) (rw (cut, none, append-nil bytes) (event_further gone bytes at))

      -- more is to come: what is neither the end nor cut off is read alike
      kept : (x : Next) → event_at bytes at ≡ x → (x ≡ Nothing → ⊥) → ((place : ℕ) → x ≡ Bad 21 place → ⊥)
          → event_at file (length gone + at) ≡ further_next (length gone) x
      kept x e some whole = by_test (ltb at (length bytes)) refl
        where
          by_test : (t : Bool) → ltb at (length bytes) ≡ t → event_at file (length gone + at) ≡ further_next (length gone) x
          by_test true l =
              ⊎_elim (λ z. absurd (whole z.0 (sym e ∙ z.1)))
              (λ z. rw cut (event_further gone (bytes ++ later) at ∙ ap (further_next (length gone)) (sym z ∙ e)))
              (event_same bytes later at (ltb-true at (length bytes) l))
          by_test false l = absurd (some (sym e ∙ sym (event_none bytes at (ltb-false at (length bytes) l))))

      -- so an event or a bad number is taken, and what the bytes' end cuts off waits
      more_outcome : last ≡ false → (x : Next) → event_at bytes at ≡ x → Past bytes at x → Outcome s n at (suc at) (next_of f panel show false s n at x)
      unfolding next_of ◌and◌ when◌then◌else◌
      more_outcome q (Taken kind first second next) e p =
          read_outcome (Taken kind first second next) p
          (kept _ e (λ z. let y : ◌≡◌ {A = ℕ} 0 1 = cc in omega arith) (λ place z. let y : ◌≡◌ {A = ℕ} 0 1 = cc in omega arith))
      more_outcome q (Bad number place) e p = by_number (eqb number 21) refl
        where
          by_number : (t : Bool) → eqb number 21 ≡ t → Outcome s n at (suc at) (next_of f panel show false s n at (Bad number place))
          by_number true z = rw z (past_outcome q)
          by_number false z =
              let whole = read_outcome (Bad number place) p
              (kept _ e (λ w. let y : ◌≡◌ {A = ℕ} 0 1 = cc in omega arith) (λ there w. let y : number ≡ 21 = cc in eqb-false number 21 z y)) in
              rw z (rw z at whole)
      more_outcome q Nothing e p = past_outcome q

      -- whether the bytes are the last or not
      next_outcome : (last ≡ true → later ≡ []) → (t : Bool) → last ≡ t → Outcome s n at (suc at) (next_of f panel show t s n at (event_at bytes at))
      next_outcome none true q = last_outcome (none q)
      next_outcome none false q = more_outcome q (event_at bytes at) refl (event_past bytes at)

  -- ---- the turns of a call

  module _ (later : List ℕ) (cut : file ≡ gone ++ (bytes ++ later)) (none : last ≡ true → later ≡ []) where
    -- a turn with room for a line
    roomy_outcome : (room : ℕ) (s : State) (n at : ℕ) → at ≤ length bytes → most_line panel ≤ room
        → Outcome s n at (suc at) (turn_of f panel show last bytes room s n at)
    unfolding turn_of
    roomy_outcome room s n at h r =
        subst (Outcome s n at (suc at)) (if_ge room (most_line panel) _ _ _ r refl) (next_outcome s n at h later cut none last refl)

    -- what came past a place came as far as the place
    lower : (s : State) (n at : ℕ) (g : Run) → Outcome s n at (suc at) g → Outcome s n at at g
    lower s n at g (goes a b c e) = goes a (omega arith) c e
    lower s n at g (waits a b c d e) = waits a b c d e
    lower s n at g (ends a e) = ends a e
    lower s n at g (fails a e) = fails a e

    -- any turn
    turn_outcome : (room : ℕ) (s : State) (n at : ℕ) → at ≤ length bytes → Outcome s n at at (turn_of f panel show last bytes room s n at)
    unfolding turn_of stopped
    turn_outcome room s n at h =
        if_both (Outcome s n at at) (ltb room (most_line panel)) (λ t. goes (omega arith) (omega arith) h refl)
        (λ t. lower s n at _ (next_outcome s n at h later cut none last refl))

    module _ (s : State) (n at low : ℕ) (from : at ≤ low) where
      -- a turn after others
      after_outcome : (g t : Run) → low ≤ g.at → list_at s n at ≡ g.text ++ list_at g.state g.count g.at
          → Outcome g.state g.count g.at g.at t → Outcome s n at low (after g t)
      unfolding after
      after_outcome g t h p (goes a b c e) = goes a (omega arith) c (p ∙ ap (λ xs. g.text ++ xs) e ∙ sym (append_assoc g.text t.text _))
      after_outcome g t h p (waits a b c d e) =
          waits a b (omega arith) d (p ∙ ap (λ xs. g.text ++ xs) e ∙ sym (append_assoc g.text t.text _))
      after_outcome g t h p (ends a e) = ends a (p ∙ ap (λ xs. g.text ++ xs) e)
      after_outcome g t h p (fails a e) = fails a (p ∙ ap (λ xs. g.text ++ xs) e ∙ sym (append_assoc g.text t.text _))

      -- a run that did not stop goes on in the same bytes
      run_outcome : (room : ℕ) (g : Run) → g.stop ≡ 0 → Outcome s n at low g
          → Outcome s n at low (after g (turn_of f panel show last bytes room g.state g.count g.at))
      run_outcome room g z (goes a b c e) = after_outcome g _ b e (turn_outcome room g.state g.count g.at c)
      run_outcome room g z (waits a b c d e) = absurd (omega arith)
      run_outcome room g z (ends a e) = absurd (omega arith)
      run_outcome room g z (fails a e) = absurd (omega arith)

      -- so a turn keeps how far it came: a run that stopped stays as it is
      turned_outcome : (room : ℕ) (g : Run) → Outcome s n at low g → Outcome s n at low (turn_run f panel show last bytes room g)
      unfolding turn_run
      turned_outcome room g o =
          if_both (Outcome s n at low) (eqb g.stop 0) (λ t. run_outcome _ g (eqb-true g.stop 0 t) o) (λ t. o)

    module _ (room : ℕ) (r : most_line panel ≤ room) (s : State) (n at : ℕ) (h : at ≤ length bytes) where
      -- the first turn has room for a line, and the others keep what it came to
      turns_outcome : (i : ℕ) → Outcome s n at (suc at) (iter (λ k. turn_run f panel show last bytes room) (suc i) (start s n at))
      unfolding iter turn_run after start when◌then◌else◌
      turns_outcome zero = roomy_outcome (room - 0) s n at h (omega arith)
      turns_outcome (suc i) = turned_outcome s n at (suc at) (omega arith) room _ (turns_outcome i)

      -- so a call with room for a line comes to one of the four, and where it goes on in the same bytes it took an event
      pub piece_outcome : Outcome s n at (suc at) (piece_of f panel show last bytes room s n at)
      unfolding piece_of
      piece_outcome = turns_outcome 65535
