-- The turns of a run, each from the facts that choose it.
use Prim.Native.Nat.{ℕ, zero, suc, ◌+◌, ◌-◌, ◌<◌, ◌≤◌}
use mathlib.Core.Path.{◌≡◌, refl, sym, ap, subst, ◌∙◌}
use mathlib.Core.Logic.{⊎_elim}
use mathlib.Core.Bool.{Bool, true, false, not}
use mathlib.Core.List.{List, ◌++◌}
use native.Mathlib.Nat.{add-zero}
use native.Mathlib.Numerals.{add-one}
use native.Mathlib.Omega.{arith}
use borrow.Author.Rules.{rules}
use borrow.Author.Tests.{eq-eqb, ne_eqb}
use lib.Dec.{eqb}
use lib.ListN.{length}
use Rattle.std.specs.Prelude.{Option, Some, None}
use Rattle.laws.specs.Choice.{when◌then◌else◌}
use Rattle.laws.specs.Tests.{◌and◌}
use Rattle.laws.specs.Tables.{iter}
use Rattle.laws.proofs.Choice.{if_true, if_false, if_lt, if_ge}
use Rattle.interlocking.specs.declared.State.{State}
use Rattle.interlocking.specs.declared.Answer.{Answer}
use Rattle.step_facts.specs.Run.{Event}
use Rattle.numbers.specs.declared.Fault.{Fault}
use Rattle.numbers.specs.Given.{number_of, detail_of}
use Rattle.event_file.specs.Next.{Next}
use Rattle.event_file.specs.Next.{Taken, Bad, Nothing}
use Rattle.event_file.specs.Read.{event_at}
use Rattle.event_file.specs.Lines.{next_count, line_of, most_line}
use Rattle.event_file.specs.List.{answer_line}
use Rattle.event_file.specs.Run.{Piece, Run, stopped, took, next_of, turn_of, after, turn_run, start, turns, piece_of, no_event, halted, halted_by, so_far, Went}
use Rattle.numerals.specs.Writes.{Put}
use Rattle.numerals.proofs.Writes.{put_then, put_within}
use Rattle.event_file.proofs.Onward.{Past, event_past}

-- ---- why a run ends

-- two tests of which the second fails do not both hold
pub both_fail : (t u : Bool) → u ≡ false → t and u ≡ false
unfolding ◌and◌
both_fail true u z = z
both_fail false u z = refl

module _ (last : Bool) (p : Piece) where
  -- an event that the piece's end cuts off, where more is to come
  pub ends_past : (f : Fault) → last ≡ false → number_of f ≡ 21 → halted p p.at 2 ≡ halted_by last p (no_event (Some f))
  unfolding halted_by ◌and◌ when◌then◌else◌
  ends_past f h e = rw (e, h) refl

  -- a fault in the last piece
  pub ends_cut : (f : Fault) → last ≡ true → halted p (detail_of f) (number_of f) ≡ halted_by last p (no_event (Some f))
  unfolding halted_by when◌then◌else◌
  ends_cut f h = rw (both_fail (eqb (number_of f) 21) (not last) (ap not h)) refl

  -- a bad number in any piece
  pub ends_bad : (f : Fault) → (number_of f ≡ 21 → ⊥) → halted p (detail_of f) (number_of f) ≡ halted_by last p (no_event (Some f))
  unfolding halted_by ◌and◌ when◌then◌else◌
  ends_bad f h = rw (ne_eqb (number_of f) 21 h) refl

  -- the file's end after the event before
  pub ends_last : last ≡ true → halted p p.at 3 ≡ halted_by last p (no_event None)
  unfolding halted_by when◌then◌else◌
  ends_last h = rw h refl

  -- the piece's end, where more is to come
  pub ends_more : last ≡ false → halted p p.at 2 ≡ halted_by last p (no_event None)
  unfolding halted_by when◌then◌else◌
  ends_more h = rw h refl

-- one answer has one fault
pub fault_once : {f g : Fault} → ◌≡◌ {A = Option Fault} (Some f) (Some g) → number_of g ≡ 21 → number_of f ≡ 21
fault_once e h = cc

-- ---- one turn

-- what stands at a place is no event
abbrev pub NoEvent : Next → Type 0
NoEvent (Taken kind first second next) = ⊥
NoEvent (Bad number place) = Unit {0}
NoEvent Nothing = Unit {0}

-- a run that ended, and wrote nothing more
record Ended (a : List ℕ) (from most : ℕ) (r : Piece) (g : Run) : Type 0 where
  pub went : Went a from most a r g
  pub stops : r.stop ≡ 0 → ⊥

module _ (a : List ℕ) (p r : Piece) (most : ℕ) where
  -- with an end that is not 0
  halted_ended : (at why : ℕ) → (why ≡ 0 → ⊥) → r ≡ halted p at why → Ended a p.written most r (stopped p.state p.count at why)
  unfolding halted stopped
  halted_ended at why h e = rw e (record {
    went = record {
      state = refl;
      count = refl;
      at = refl;
      stop = refl;
      text = record { buffer = refl; place = sym (add-zero p.written); near = omega arith; long = refl };
    };
    stops = h;
  })

  -- with one of two such ends
  either_ended : (t : Bool) (at why place number : ℕ) → (why ≡ 0 → ⊥) → (number ≡ 0 → ⊥)
      → r ≡ (when t then halted p at why else halted p place number)
      → Ended a p.written most r (when t then stopped p.state p.count at why else stopped p.state p.count place number)
  unfolding when◌then◌else◌
  either_ended true at why place number h k e = halted_ended at why h e
  either_ended false at why place number h k e = halted_ended place number k e

  -- by what stands at the next place, where that is no event
  next_ended : (f : State → Event → Answer) (panel : Bool) (show : State → List ℕ) (last : Bool) (bytes : List ℕ) (x : Next) → Past bytes p.at x
      → NoEvent x → r ≡ halted_by last p x
      → Ended a p.written most r (next_of f panel show last p.state p.count p.at x)
  unfolding next_of halted_by
  next_ended f panel show last bytes (Taken kind first second next) h k e = absurd k
  next_ended f panel show last bytes (Bad number place) h k e =
      either_ended _ p.at 2 place number (λ z. let y : 2 ≡ 0 = z in omega arith) (λ z. ⊎_elim (λ y. omega arith) (λ y. omega arith) h) e
  next_ended f panel show last bytes Nothing h k e =
      either_ended last p.at 3 p.at 2 (λ z. let y : 3 ≡ 0 = z in omega arith) (λ z. let y : 2 ≡ 0 = z in omega arith) e

-- an event's line is written
taken_went : (panel : Bool) (show : State → List ℕ) (a b : List ℕ) (from m n next k : ℕ) (q r : Answer) → n ≡ m → r ≡ q
    → Put a from (line_of panel (show r.next) n r.number r.detail) (most_line panel) b k
    → Went a from (most_line panel) b (so_far r.next n next k) (took panel show m next q)
unfolding took answer_line so_far
taken_went panel show a b from m n next k q r e f t =
    subst (λ x. Went a from (most_line panel) b (so_far r.next n next k) (took panel show x next q)) e
    (subst (λ (x : Answer). Went a from (most_line panel) b (so_far r.next n next k) (took panel show n next x)) f
    (record { state = refl; count = refl; at = refl; stop = refl; text = t }))

-- ---- the turns of a call

-- no more is written than the buffer holds
pub run_within : (a b : List ℕ) (s : State) (n at written : ℕ) (g : Run) → Went a 0 (length a) b (so_far s n at written) g → written ≤ length b
unfolding so_far
run_within a b s n at written g w = omega (arith, w.text.near, w.text.long)

module _ (f : State → Event → Answer) (panel : Bool) (show : State → List ℕ) (last : Bool) (bytes : List ℕ) where
  -- with room for a line: by what stands at the place
  turn_goes : (room v : ℕ) (s : State) (n at : ℕ) (x : Next) → v ≡ most_line panel → v ≤ room → x ≡ event_at bytes at
      → next_of f panel show last s n at x ≡ turn_of f panel show last bytes room s n at
  unfolding turn_of
  turn_goes room v s n at x d h e = if_ge room (most_line panel) _ _ _ (omega (arith, d)) (ap (next_of f panel show last s n at) e)

  -- with no room for it: it stops
  turn_full : (room v : ℕ) (s : State) (n at : ℕ) → v ≡ most_line panel → room < v
      → stopped s n at 1 ≡ turn_of f panel show last bytes room s n at
  unfolding turn_of
  turn_full room v s n at e h = if_lt room (most_line panel) _ _ _ (omega (arith, e)) refl

  module _ (room : ℕ) (g : Run) where
    -- the run after so many turns
    abbrev run_at : ℕ → Run
    run_at i = iter (λ k. turn_run f panel show last bytes room) i g

    -- one turn more
    more_turns : (i : ℕ) → run_at (i + 1) ≡ turn_run f panel show last bytes room (run_at i)
    unfolding iter
    more_turns i = rw add-one

    -- a run that stopped stays as it is
    stays : (i k : ℕ) → ((run_at i).stop ≡ 0 → ⊥) → run_at (k + i) ≡ run_at i
    unfolding iter turn_run
    stays i zero h = let here : 0 + i ≡ i = omega arith in ap run_at here
    stays i (suc k) h =
        let before = stays i k h in
        let next : suc k + i ≡ suc (k + i) = omega arith in
        ap run_at next ∙ sym (if_false _ _ _ _ (ne_eqb _ 0 (λ z. h (sym (ap (λ (x : Run). x.stop) before) ∙ z))) refl) ∙ before

  module _ (a : List ℕ) (s : State) (n at : ℕ) where
    -- the run of a call after so many turns
    abbrev ran_to : ℕ → Run
    ran_to i = run_at (length a) (start s n at) i

    -- no turn is made, and nothing is written
    pub run_start : Went a 0 (length a) a (so_far s n at 0) (ran_to 0)
    unfolding iter start so_far
    run_start = record { state = refl; count = refl; at = refl; stop = refl; text = record { buffer = refl; place = refl; near = omega arith; long = refl } }

    -- a turn more: what it writes stands behind what was written
    run_on : (b c : List ℕ) (p r : Piece) (i : ℕ) → Went a 0 (length a) b p (ran_to i) → p.stop ≡ 0
        → Went b p.written (length b - p.written) c r (turn_of f panel show last bytes (length b - p.written) p.state p.count p.at)
        → Went a 0 (length a) c r (ran_to (i + 1))
    unfolding turn_run after
    run_on b c p r i w z t =
        let g : Run = ran_to i in
        let room : length b - p.written ≡ length a - length g.text = omega (arith, w.text.long, w.text.place) in
        let goes : Went b p.written (length b - p.written) c r (turn_of f panel show last bytes (length a - length g.text) g.state g.count g.at) =
        rw (← room, ← w.state, ← w.count, ← w.at) t in
        let wide : length g.text + (length b - p.written) ≤ length a = omega (arith, w.text.long, w.text.place, w.text.near) in
        subst (Went a 0 (length a) c r)
        (if_true _ _ _ _ (eq-eqb _ 0 (sym w.stop ∙ z)) refl ∙ sym (more_turns (length a) (start s n at) i))
        (record {
          state = goes.state;
          count = goes.count;
          at = goes.at;
          stop = goes.stop;
          text = joined_text b c p r g (length b - p.written) wide w goes;
        })
      where
        joined_text : (b c : List ℕ) (p r : Piece) (g : Run) (m : ℕ) {t : Run} → length g.text + m ≤ length a → Went a 0 (length a) b p g
            → Went b p.written m c r t → Put a 0 (g.text ++ t.text) (length a) c r.written
        joined_text b c p r g m h w v =
            let front : Put a 0 g.text (length g.text) b p.written =
            record { buffer = w.text.buffer; place = w.text.place; near = omega (arith, w.text.place); long = w.text.long } in
            put_within (length a) h (put_then front v.text)

    -- all turns are done
    pub run_done : (b : List ℕ) (p r : Piece) (i : ℕ) → Went a 0 (length a) b p (ran_to i) → r ≡ p → i ≤ turns → turns ≤ i
        → Went a 0 (length a) b r (piece_of f panel show last bytes (length a) s n at)
    unfolding piece_of
    run_done b p r i w q h k = let e : turns ≡ i = omega arith in rw (q, e) w

    -- or the run stops before
    run_stopped : (b : List ℕ) (p : Piece) (i : ℕ) → Went a 0 (length a) b p (ran_to i) → i ≤ turns → (p.stop ≡ 0 → ⊥)
        → Went a 0 (length a) b p (piece_of f panel show last bytes (length a) s n at)
    unfolding piece_of
    run_stopped b p i w h z =
        let e : turns - i + i ≡ turns = omega arith in
        subst (Went a 0 (length a) b p) (sym (stays (length a) (start s n at) i (turns - i) (λ q. z (w.stop ∙ q))) ∙ ap ran_to e) w

    module _ (b : List ℕ) (t : State) (m place written i : ℕ) (w : Went a 0 (length a) b (so_far t m place written) (ran_to i)) (l : i < turns)
        (v : ℕ) (d : v ≡ most_line panel) where
      -- a turn that stops ends the run: what the record then holds is the run over the whole piece
      ended_run : (r : Piece) → Ended b written (length b - written) r (turn_of f panel show last bytes (length b - written) t m place)
          → Went a 0 (length a) b r (piece_of f panel show last bytes (length a) s n at)
      unfolding so_far
      ended_run r e = run_stopped b r (i + 1) (run_on b b (so_far t m place written) r i w refl e.went) (omega arith) e.stops

      -- no room for another line
      pub run_full : (p r : Piece) → length b - written < v → p ≡ so_far t m place written → r ≡ halted p place 1
          → Went a 0 (length a) b r (piece_of f panel show last bytes (length a) s n at)
      unfolding so_far
      run_full p r h e q =
          ended_run r (subst (Ended b written (length b - written) r) (turn_full (length b - written) v t m place d h)
          (halted_ended b (so_far t m place written) r (length b - written) place 1 (λ z. let y : 1 ≡ 0 = z in omega arith)
          (q ∙ ap (λ (x : Piece). halted x place 1) e)))

      module _ (x : Next) (h : v ≤ length b - written) (e : x ≡ event_at bytes place) where
        -- no event stands at the next place
        pub run_halted : (p r : Piece) → NoEvent x → p ≡ so_far t m place written → r ≡ halted_by last p x
            → Went a 0 (length a) b r (piece_of f panel show last bytes (length a) s n at)
        unfolding so_far
        run_halted p r k c q =
            ended_run r (subst (Ended b written (length b - written) r) (turn_goes (length b - written) v t m place x d h e)
            (next_ended b (so_far t m place written) r (length b - written) f panel show last bytes x
            (subst (Past bytes place) (sym e) (event_past bytes place)) k (q ∙ ap (λ (y : Piece). halted_by last y x) c)))

        -- an event is answered, and its line is written
        pub run_taken : (c : List ℕ) (kind first second next number k : ℕ) (r : Answer) → x ≡ Taken kind first second next
            → r ≡ f t (record { kind = kind; first = first; second = second }) → number ≡ next_count m
            → Put b written (line_of panel (show r.next) number r.number r.detail) (most_line panel) c k
            → Went a 0 (length a) c (so_far r.next number next k) (ran_to (i + 1))
        unfolding so_far next_of
        run_taken c kind first second next number k r o q u line =
            let went : Went b written (most_line panel) c (so_far r.next number next k) (next_of f panel show last t m place x) =
            rw o (taken_went panel show b c written (next_count m) number next k _ r u q line) in
            run_on b c (so_far t m place written) (so_far r.next number next k) i w refl
            (subst (Went b written (length b - written) c (so_far r.next number next k)) (turn_goes (length b - written) v t m place x d h e)
            (record {
              state = went.state;
              count = went.count;
              at = went.at;
              stop = went.stop;
              text = put_within (length b - written) (omega (arith, d)) went.text;
            }))

pub ruleset runs = (rules, run_start, run_within)
