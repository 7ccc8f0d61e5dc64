-- However the event file and the file of fitted sections are cut into reads, the program prints what is printed of the whole files.
use Prim.Native.Nat.{ℕ, zero, suc, ◌+◌, ◌<◌, ◌≤◌}
use mathlib.Core.Path.{◌≡◌, refl, sym, ap, ap₂, subst, ◌∙◌}
use mathlib.Core.Bool.{Bool, true, false}
use mathlib.Core.List.{List, [], ◌∷◌, ◌++◌, flatten, append_assoc, append-nil}
use native.Mathlib.Nat.{add-zero}
use native.Mathlib.Omega.{arith}
use borrow.Author.Tests.{eqb-true}
use lib.Dec.{eqb}
use lib.ListN.{length, take, drop, length-append, length-drop, take-append-drop}
use lib.Seq.{length-take-le}
use Rattle.laws.specs.Choice.{when◌then◌else◌}
use Rattle.laws.proofs.Choice.{if_lt, if_ge, if_eq, if_ne}
use Rattle.numerals.specs.Digits.{fitting}
use Rattle.layout.specs.declared.Layout.{Layout}
use Rattle.layout.specs.Load.{load}
use Rattle.layout_facts.proofs.Loaded.{loaded_sound}
use Rattle.fitted.specs.Records.{Fitting}
use Rattle.fitted.specs.Fitted.{fit}
use Rattle.fitted.proofs.Cut.{cut_fits_same}
use Rattle.interlocking.specs.declared.State.{State}
use Rattle.interlocking.specs.declared.Answer.{Answer}
use Rattle.interlocking.specs.State.{in_range, cold}
use Rattle.interlocking.specs.Step.{step}
use Rattle.step_facts.specs.Run.{Event, box, box_in_run}
use Rattle.step_facts.proofs.Range.{cold_in_range}
use Rattle.step_facts.proofs.Step.{step_in_range}
use Rattle.event_file.specs.Next.{Next}
use Rattle.event_file.specs.Next.{Taken, Bad, Nothing}
use Rattle.event_file.specs.Read.{event_at}
use Rattle.event_file.specs.Lines.{next_count, shown, shown_in_run, line_of, most_text, most_line}
use Rattle.event_file.specs.Run.{Run}
use Rattle.event_file.specs.List.{most_fault, layout_word, fitted_word, events_word, fault_line, answer_line, list_next, fault_in, opening, list_from, list_on, printed_by, printed}
use Rattle.event_file.specs.Buffer.{room_for_lines, most_calls, is_last, Onward, read_on, go_on, list_in_calls, list_on_in_calls, printed_by_in_calls, printed_in_calls}
use Rattle.event_file.proofs.PanelText.{text_room, line_room}
use Rattle.event_file.proofs.Asked.{AskedOnce, fit_once}
use Rattle.event_file.proofs.Onward.{from_place}
use Rattle.event_file.proofs.Outcomes.{Outcome, goes, waits, ends, fails, piece_outcome}

-- where there is room for the most bytes that a text may have, it is written whole
room_text : (room most : ℕ) (text : List ℕ) → most ≤ room → text ≡ fitting room 0 most text
unfolding fitting
room_text room most text h = if_ge room (0 + most) [] text text (omega arith) refl

-- a fault's line has room where any line has
fault_room : (room : ℕ) (panel : Bool) (word : List ℕ) (number detail : ℕ) → most_line panel ≤ room
    → fault_line word number detail ≡ fault_in room word number detail
fault_room room panel word number detail h = room_text room most_fault _ (omega (arith, text_room panel, line_room panel))

-- where nothing more is to be read, no bytes are left
last_none : (reads : List (List ℕ)) → is_last reads ≡ true → flatten reads ≡ []
unfolding is_last flatten
last_none [] e = refl
last_none (r ∷ reads) e = absurd (let y : ◌≡◌ {A = ℕ} 0 1 = cc in omega arith)

module _ (f : State → Event → Answer) (panel : Bool) (show : State → List ℕ) (room : ℕ) (r : most_line panel ≤ room) (file : List ℕ) where
  -- so many calls print the list from the buffer's place on, wherever that lies in the file
  abbrev Prints : ℕ → Onward → Type 0
  Prints calls on = (gone bytes : List ℕ) (reads : List (List ℕ)) (s : State) (n at : ℕ) → file ≡ gone ++ (bytes ++ flatten reads)
      → at ≤ length bytes → length bytes + length (flatten reads) + length reads < calls + at
      → on bytes reads (length gone) s n at ≡ from_place file f panel show s n (length gone + at)

  -- ---- after a call

  module _ (calls : ℕ) (on : Onward) (prints : Prints calls on) (gone bytes : List ℕ) where
    -- what is left and the next read are the next bytes of the file
    read_prints : (reads : List (List ℕ)) (g : Run) → is_last reads ≡ false → file ≡ gone ++ (bytes ++ flatten reads) → g.at ≤ length bytes
        → length bytes + length (flatten reads) + length reads < suc calls + g.at
        → read_on on bytes reads (length gone) g ≡ from_place file f panel show g.state g.count (length gone + g.at)
    unfolding is_last flatten read_on
    read_prints [] g q cut h few = absurd (let y : ◌≡◌ {A = ℕ} 0 1 = cc in omega arith)
    read_prints (more ∷ reads) g q cut h few =
        let there : length (gone ++ take g.at bytes) ≡ length gone + g.at =
        length-append gone (take g.at bytes) ∙ ap (λ k. length gone + k) (length-take-le g.at bytes h) in
        let fewer : length (drop g.at bytes ++ more) + length (flatten reads) + length reads < calls + 0 =
        omega (arith, length-append (drop g.at bytes) more, length-drop g.at bytes, length-append more (flatten reads)) in
        subst (λ before. on (drop g.at bytes ++ more) reads before g.state g.count 0 ≡ from_place file f panel show g.state g.count before) there
        (prints (gone ++ take g.at bytes) (drop g.at bytes ++ more) reads g.state g.count 0 again (omega arith) fewer
        ∙ ap (from_place file f panel show g.state g.count) (add-zero (length (gone ++ take g.at bytes))))
      where
        again : file ≡ gone ++ take g.at bytes ++ (drop g.at bytes ++ more ++ flatten reads)
        again = cut ∙ ap (λ xs. gone ++ (xs ++ (more ++ flatten reads))) (sym (take-append-drop g.at bytes)) ∙ simp append_assoc

    -- by how far the call came
    on_prints : (reads : List (List ℕ)) (s : State) (n at : ℕ) (g : Run) → file ≡ gone ++ (bytes ++ flatten reads)
        → length bytes + length (flatten reads) + length reads < suc calls + at
        → Outcome f panel show file gone bytes (is_last reads) s n at (suc at) g
        → from_place file f panel show s n (length gone + at) ≡ g.text ++ go_on room on bytes reads (length gone) g
    unfolding go_on
    on_prints reads s n at g cut few (goes a b c e) =
        e ∙ ap (λ xs. g.text ++ xs)
        (if_lt g.stop 2 _ _ _ a (sym (prints gone bytes reads g.state g.count g.at cut c (omega arith))))
    on_prints reads s n at g cut few (waits a b c d e) =
        e ∙ ap (λ xs. g.text ++ xs)
        (if_ge g.stop 2 _ _ _ (omega arith) (if_eq g.stop 2 _ _ _ a (sym (read_prints reads g b cut d (omega arith)))))
    on_prints reads s n at g cut few (ends a e) =
        e ∙ sym (append-nil g.text) ∙ ap (λ xs. g.text ++ xs)
        (if_ge g.stop 2 _ _ _ (omega arith) (if_ne g.stop 2 _ _ _ (λ z. omega arith) (if_eq g.stop 3 _ _ _ a refl)))
    on_prints reads s n at g cut few (fails a e) =
        e ∙ ap (λ xs. g.text ++ xs)
        (if_ge g.stop 2 _ _ _ (omega arith) (if_ne g.stop 2 _ _ _ (λ z. omega arith) (if_ne g.stop 3 _ _ _ (λ z. omega arith)
        (fault_room room panel events_word g.stop (length gone + g.at) r))))

  -- ---- all calls

  -- each call takes an event or a read, so there are calls enough
  calls-print : (calls : ℕ) → Prints calls (list_in_calls calls f panel show room)
  unfolding list_in_calls
  calls-print zero gone bytes reads s n at cut h few = absurd (omega arith)
  calls-print (suc calls) gone bytes reads s n at cut h few =
      sym (on_prints calls (list_in_calls calls f panel show room) (calls-print calls) gone bytes reads s n at _ cut few
      (piece_outcome f panel show file gone bytes (is_last reads) (flatten reads) cut (last_none reads) room r s n at h))

-- however the file is cut into reads, with more calls than bytes and later reads together its list is printed
cut_list_same : (f : State → Event → Answer) (panel : Bool) (show : State → List ℕ) (calls room : ℕ) (first : List ℕ) (reads : List (List ℕ)) (s : State) (n : ℕ)
    → most_line panel ≤ room → length (flatten (first ∷ reads)) + length reads < calls
    → list_in_calls calls f panel show room first reads 0 s n 0
    ≡ list_from (suc (length (flatten (first ∷ reads)))) f panel show (flatten (first ∷ reads)) s n 0
unfolding flatten
cut_list_same f panel show calls room first reads s n r few =
    calls-print f panel show room r (first ++ flatten reads) calls [] first reads s n 0 refl (omega arith) (omega (arith, length-append first (flatten reads)))

-- ---- soundness asked once, before the first event

module _ (panel : Bool) (L : Layout) (file : List ℕ) (o : AskedOnce L) where
  -- from a state in range the step of a run answers what the step does, and leaves a state in range for what follows
  next_asked_once : (rest other : State → ℕ → List ℕ) → ((t : State) (next : ℕ) → in_range t ≡ true → rest t next ≡ other t next)
      → (s : State) (n : ℕ) (x : Next) → in_range s ≡ true → list_next (box_in_run L) panel (shown_in_run L) s n rest x ≡ list_next (box L) panel (shown L) s n other x
  unfolding list_next answer_line box box_in_run
  next_asked_once rest other same s n (Taken kind first second next) e =
      let r : Answer = step L s kind first second in
      let after = step_in_range L s kind first second e in
      rw (o.steps s kind first second e)
      (ap₂ (λ bytes xs. line_of panel bytes n r.number r.detail ++ xs) (o.shows r.next after) (same r.next next after))
  next_asked_once rest other same s n (Bad number at) e = refl
  next_asked_once rest other same s n Nothing e = refl

  -- so both print the same list, by how many events are allowed
  list_asked_once : (most : ℕ) (s : State) (n at : ℕ) → in_range s ≡ true
      → list_from most (box_in_run L) panel (shown_in_run L) file s n at ≡ list_from most (box L) panel (shown L) file s n at
  unfolding list_from
  list_asked_once zero s n at e = refl
  list_asked_once (suc most) s n at e =
      next_asked_once _ _ (λ t next. list_asked_once most t (next_count n) next) s (next_count n) (event_at file at) e

-- ---- all that is printed

-- the same test chooses between equals
choice_same : (t : Bool) (x y z w : List ℕ) → (t ≡ true → x ≡ z) → (t ≡ false → y ≡ w) → when t then x else y ≡ when t then z else w
unfolding when◌then◌else◌
choice_same true x y z w p q = p refl
choice_same false x y z w p q = q refl

module _ (calls room : ℕ) (panel : Bool) (first : List ℕ) (reads : List (List ℕ)) (r : most_line panel ≤ room) (few : length (flatten (first ∷ reads)) + length reads < calls) where
  -- the list on a layout
  cut_list_on : (L : Layout) → AskedOnce L → list_on_in_calls calls room panel L first reads ≡ list_on panel L (flatten (first ∷ reads))
  unfolding list_on_in_calls list_on
  cut_list_on L o =
      ap₂ (λ xs ys. xs ++ ys) (sym (room_text room (most_line panel) (opening panel L) r))
      (cut_list_same (box_in_run L) panel (shown_in_run L) calls room first reads cold 0 r few
      ∙ list_asked_once panel L (flatten (first ∷ reads)) o _ cold 0 0 cold_in_range)

  -- by the answer to the file of fitted sections
  cut_print_by : (f : Fitting) → AskedOnce f.layout → printed_by_in_calls calls room panel f first reads ≡ printed_by panel f (flatten (first ∷ reads))
  unfolding printed_by_in_calls printed_by
  cut_print_by f o = choice_same (eqb f.number 0) _ _ _ _ (λ t. cut_list_on f.layout o) (λ t. sym (fault_room room panel fitted_word _ _ r))

  -- with room for a line, and more calls than bytes and later reads of the event file together, the program prints what is printed of the three files,
  -- however the file of fitted sections is cut
  pub cut_print_same : (layout_file told : List ℕ) (tells : List (List ℕ))
      → printed_in_calls calls room panel layout_file told tells first reads ≡ printed panel layout_file (flatten (told ∷ tells)) (flatten (first ∷ reads))
  unfolding printed_in_calls printed
  cut_print_same layout_file told tells =
      let L : Layout = (load layout_file).layout in
      choice_same (eqb (load layout_file).number 0) _ _ _ _
      (λ t. ap (λ (f : Fitting). printed_by_in_calls calls room panel f first reads) (cut_fits_same L told tells)
      ∙ cut_print_by (fit L (flatten (told ∷ tells))) (fit_once L (flatten (told ∷ tells)) (loaded_sound layout_file (eqb-true _ 0 t))))
      (λ t. sym (fault_room room panel layout_word _ _ r))

-- the program's buffer has room for every line
room_enough : (panel : Bool) → most_line panel ≤ room_for_lines
unfolding most_line most_text when◌then◌else◌
room_enough true = omega arith
room_enough false = omega arith

-- so it is with the program's own numbers
pub program_prints : (panel : Bool) (layout_file told : List ℕ) (tells : List (List ℕ)) (first : List ℕ) (reads : List (List ℕ))
    → length (flatten (first ∷ reads)) + length reads < most_calls
    → printed_in_calls most_calls room_for_lines panel layout_file told tells first reads
    ≡ printed panel layout_file (flatten (told ∷ tells)) (flatten (first ∷ reads))
program_prints panel layout_file told tells first reads few =
    cut_print_same most_calls room_for_lines panel first reads (room_enough panel) few layout_file told tells
