-- What is printed of a layout file, a file of fitted sections and an event file: the opening, a line for each event of the file, answered as a run from
-- the cold start, and what ends the list; or the line of a refused layout, or of a fault in the file of fitted sections.
use Prim.Native.Nat.{ℕ, zero, suc, ◌+◌, ◌<◌, ◌≤◌}
use mathlib.Core.Path.{◌≡◌, refl, sym, ap, ap₂, ◌∙◌}
use mathlib.Core.Bool.{Bool, true, false}
use mathlib.Core.List.{List, [], ◌∷◌, ◌++◌, flat_map, append_assoc}
use native.Mathlib.Omega.{arith}
use native.Mathlib.Numerals.{add-one}
use lib.Dec.{eqb}
use lib.ListN.{length, get_or}
use Rattle.laws.specs.Choice.{when◌then◌else◌}
use Rattle.laws.specs.Tests.{◌and◌}
use Rattle.laws.proofs.Choice.{if_lt, if_eq, if_ne}
use Rattle.laws.proofs.Tests.{fails_from}
use Rattle.layout.specs.declared.Layout.{Layout}
use Rattle.layout.specs.Sound.{sound}
use Rattle.layout.specs.Load.{load}
use Rattle.layout_facts.proofs.Loaded.{loaded_sound}
use Rattle.fitted.specs.Records.{Fitting}
use Rattle.fitted.specs.Numbers.{no_numbers, numbers_from, from_place, numbers_of}
use Rattle.fitted.specs.Fitted.{Among, fit_by, fit}
use Rattle.fitted.specs.InUse.{InUse}
use Rattle.fitted.proofs.Equipped.{equipped_none, equipped_sound}
use Rattle.fitted.proofs.InUse.{in_use_sound}
use Rattle.fitted.proofs.Answers.{fit_done}
use Rattle.interlocking.specs.declared.State.{State}
use Rattle.interlocking.specs.declared.Answer.{Answer}
use Rattle.interlocking.specs.State.{cold, in_range}
use Rattle.panel.specs.Panel.{image, refused, answer_where, answer}
use Rattle.step_facts.specs.Run.{Event, event, box, answers, from_cold}
use Rattle.step_facts.proofs.Range.{cold_in_range}
use Rattle.step_facts.proofs.Step.{step_in_range, unsound_18}
use Rattle.step_facts.proofs.Run.{cold_run_in_range}
use Rattle.event_file.specs.Next.{Next}
use Rattle.event_file.specs.Next.{Taken, Bad, Nothing}
use Rattle.event_file.specs.Read.{event_at}
use Rattle.event_file.specs.Lines.{next_count, shown_by, shown, line_of}
use Rattle.event_file.specs.List.{layout_word, fitted_word, header, fault_line, answer_line, list_next, list_from, opening, list_on, printed_by, printed, WellFitted}
use Rattle.event_file.specs.Events.{events_next, events_from, events_of, behind_next, behind_from, behind_events, ending_by, ending_of, ToldLine, lines_of, told, told_of}
use Rattle.event_file.proofs.Reading.{event_none}
use Rattle.event_file.proofs.Onward.{Past, event_past, one_more}
use Rattle.event_file.proofs.Shown.{shown_whole}
use Rattle.event_file.proofs.Events.{events_few}

-- ---- the list is the lines of the file's events, answered one after another, and what ends it

module _ (file : List ℕ) (f : State → Event → Answer) (panel : Bool) (show : State → List ℕ) where
  -- the lines of events that are answered from a state on
  abbrev lines_from : ℕ → State → List Event → List ℕ
  lines_from n s es = lines_of panel (told_of next_count show n (answers f s es))

  -- by what stands at a place: the line of an event stands before those of the events behind it; what is no event ends the list
  next_lines : (m : ℕ)
      → ((s : State) (n at : ℕ) → length file ≤ m + at
      → list_from m f panel show file s n at ≡ lines_from n s (events_from m file at) ++ ending_by (event_at file (behind_from m file at)))
      → (s : State) (n at : ℕ) (x : Next) → event_at file at ≡ x → Past file at x → length file ≤ suc m + at
      → list_next f panel show s (next_count n) (λ t next. list_from m f panel show file t (next_count n) next) x
      ≡ lines_from n s (events_next (events_from m file) x) ++ ending_by (event_at file (behind_next at (behind_from m file) x))
  unfolding list_next answer_line events_next behind_next ending_by answers told told_of lines_of flat_map
  next_lines m before s n at (Taken kind first second next) e p h =
      let r : Answer = f s (event kind first second) in
      ap (λ xs. answer_line panel show (next_count n) r ++ xs) (before r.next (next_count n) next (omega (arith, p.0))) ∙ simp append_assoc
  next_lines m before s n at (Bad number place) e p h = rw e
  next_lines m before s n at Nothing e p h = rw e

  -- by the events that are allowed
  list_lines : (m : ℕ) (s : State) (n at : ℕ) → length file ≤ m + at
      → list_from m f panel show file s n at ≡ lines_from n s (events_from m file at) ++ ending_by (event_at file (behind_from m file at))
  unfolding list_from events_from behind_from ending_by answers told_of lines_of flat_map
  list_lines zero s n at h = let past : length file ≤ at = omega arith in rw (← event_none file at past)
  list_lines (suc m) s n at h = next_lines m (list_lines m) s n at (event_at file at) refl (event_past file at) h

  -- of the whole file
  file_lines : (s : State) (n : ℕ) → list_from (suc (length file)) f panel show file s n 0 ≡ lines_from n s (events_of file) ++ ending_of file
  unfolding events_of behind_events ending_of
  file_lines s n =
      let all : length file ≤ length file + 0 = omega arith in
      one_more file f panel show (length file) s n 0 all ∙ list_lines (length file) s n 0 all

-- ---- each line shows the whole panel

-- an event leaves a state in range
event_in_range : (L : Layout) (s : State) (e : Event) → in_range s ≡ true → in_range (box L s e).next ≡ true
unfolding box
event_in_range L s e g = step_in_range L s e.kind e.first e.second g

module _ (L : Layout) (h : sound L ≡ true) where
  -- so the state after every event of a run is in range, and its whole image is shown
  told_whole : (follows : ℕ → ℕ) (n : ℕ) (s : State) (es : List Event) → in_range s ≡ true
      → told_of follows (shown L) n (answers (box L) s es) ≡ told_of follows (image L) n (answers (box L) s es)
  unfolding answers told told_of
  told_whole follows n s [] g = refl
  told_whole follows n s (e ∷ es) g =
      let after = event_in_range L s e g in
      rw (shown_whole L (box L s e).next h after)
      (ap (λ (ts : List ToldLine). told (image L) (follows n) (box L s e) ∷ ts) (told_whole follows (follows n) (box L s e).next es after))

-- what is shown of a state in a run on a layout in use is its panel image, whole
pub run_shown_whole : {L : Layout} → InUse L → (es : List Event) → shown L (from_cold L es) ≡ image L (from_cold L es)
run_shown_whole {L} u es = shown_whole L (from_cold L es) (in_use_sound u) (cold_run_in_range L es)

-- ---- a layout that is not sound

-- every event is refused
abbrev unserved : State → Event → Answer
unserved s e = record { number = 18; detail = 0; next = s }

module _ (L : Layout) (h : sound L ≡ false) where
  -- the panel shows nothing
  shown_none : (s : State) → shown L s ≡ []
  unfolding shown shown_by answer answer_where refused ◌and◌ when◌then◌else◌
  shown_none s = rw h

  -- so it is of each line
  told_none : (follows : ℕ → ℕ) (n : ℕ) (s : State) (es : List Event)
      → told_of follows (shown L) n (answers (box L) s es) ≡ told_of follows (λ t. []) n (answers unserved s es)
  unfolding answers told told_of box ◌and◌
  told_none follows n s [] = refl
  told_none follows n s (e ∷ es) =
      rw (unsound_18 L s e.kind e.first e.second (rw h), shown_none s)
      (ap (λ (ts : List ToldLine). told (λ t. []) (follows n) (unserved s e) ∷ ts) (told_none follows (follows n) s es))

-- ---- the events' numbers

-- below the largest count the next number is one more
count_short : (n : ℕ) → n < 18446744073709551615 → suc n ≡ next_count n
unfolding next_count
count_short n h = if_lt n _ _ _ _ h (sym (add-one n))

-- so lines that are fewer are numbered one after another
told_short : (show : State → List ℕ) (n : ℕ) (rs : List Answer) → n + length rs ≤ 18446744073709551615 → told_of next_count show n rs ≡ told_of suc show n rs
unfolding told_of
told_short show n [] h = refl
told_short show n (r ∷ rs) h =
    let short : n < 18446744073709551615 = omega arith in
    rw (← count_short n short) (ap (λ (ts : List ToldLine). told show (suc n) r ∷ ts) (told_short show (suc n) rs (omega arith)))

-- the line that i others of them stand before has a number that is i more than the first one's
number_from : (show : State → List ℕ) (n : ℕ) (rs : List Answer) (i : ℕ) (d : ToldLine) → i < length rs → (get_or (told_of suc show n rs) i d).count ≡ suc (n + i)
unfolding told told_of
number_from show n [] i d h = absurd (omega arith)
number_from show n (r ∷ rs) zero d h = omega arith
number_from show n (r ∷ rs) (suc i) d h = omega (arith, number_from show (suc n) rs i d (omega arith))

-- so the n-th has the number n
pub told_number : (show : State → List ℕ) (rs : List Answer) (i : ℕ) (d : ToldLine) → i < length rs → (get_or (told_of suc show 0 rs) i d).count ≡ suc i
told_number show rs i d h = omega (arith, number_from show 0 rs i d h)

-- there is an answer for each event
answers_length : (f : State → Event → Answer) (s : State) (es : List Event) → length (answers f s es) ≡ length es
unfolding answers
answers_length f s [] = refl
answers_length f s (e ∷ es) = ap suc (answers_length f (f s e).next es)

-- ---- all that is printed

-- a refused layout prints its one line
pub refused_prints : (panel : Bool) (layout_file fitted_file file : List ℕ) → ((load layout_file).number ≡ 0 → ⊥)
    → printed panel layout_file fitted_file file ≡ fault_line layout_word (load layout_file).number (load layout_file).detail
unfolding printed
refused_prints panel layout_file fitted_file file h = sym (if_ne _ 0 _ _ _ h refl)

-- where no section is told as fitted, the list is that on the layout of the file
pub nothing_fitted_prints : (panel : Bool) (layout_file file : List ℕ)
    → printed panel layout_file [] file
    ≡ when eqb (load layout_file).number 0 then list_on panel (load layout_file).layout file else fault_line layout_word (load layout_file).number (load layout_file).detail
unfolding printed printed_by fit fit_by numbers_of from_place numbers_from no_numbers when◌then◌else◌
nothing_fitted_prints panel layout_file file = rw (equipped_none layout_file)

module _ (layout_file fitted_file : List ℕ) (h : (load layout_file).number ≡ 0) where
  -- where each section told is there, the layout with them is one in use
  pub fitted_in_use : WellFitted (load layout_file).layout fitted_file → InUse (fit (load layout_file).layout fitted_file).layout
  fitted_in_use w = record { file = layout_file; told = (numbers_of fitted_file).list; done = h; there = w.there; its = sym (fit_done _ fitted_file w.whole) }

  -- where one is told that is not there, it is not sound
  lacks_unsound : (fit (load layout_file).layout fitted_file).number ≡ 0 → (g : ℕ) → Among (numbers_of fitted_file).list g → (load layout_file).layout.sections ≤ g
      → sound (fit (load layout_file).layout fitted_file).layout ≡ false
  lacks_unsound k g a past =
      rw (fit_done _ fitted_file k) (fails_from _ (λ e.
      let b = (equipped_sound (load layout_file).layout (numbers_of fitted_file).list (loaded_sound layout_file h)).0 e g a in omega arith))

module _ (panel : Bool) (layout_file fitted_file file : List ℕ) (h : (load layout_file).number ≡ 0) where
  -- the answer to the file of fitted sections, the layout with them, and what is answered to the file's events from the cold start
  abbrev fitting : Fitting
  fitting = fit (load layout_file).layout fitted_file

  abbrev L : Layout
  L = fitting.layout

  abbrev answered : List Answer
  answered = answers (box L) cold (events_of file)

  -- L1, a fault in the file of fitted sections prints its one line
  pub misfit_prints : (fitting.number ≡ 0 → ⊥) → printed panel layout_file fitted_file file ≡ fault_line fitted_word fitting.number fitting.detail
  unfolding printed printed_by
  misfit_prints d = sym (if_eq _ 0 _ _ _ h refl) ∙ sym (if_ne _ 0 _ _ _ d refl)

  -- else the opening, the line of each event, and what ends the list
  list_prints : fitting.number ≡ 0 → printed panel layout_file fitted_file file ≡ opening panel L ++ (lines_of panel (told_of next_count (shown L) 0 answered) ++ ending_of file)
  unfolding printed printed_by list_on
  list_prints k = sym (if_eq _ 0 _ _ _ h (if_eq _ 0 _ _ _ k refl)) ∙ ap (λ xs. opening panel L ++ xs) (file_lines file (box L) panel (shown L) cold 0)

  -- ---- each section told is there

  module _ (w : WellFitted (load layout_file).layout fitted_file) where
    -- so the layout is sound
    used_sound : sound L ≡ true
    used_sound = in_use_sound (fitted_in_use layout_file fitted_file h w)

    -- the opening with a panel shows the cold start's image, whole
    pub opening_whole : opening panel L ≡ when panel then line_of panel (image L cold) 0 0 0 else header
    unfolding opening
    opening_whole = rw (shown_whole L cold used_sound cold_in_range)

    -- the opening, the line of each event with the whole panel, and what ends the list
    pub accepted_prints : printed panel layout_file fitted_file file ≡ opening panel L ++ (lines_of panel (told_of next_count (image L) 0 answered) ++ ending_of file)
    accepted_prints =
        list_prints w.whole ∙ ap (λ (ts : List ToldLine). opening panel L ++ (lines_of panel ts ++ ending_of file))
        (told_whole L used_sound next_count 0 cold (events_of file) cold_in_range)

    -- of a file shorter than 2 to the 64th bytes, the line of the n-th event has the number n
    pub short_prints : length file < 18446744073709551616
        → printed panel layout_file fitted_file file ≡ opening panel L ++ (lines_of panel (told_of suc (image L) 0 answered) ++ ending_of file)
    short_prints few =
        let fewer : 0 + length answered ≤ 18446744073709551615 = omega (arith, answers_length (box L) cold (events_of file), events_few file) in
        accepted_prints ∙ ap (λ (ts : List ToldLine). opening panel L ++ (lines_of panel ts ++ ending_of file)) (told_short (image L) 0 answered fewer)

  -- ---- a section is told that the layout lacks

  -- L1, every event is refused by 18, and no panel has a byte
  pub lacking_prints : fitting.number ≡ 0 → (g : ℕ) → Among (numbers_of fitted_file).list g → (load layout_file).layout.sections ≤ g
      → printed panel layout_file fitted_file file
      ≡ (when panel then line_of panel [] 0 0 0 else header) ++ (lines_of panel (told_of next_count (λ s. []) 0 (answers unserved cold (events_of file))) ++ ending_of file)
  unfolding opening
  lacking_prints k g a past =
      let unsound : sound L ≡ false = lacks_unsound layout_file fitted_file h k g a past in
      list_prints k
      ∙ ap₂ (λ (xs : List ℕ) (ts : List ToldLine). (when panel then line_of panel xs 0 0 0 else header) ++ (lines_of panel ts ++ ending_of file))
      (shown_none L unsound cold) (told_none L unsound next_count 0 cold (events_of file))
