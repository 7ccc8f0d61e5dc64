-- After any calls what is demanded holds of what they told: their log is the history of the run that the records are in.
use Prim.Native.Nat.{ℕ, ◌≤◌}
use mathlib.Core.Path.{◌≡◌, refl, sym, ap, ◌∙◌}
use mathlib.Core.Bool.{Bool, true, false}
use mathlib.Core.Logic.{◌⊎◌, inl, inr}
use mathlib.Core.List.{List, [], ◌∷◌, ◌++◌}
use native.Mathlib.Omega.{arith}
use lib.Dec.{eqb}
use lib.ListN.{length, take}
use Rattle.laws.specs.Choice.{when◌then◌else◌}
use Rattle.laws.specs.Tests.{◌and◌}
use Rattle.layout.specs.declared.Layout.{Layout}
use Rattle.layout.specs.Layout.{no_layout}
use Rattle.layout.specs.Load.{load}
use Rattle.layout.specs.Sound.{sound}
use Rattle.layout_facts.proofs.Sound.{sound_says}
use Rattle.fitted.specs.Numbers.{numbers_of}
use Rattle.fitted.specs.Fitted.{equipped, fit}
use Rattle.fitted.specs.InUse.{InUse}
use Rattle.fitted.proofs.InUse.{in_use_sound}
use Rattle.fitted.proofs.Answers.{fit_number}
use Rattle.interlocking.specs.declared.State.{State}
use Rattle.interlocking.specs.State.{cold, in_range}
use Rattle.interlocking.specs.Step.{step}
use Rattle.panel.specs.Panel.{image, panel_length, answer, drawn_where, drawn}
use Rattle.panel.specs.Panel as panels
use Rattle.step_facts.specs.Run.{Event, event, box, from_cold}
use Rattle.step_facts.proofs.Step.{step_in_range}
use Rattle.step_facts.proofs.Run.{cold_run_in_range}
use Rattle.event_file.proofs.Shown.{image_most, drawn_whole}
use Rattle.cabinet.specs.Calls.{Records, records, Call, power_on, load_file, fit_sections, give_event, draw_panel, after_file, after_load, after_fit, after_call, records_after, Told, of_event, of_panel, tells}
use Rattle.cabinet.specs.Runs.{events_since, loaded_after, told_after, layout_after, Lacking, Waits}
use Rattle.cabinet.proofs.Runs.{in_run, waits}
use Rattle.safety.specs.History.{Moment, History, Throughout, moment, goes_on, history}
use Rattle.safety.specs.Grants.{AcceptedJust}
use Rattle.safety.proofs.OneMore.{on_with}
use Rattle.safety.proofs.Grants.{accepts_run}
use Rattle.in_service.specs.Demands.{last_image, Demanded, Unserved}
use Rattle.in_service.specs.Calls.{drawn_then, log_of, EveryCall, EveryCallInRoom}
use Rattle.in_service.proofs.Demands.{last_shown, run_demanded, none_demanded}

-- so many of the first elements as the first list has are that list
take_first : (xs ys : List ℕ) → take (length xs) (xs ++ ys) ≡ xs
take_first [] ys = refl
take_first (x ∷ xs) ys = ap (λ zs. x ∷ zs) (take_first xs ys)

-- one event more at the end of a run
history_on : (L : Layout) (es : List Event) (e : Event) → history L (es ++ (e ∷ [])) ≡ moment L e (box L (from_cold L es) e) ∷ history L es
unfolding history from_cold goes_on
history_on L es e = on_with L (box L) cold [] es (e ∷ [])

module _ (buffer : List ℕ) where
  -- ---- something is lacking: every event got 18, and nothing was drawn

  -- records that wait draw nothing
  none_drawn : (r : Records) → Waits r → drawn_then buffer r ≡ []
  unfolding drawn_then
  none_drawn r w = rw (w.panels buffer)

  -- a layout file: accepted, the log begins anew; refused, it goes on
  file_waits : (bytes : List ℕ) (cs : List Call) → (Lacking cs → Throughout Unserved (log_of buffer cs))
      → (t : Bool) → eqb (load bytes).number 0 ≡ t → Lacking (load_file bytes ∷ cs) → Throughout Unserved (log_of buffer (load_file bytes ∷ cs))
  unfolding Throughout log_of Lacking loaded_after told_after when◌then◌else◌
  file_waits bytes cs rest true q l = rw q tt
  file_waits bytes cs rest false q l = rw q (rest (rw q at l))

  -- so does a file of fitted sections
  fit_waits : (bytes : List ℕ) (cs : List Call) → (Lacking cs → Throughout Unserved (log_of buffer cs))
      → (t : Bool) → eqb (numbers_of bytes).fault 0 ≡ t → Lacking (fit_sections bytes ∷ cs) → Throughout Unserved (log_of buffer (fit_sections bytes ∷ cs))
  unfolding Throughout log_of Lacking loaded_after told_after when◌then◌else◌
  fit_waits bytes cs rest true q l = rw q tt
  fit_waits bytes cs rest false q l = rw q (rest (rw q at l))

  log_waits : (cs : List Call) → Lacking cs → Throughout Unserved (log_of buffer cs)
  unfolding log_of Throughout Lacking loaded_after told_after
  log_waits [] l = tt
  log_waits (power_on ∷ cs) l = tt
  log_waits (load_file bytes ∷ cs) l = file_waits bytes cs (log_waits cs) (eqb (load bytes).number 0) refl l
  log_waits (fit_sections bytes ∷ cs) l = fit_waits bytes cs (log_waits cs) (eqb (numbers_of bytes).fault 0) refl l
  log_waits (give_event k a b ∷ cs) l =
      ((ap (λ (t : Told). t.number) (((waits cs).0 l).events k a b), none_drawn _ ((waits (give_event k a b ∷ cs)).0 l)), log_waits cs l)
  log_waits (draw_panel other ∷ cs) l = log_waits cs l

  -- ---- on a sound layout the log is the history of the run

  -- a layout is sound, and the buffer has room for its images
  abbrev Served : Layout → Type 0
  Served L = (sound L ≡ true) × (panel_length L ≤ length buffer)

  -- the image that is drawn then is the state's, whole
  drawn_then_law : (L : Layout) (s : State) → Served L → in_range s ≡ true → drawn_then buffer (records L s) ≡ image L s
  unfolding drawn_then tells of_panel drawn drawn_where answer when◌then◌else◌
  drawn_then_law L s (ok, enough) ranged = rw (← drawn_whole L s ok ranged (length buffer) enough) (take_first (image L s) _)

  -- what a call for an event tells, and the image that is drawn then, are the moment
  told_moment : (L : Layout) (s : State) (k a b : ℕ) → Served L → in_range s ≡ true
      → ◌≡◌ {A = Moment} (record {
        event = event k a b;
        number = (tells (records L s) (give_event k a b)).number;
        detail = (tells (records L s) (give_event k a b)).detail;
        image = drawn_then buffer (after_call (records L s) (give_event k a b));
      }) (moment L (event k a b) (box L s (event k a b)))
  unfolding tells of_event after_call moment box
  told_moment L s k a b ok ranged = rw (drawn_then_law L (step L s k a b).next ok (step_in_range L s k a b ranged))

  -- each call by what it is; a layout file that is accepted begins both anew, and one that is refused changes neither
  file_told : (bytes : List ℕ) (cs : List Call)
      → (Served (records_after cs).layout → log_of buffer cs ≡ history (records_after cs).layout (events_since cs))
      → (t : Bool) → eqb (load bytes).number 0 ≡ t → Served (records_after (load_file bytes ∷ cs)).layout
      → log_of buffer (load_file bytes ∷ cs) ≡ history (records_after (load_file bytes ∷ cs)).layout (events_since (load_file bytes ∷ cs))
  unfolding records_after after_call after_load after_file log_of events_since history goes_on when◌then◌else◌
  file_told bytes cs rest true q ok = rw q
  file_told bytes cs rest false q ok = rw q (rest (rw q at ok))

  -- so does a file of fitted sections
  fit_told : (bytes : List ℕ) (cs : List Call)
      → (Served (records_after cs).layout → log_of buffer cs ≡ history (records_after cs).layout (events_since cs))
      → (t : Bool) → eqb (numbers_of bytes).fault 0 ≡ t → Served (records_after (fit_sections bytes ∷ cs)).layout
      → log_of buffer (fit_sections bytes ∷ cs) ≡ history (records_after (fit_sections bytes ∷ cs)).layout (events_since (fit_sections bytes ∷ cs))
  unfolding records_after after_call after_fit after_file log_of events_since history goes_on when◌then◌else◌
  fit_told bytes cs rest true q ok = rw q
  fit_told bytes cs rest false q ok =
      let z : eqb (fit (records_after cs).layout bytes).number 0 ≡ false = ap (λ n. eqb n 0) (fit_number (records_after cs).layout bytes) ∙ q in
      rw (z, q) (rest (rw z at ok))

  log_told : (cs : List Call) → Served (records_after cs).layout → log_of buffer cs ≡ history (records_after cs).layout (events_since cs)
  unfolding records_after after_call log_of events_since history goes_on
  log_told [] ok = refl
  log_told (power_on ∷ cs) ok = refl
  log_told (load_file bytes ∷ cs) ok = file_told bytes cs (log_told cs) (eqb (load bytes).number 0) refl ok
  log_told (fit_sections bytes ∷ cs) ok = fit_told bytes cs (log_told cs) (eqb (numbers_of bytes).fault 0) refl ok
  log_told (give_event k a b ∷ cs) ok =
      let L : Layout = (records_after cs).layout in
      let s : State = (records_after cs).state in
      let same : s ≡ from_cold L (events_since cs) = (in_run cs).state in
      let ranged : in_range s ≡ true = rw same (cold_run_in_range L (events_since cs)) in
      ap (λ (m : Moment). m ∷ log_of buffer cs) (told_moment L s k a b ok ranged)
      ∙ ap (λ (h : History). moment L (event k a b) (box L s (event k a b)) ∷ h) (log_told cs ok)
      ∙ ap (λ (t : State). moment L (event k a b) (box L t (event k a b)) ∷ history L (events_since cs)) same
      ∙ sym (history_on L (events_since cs) (event k a b))
  log_told (draw_panel other ∷ cs) ok = log_told cs ok

  -- ---- so what is demanded holds of the log

  module _ (cs : List Call) (enough : InUse (records_after cs).layout → panel_length (records_after cs).layout ≤ length buffer) where
    -- a layout in use is sound, and there is room
    served : InUse (records_after cs).layout → Served (records_after cs).layout
    served u = (in_use_sound u, enough u)

    -- with no layout, or on one in use
    demanded : (loaded_after cs ≡ no_layout) ⊎ InUse (records_after cs).layout → Demanded (records_after cs).layout (log_of buffer cs)
    unfolding Lacking layout_after
    demanded (inl e) =
        let none : (records_after cs).layout ≡ equipped (told_after cs) no_layout = (in_run cs).layout ∙ ap (equipped (told_after cs)) e in
        rw none (none_demanded (told_after cs) (log_of buffer cs) (log_waits cs (inl e)))
    demanded (inr u) = rw (log_told cs (served u)) (run_demanded _ (in_use_sound u) (events_since cs))

    -- each event was accepted just where there was what it asks
    accepts : InUse (records_after cs).layout → Throughout (AcceptedJust (records_after cs).layout) (log_of buffer cs)
    accepts u = rw (log_told cs (served u)) (accepts_run _ (in_use_sound u) (events_since cs))

    -- what is drawn now is the state's image, and that showed last
    now : InUse (records_after cs).layout → drawn_then buffer (records_after cs) ≡ last_image (records_after cs).layout (log_of buffer cs)
    now u =
        let L : Layout = (records_after cs).layout in
        let same : (records_after cs).state ≡ from_cold L (events_since cs) = (in_run cs).state in
        let ranged : in_range (records_after cs).state ≡ true = rw same (cold_run_in_range L (events_since cs)) in
        drawn_then_law L (records_after cs).state (served u) ranged ∙ ap (image L) same ∙ sym (last_shown L (events_since cs))
        ∙ ap (last_image L) (sym (log_told cs (served u)))

pub every_call : EveryCall
every_call buffer cs enough = record {
  demanded = demanded buffer cs enough;
  accepts = accepts buffer cs enough;
  now = now buffer cs enough;
  unserved = λ l. (log_waits buffer cs l, none_drawn buffer _ ((waits cs).0 l));
}

-- no image has more than 408 bytes
pub every_call_in_room : EveryCallInRoom
every_call_in_room buffer enough cs = every_call buffer cs (λ u. omega (arith, image_most _ (sound_says _ (in_use_sound u)).ranges))
