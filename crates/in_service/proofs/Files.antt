-- What the event program prints is the log of the run of the file's events, and what is demanded holds of it.
use Prim.Native.Nat.{ℕ, suc}
use mathlib.Core.Path.{◌≡◌, sym, ap, ◌∙◌}
use mathlib.Core.Bool.{Bool, true}
use mathlib.Core.List.{List, [], ◌∷◌, ◌++◌, append_assoc, append-nil}
use lib.ListN.{length, take}
use Rattle.numbers.specs.Form.{Bytes}
use Rattle.layout.specs.declared.Layout.{Layout}
use Rattle.layout.specs.Sound.{sound}
use Rattle.layout_file.specs.Lengths.{buffer}
use Rattle.layout_file.proofs.Long.{load_buffer}
use Rattle.fitted.proofs.InUse.{in_use_sound}
use Rattle.interlocking.specs.declared.State.{State}
use Rattle.interlocking.specs.State.{cold}
use Rattle.panel.specs.Panel.{image}
use Rattle.step_facts.specs.Run.{Event, box, answers}
use Rattle.event_file.specs.List.{opening, printed}
use Rattle.event_file.specs.Events.{ToldLine, events_of, ending_of, lines_of, told, told_of}
use Rattle.event_file.proofs.Printed.{fitted_in_use, short_prints}
use Rattle.safety.specs.History.{History, moment, goes_on, history}
use Rattle.safety.proofs.Grants.{accepts_run}
use Rattle.in_service.specs.Files.{lines_told, layout_of, EveryFile}
use Rattle.in_service.proofs.Demands.{run_demanded}

-- the lines of a history that goes on: those that were there, and one for each answer
lines_on : (L : Layout) (s : State) (h : History) (es : List Event)
    → lines_told (goes_on L (box L) s h es) ≡ lines_told h ++ told_of suc (image L) (length h) (answers (box L) s es)
unfolding goes_on answers told_of lines_told told moment
lines_on L s h [] = sym (append-nil (lines_told h))
lines_on L s h (e ∷ es) = lines_on L (box L s e).next (moment L e (box L s e) ∷ h) es ∙ one_more
  where
    rest : List ToldLine
    rest = told_of suc (image L) (suc (length h)) (answers (box L) (box L s e).next es)

    one_more : lines_told (moment L e (box L s e) ∷ h) ++ rest ≡ lines_told h ++ (told (image L) (suc (length h)) (box L s e) ∷ rest)
    one_more = append_assoc (lines_told h) (told (image L) (suc (length h)) (box L s e) ∷ []) rest

-- so those of a run from the cold start are its answers, one after the other
lines_run : (L : Layout) (es : List Event) → lines_told (history L es) ≡ told_of suc (image L) 0 (answers (box L) cold es)
unfolding history lines_told
lines_run L es = lines_on L cold [] es

pub every_file : EveryFile
every_file panel layout_file fitted_file file ok well few =
    let L : Layout = layout_of layout_file fitted_file in
    let sounds : sound L ≡ true = in_use_sound (fitted_in_use layout_file fitted_file ok well) in
    record {
      lines = short_prints panel layout_file fitted_file file ok well few
          ∙ ap (λ (ts : List ToldLine). opening panel L ++ (lines_of panel ts ++ ending_of file)) (sym (lines_run L (events_of file)));
      demanded = run_demanded L sounds (events_of file);
      accepts = accepts_run L sounds (events_of file);
    }

-- and so of a layout file of any length: the program takes its first 65,536 bytes, and what is printed is the same
pub first_bytes_print : (panel : Bool) (layout_file fitted_file file : List ℕ) → Bytes layout_file
    → printed panel (take buffer layout_file) fitted_file file ≡ printed panel layout_file fitted_file file
unfolding printed
first_bytes_print panel layout_file fitted_file file b = rw (load_buffer layout_file b)
