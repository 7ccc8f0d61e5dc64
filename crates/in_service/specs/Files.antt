-- Every file that a user can give: what the event program prints with panels is a log of the run of the file's events from the cold start, and what is
-- demanded holds of that log.
use Rattle.std.specs.Prelude.{ℕ, ◌<◌, ◌≡◌, Bool, List, [], ◌∷◌, ◌++◌, length}
use Rattle.layout.specs.declared.Layout.{Layout}
use Rattle.layout.specs.Load.{load}
use Rattle.fitted.specs.Fitted.{fit}
use Rattle.event_file.specs.List.{opening, printed, WellFitted}
use Rattle.event_file.specs.Events.{ToldLine, events_of, ending_of, lines_of}
use Rattle.safety.specs.History.{Moment, History, Throughout, history}
use Rattle.safety.specs.Grants.{AcceptedJust}
use Rattle.in_service.specs.Demands.{Demanded}

-- what the line of a moment tells, n being its number
abbrev line_told : ℕ → Moment → ToldLine
line_told n m = record { count = n; number = m.number; detail = m.detail; image = m.image }

-- what the lines of a history tell, oldest first, numbered from 1
unfoldable pub lines_told : History → List ToldLine
lines_told [] = []
lines_told (m ∷ h) = lines_told h ++ (line_told (length (m ∷ h)) m ∷ [])

-- the layout of a layout file, with the sections of a file of fitted sections (L1)
abbrev pub layout_of : List ℕ → List ℕ → Layout
layout_of layout_file fitted_file = (fit (load layout_file).layout fitted_file).layout

-- of these two and an event file: the opening, a line for each event of the file in its order, answered in a run from the cold start, and what ends the list;
-- the history of that run is as demanded, and each event was accepted just where there was what it asks
pub record Tells (panel : Bool) (layout_file fitted_file file : List ℕ) : Type 0 where
  pub lines : printed panel layout_file fitted_file file
      ≡ opening panel (layout_of layout_file fitted_file) ++ (lines_of panel (lines_told (history (layout_of layout_file fitted_file) (events_of file))) ++ ending_of file)
  pub demanded : Demanded (layout_of layout_file fitted_file) (history (layout_of layout_file fitted_file) (events_of file))
  pub accepts : Throughout (AcceptedJust (layout_of layout_file fitted_file)) (history (layout_of layout_file fitted_file) (events_of file))

-- every layout file that loads with 0, every file of fitted sections that is whole and tells sections that are there, and every event file of fewer than 2 to
-- the 64th bytes
abbrev pub EveryFile : Type 0
EveryFile =
    (panel : Bool) (layout_file fitted_file file : List ℕ) → (load layout_file).number ≡ 0 → WellFitted (load layout_file).layout fitted_file
    → length file < 18446744073709551616 → Tells panel layout_file fitted_file file
