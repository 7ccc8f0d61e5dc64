-- The run that the records are in: the events that were given since the state last started anew, on the layout that is in use.
use Rattle.std.specs.Prelude.{ℕ, ◌≤◌, ◌≡◌, ◌⊎◌, List, [], ◌∷◌, ◌++◌, eqb}
use Rattle.laws.specs.Choice.{when◌then◌else◌}
use Rattle.layout.specs.declared.Layout.{Layout}
use Rattle.layout.specs.Layout.{no_layout}
use Rattle.layout.specs.Load.{load}
use Rattle.fitted.specs.Numbers.{numbers_of}
use Rattle.fitted.specs.Fitted.{Among, equipped}
use Rattle.fitted.specs.InUse.{InUse}
use Rattle.step_facts.specs.Run.{Event, event, from_cold}
use Rattle.cabinet.specs.Calls.{Records, Call, power_on, load_file, fit_sections, give_event, draw_panel, records_after, tells}

-- the events since then in their order, the calls being newest first: the state starts anew at power-on and by an accepted file, of a
-- layout or of fitted sections
unfoldable pub events_since : List Call → List Event
events_since [] = []
events_since (power_on ∷ cs) = []
events_since (load_file bytes ∷ cs) = when eqb (load bytes).number 0 then [] else events_since cs
events_since (fit_sections bytes ∷ cs) = when eqb (numbers_of bytes).fault 0 then [] else events_since cs
events_since (give_event k a b ∷ cs) = events_since cs ++ (event k a b ∷ [])
events_since (draw_panel buffer ∷ cs) = events_since cs

-- ---- the layout

-- the layout of the last file that was accepted, as it was loaded; none where none was since power-on
unfoldable pub loaded_after : List Call → Layout
loaded_after [] = no_layout
loaded_after (power_on ∷ cs) = no_layout
loaded_after (load_file bytes ∷ cs) = when eqb (load bytes).number 0 then (load bytes).layout else loaded_after cs
loaded_after (fit_sections bytes ∷ cs) = loaded_after cs
loaded_after (give_event k a b ∷ cs) = loaded_after cs
loaded_after (draw_panel buffer ∷ cs) = loaded_after cs

-- the sections that were told since then: those of the last file of fitted sections that was accepted, no others (L1)
unfoldable pub told_after : List Call → List ℕ
told_after [] = []
told_after (power_on ∷ cs) = []
told_after (load_file bytes ∷ cs) = when eqb (load bytes).number 0 then [] else told_after cs
told_after (fit_sections bytes ∷ cs) = when eqb (numbers_of bytes).fault 0 then (numbers_of bytes).list else told_after cs
told_after (give_event k a b ∷ cs) = told_after cs
told_after (draw_panel buffer ∷ cs) = told_after cs

-- the layout that was loaded, with these
unfoldable pub layout_after : List Call → Layout
layout_after cs = equipped (told_after cs) (loaded_after cs)

-- none is in use: no file was accepted, or a section was told that the layout lacks
unfoldable pub Lacking : List Call → Type 0
Lacking cs = (loaded_after cs ≡ no_layout) ⊎ ((g : ℕ) × Among (told_after cs) g × ((loaded_after cs).sections ≤ g))

-- after any calls from power-on: the layout is what the accepted files say; it is in use, or something is lacking; and the state is what the events since
-- then made of the cold start on it
pub record InRun (cs : List Call) : Type 0 where
  pub layout : (records_after cs).layout ≡ layout_after cs
  pub used : InUse (records_after cs).layout ⊎ Lacking cs
  pub state : (records_after cs).state ≡ from_cold (records_after cs).layout (events_since cs)

-- ---- 18

-- records that wait for a layout that can be used: every event and every panel image gets 18, and no buffer is written (sections 3 and 7)
pub record Waits (before : Records) : Type 0 where
  pub events : (k a b : ℕ) → tells before (give_event k a b) ≡ record { number = 18; detail = 0; buffer = [] }
  pub panels : (buffer : List ℕ) → tells before (draw_panel buffer) ≡ record { number = 18; detail = 0; buffer = buffer }

-- records that serve: none gets 18
pub record Serves (before : Records) : Type 0 where
  pub events : (k a b : ℕ) → (tells before (give_event k a b)).number ≡ 18 → ⊥
  pub panels : (buffer : List ℕ) → (tells before (draw_panel buffer)).number ≡ 18 → ⊥
