-- Every call that a controller can make (cabinet/specs/Calls): what is demanded holds after any sequence of them, with any arguments, from power-on, told from
-- what the calls told.
use Rattle.std.specs.Prelude.{ℕ, ◌≤◌, ◌≡◌, ◌⊎◌, List, [], ◌∷◌, eqb, length, take}
use Rattle.laws.specs.Choice.{when◌then◌else◌}
use Rattle.layout.specs.Layout.{no_layout}
use Rattle.layout.specs.Load.{load}
use Rattle.fitted.specs.Numbers.{numbers_of}
use Rattle.fitted.specs.InUse.{InUse}
use Rattle.panel.specs.Panel.{panel_length}
use Rattle.step_facts.specs.Run.{event}
use Rattle.cabinet.specs.Calls.{Records, Call, power_on, load_file, fit_sections, give_event, draw_panel, records_after, Told, tells}
use Rattle.cabinet.specs.Runs.{loaded_after, Lacking}
use Rattle.safety.specs.History.{History, Throughout}
use Rattle.safety.specs.Grants.{AcceptedJust}
use Rattle.in_service.specs.Demands.{last_image, Demanded, Unserved}

-- the panel image that a call draws then into this buffer, whatever it holds: so many of its bytes as the call says
unfoldable pub drawn_then : List ℕ → Records → List ℕ
drawn_then buffer r = let t : Told = tells r (draw_panel buffer) in take t.detail t.buffer

-- the log of a controller that asks for the panel image after each event, newest first: of each event its numbers, what the call told, and the image. It
-- begins anew with power-on, and with a file that was accepted, of a layout or of fitted sections
unfoldable pub log_of : List ℕ → List Call → History
log_of buffer [] = []
log_of buffer (power_on ∷ cs) = []
log_of buffer (load_file bytes ∷ cs) = when eqb (load bytes).number 0 then [] else log_of buffer cs
log_of buffer (fit_sections bytes ∷ cs) = when eqb (numbers_of bytes).fault 0 then [] else log_of buffer cs
log_of buffer (give_event k a b ∷ cs) =
    let t : Told = tells (records_after cs) (give_event k a b) in
    record { event = event k a b; number = t.number; detail = t.detail; image = drawn_then buffer (records_after (give_event k a b ∷ cs)) } ∷ log_of buffer cs
log_of buffer (draw_panel other ∷ cs) = log_of buffer cs

-- after the calls cs: where a layout is in use, or none was loaded, what is demanded holds of the log; where one is in use each event was accepted just where
-- there was what it asks, and the panel image that is drawn now is the one that showed last; where something is lacking, a layout or a section that was told as
-- fitted, every event was refused by 18, and nothing was drawn and is drawn
pub record InService (buffer : List ℕ) (cs : List Call) : Type 0 where
  pub demanded : (loaded_after cs ≡ no_layout) ⊎ InUse (records_after cs).layout → Demanded (records_after cs).layout (log_of buffer cs)
  pub accepts : InUse (records_after cs).layout → Throughout (AcceptedJust (records_after cs).layout) (log_of buffer cs)
  pub now : InUse (records_after cs).layout → drawn_then buffer (records_after cs) ≡ last_image (records_after cs).layout (log_of buffer cs)
  pub unserved : Lacking cs → Throughout Unserved (log_of buffer cs) × (drawn_then buffer (records_after cs) ≡ [])

-- after any calls, with or without a layout, whatever buffer is lent for the images that has room for those of the layout in use
abbrev pub EveryCall : Type 0
EveryCall = (buffer : List ℕ) (cs : List Call) → (InUse (records_after cs).layout → panel_length (records_after cs).layout ≤ length buffer) → InService buffer cs

-- so whatever buffer has 408 bytes or more
abbrev pub EveryCallInRoom : Type 0
EveryCallInRoom = (buffer : List ℕ) → 408 ≤ length buffer → (cs : List Call) → InService buffer cs
