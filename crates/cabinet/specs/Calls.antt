-- The calls that a controller can make, what each of them leaves in the records that are lent to it, and what it tells (sections 2, 3, 7,
-- L1).
use Rattle.std.specs.Prelude.{ℕ, List, [], ◌∷◌, eqb, length}
use Rattle.laws.specs.Choice.{when◌then◌else◌}
use Rattle.layout.specs.declared.Layout.{Layout}
use Rattle.layout.specs.Records.{Loaded}
use Rattle.layout.specs.Layout.{no_layout}
use Rattle.layout.specs.Load.{load}
use Rattle.fitted.specs.Records.{Fitting}
use Rattle.fitted.specs.Fitted.{fit}
use Rattle.interlocking.specs.declared.State.{State}
use Rattle.interlocking.specs.declared.Answer.{Answer}
use Rattle.interlocking.specs.State.{cold}
use Rattle.interlocking.specs.Step.{step}
use Rattle.panel.specs.declared.Drawn.{Drawn}
use Rattle.panel.specs.Panel.{answer, drawn}

-- ---- records and calls

-- the two records that a controller keeps from power-on
pub record Records : Type 0 where
  pub layout : Layout
  pub state : State

-- a layout and a state as such records
abbrev pub records : Layout → State → Records
records L s = record { layout = L; state = s }

-- a call, with what is given to it besides the records: the bytes of a layout file; those of a file of fitted sections; kind, first and second of an event;
-- a buffer for the panel image
pub data Call : Type 0 where
  power_on : Call
  load_file : List ℕ → Call
  fit_sections : List ℕ → Call
  give_event : ℕ → ℕ → ℕ → Call
  draw_panel : List ℕ → Call

-- ---- what a call leaves in the records

-- at power-on there is no layout, so that every event gets 18, and the state is cold
unfoldable pub at_power_on : Records
at_power_on = records no_layout cold

-- by the number of the answer to a file and the layout that it makes: accepted, the layout is stored, and the state starts anew, since a run is on one layout
-- from the cold start; refused, records that are lent stay as they were (demand 1)
unfoldable pub after_file : Records → ℕ → Layout → Records
after_file before number made = when eqb number 0 then records made cold else before

-- a layout file. Section 2 gives a refused one no objects
unfoldable pub after_load : Records → Loaded → Records
after_load before a = after_file before a.number a.layout

-- a file of fitted sections: the layout is equipped with these and no others (L1)
unfoldable pub after_fit : Records → Fitting → Records
after_fit before a = after_file before a.number a.layout

-- a call: an event leaves the next state (section 3), and a panel image is drawn from what is there (section 7)
unfoldable pub after_call : Records → Call → Records
after_call before power_on = at_power_on
after_call before (load_file bytes) = after_load before (load bytes)
after_call before (fit_sections bytes) = after_fit before (fit before.layout bytes)
after_call before (give_event k a b) = records before.layout (step before.layout before.state k a b).next
after_call before (draw_panel buffer) = before

-- the records after any calls from power-on, newest first: c ∷ cs is the calls cs and then c
unfoldable pub records_after : List Call → Records
records_after [] = at_power_on
records_after (c ∷ cs) = after_call (records_after cs) c

-- ---- what it tells

-- the answer's number, 0 where the call was done; its detail, or the length of a panel image; what stands in the lent buffer, where one is lent
pub record Told : Type 0 where
  pub number : ℕ
  pub detail : ℕ
  pub buffer : List ℕ

-- of a layout file
unfoldable pub of_load : Loaded → Told
of_load a = record { number = a.number; detail = a.detail; buffer = [] }

-- of a file of fitted sections
unfoldable pub of_fit : Fitting → Told
of_fit a = record { number = a.number; detail = a.detail; buffer = [] }

-- of an event
unfoldable pub of_event : Answer → Told
of_event a = record { number = a.number; detail = a.detail; buffer = [] }

-- of a panel image, with the buffer that it was drawn into
unfoldable pub of_panel : Drawn → List ℕ → Told
of_panel a buffer = record { number = a.number; detail = a.length; buffer = buffer }

-- of a call. Power-on is always done
unfoldable pub tells : Records → Call → Told
tells before power_on = record { number = 0; detail = 0; buffer = [] }
tells before (load_file bytes) = of_load (load bytes)
tells before (fit_sections bytes) = of_fit (fit before.layout bytes)
tells before (give_event k a b) = of_event (step before.layout before.state k a b)
tells before (draw_panel buffer) = of_panel (answer before.layout before.state (length buffer)) (drawn before.layout before.state buffer)

-- the buffer that is lent to a call, to be written
unfoldable pub lent : Call → List ℕ
lent power_on = []
lent (load_file bytes) = []
lent (fit_sections bytes) = []
lent (give_event k a b) = []
lent (draw_panel buffer) = buffer
