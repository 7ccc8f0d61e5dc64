-- The state of the box (sections 1 and 3 to 6): a code for each section, point, route, line and block, the heads of each section (L1), and what the lamp of
-- each signal reports (L3).
use Rattle.std.specs.Prelude.{ℕ, Bool, List, [], ◌∷◌, get_or, replicate}
use Rattle.laws.specs.Tests.{every, all_below}
use Rattle.track.specs.Codes.{free, left, right, reads_none, neutral, b_to_a, open_block, stage0, stage3, idle, cancelling, lamp_stop, lamp_none}
use Rattle.track.specs.Sizes.{most_sections, most_points, most_lines, most_places, most_train_routes, most_routes, most_lamps}
use Rattle.track.specs.Lists.{between}
use Rattle.tables.specs.Tables.{Tables}
use Rattle.axles.specs.declared.Axles.{Axles}
use Rattle.axles.specs.Heads.{cold_heads}
use Rattle.interlocking.specs.declared.State.{State}

-- the cold start: everything reads none, no order, no route, no line secured, every block held in stage 0, no bar, every head silent, every lamp at none
unfoldable pub cold : State
cold = record {
  section = replicate most_sections reads_none;
  point = replicate most_points reads_none;
  order = replicate most_points 0;
  phase = replicate most_routes idle;
  steps = replicate most_train_routes 0;
  seconds = replicate most_train_routes 0;
  direction = replicate most_lines neutral;
  stage = replicate most_places stage0;
  bar = replicate most_places 0;
  axles = replicate most_sections cold_heads;
  lamp = replicate most_lamps lamp_none;
}

-- the heads of section g in a table of sections; those of the cold start where there is no such section
unfoldable pub heads_at : List Axles → ℕ → Axles
heads_at xs g = get_or xs g cold_heads

-- every entry of a table of n lies in low .. high
unfoldable pub codes : ℕ → ℕ → ℕ → List ℕ → Bool
codes n low high xs = all_below n (λ i. between low high (get_or xs i 0))

-- the codes of routes, lines and blocks: phases, steps 0..3, seconds 0..89, directions, stages, bars 0..1
unfoldable pub routes_and_lines_in_range : State → Bool
routes_and_lines_in_range s = every (
    codes most_routes idle cancelling s.phase
    ∷ codes most_train_routes 0 3 s.steps
    ∷ codes most_train_routes 0 89 s.seconds
    ∷ codes most_lines neutral b_to_a s.direction
    ∷ codes most_places open_block stage3 s.stage
    ∷ codes most_places 0 1 s.bar
    ∷ [])

-- no code is outside its range: readings, orders 0..2, those of routes, lines and blocks, and of lamps (L3); what heads hold has no range
unfoldable pub in_range : State → Bool
in_range s = every (
    codes most_sections free reads_none s.section
    ∷ codes most_points left reads_none s.point
    ∷ codes most_points 0 right s.order
    ∷ routes_and_lines_in_range s
    ∷ codes most_lamps lamp_stop lamp_none s.lamp
    ∷ [])

-- the tables that the refusals of orders look at
abbrev pub tables_of : State → Tables
tables_of s = record { section = s.section; point = s.point; phase = s.phase; direction = s.direction; stage = s.stage; bar = s.bar; lamp = s.lamp }

-- ---- a state with tables made anew: sections and stages; points and orders; phases, steps and seconds; directions and stages; bars; heads; lamps

-- a state from its eleven tables
abbrev state_of : List ℕ → List ℕ → List ℕ → List ℕ → List ℕ → List ℕ → List ℕ → List ℕ → List ℕ → List Axles → List ℕ → State
state_of section point order phase step second direction stage bar axles lamp = record {
  section = section;
  point = point;
  order = order;
  phase = phase;
  steps = step;
  seconds = second;
  direction = direction;
  stage = stage;
  bar = bar;
  axles = axles;
  lamp = lamp;
}

unfoldable pub with_sections : State → List ℕ → List ℕ → State
with_sections s section stage = state_of section s.point s.order s.phase s.steps s.seconds s.direction stage s.bar s.axles s.lamp

unfoldable pub with_points : State → List ℕ → List ℕ → State
with_points s point order = state_of s.section point order s.phase s.steps s.seconds s.direction s.stage s.bar s.axles s.lamp

unfoldable pub with_routes : State → List ℕ → List ℕ → List ℕ → State
with_routes s phase step second = state_of s.section s.point s.order phase step second s.direction s.stage s.bar s.axles s.lamp

unfoldable pub with_lines : State → List ℕ → List ℕ → State
with_lines s direction stage = state_of s.section s.point s.order s.phase s.steps s.seconds direction stage s.bar s.axles s.lamp

unfoldable pub with_bars : State → List ℕ → State
with_bars s bar = state_of s.section s.point s.order s.phase s.steps s.seconds s.direction s.stage bar s.axles s.lamp

unfoldable pub with_axles : State → List Axles → State
with_axles s axles = state_of s.section s.point s.order s.phase s.steps s.seconds s.direction s.stage s.bar axles s.lamp

unfoldable pub with_lamps : State → List ℕ → State
with_lamps s lamp = state_of s.section s.point s.order s.phase s.steps s.seconds s.direction s.stage s.bar s.axles lamp
