-- The state in parts, as the code hands it through a step: the nine tables go by value, of the heads only those of the section that the event names, and
-- the lamps are lent. What a step is stands in Step.
use Rattle.std.specs.Prelude.{ℕ, ◌*◌, Bool, not, ◌≢◌, List, [], eqb, ltb, leb, set}
use Rattle.laws.specs.Choice.{when◌then◌else◌}
use Rattle.laws.specs.Tests.{◌and◌, ◌or◌}
use Rattle.laws.specs.Tables.{put}
use Rattle.track.specs.Codes.{read_section, read_point, throw_point, set_route, cancel_route, secure_line, release_line, bar_block, unbar_block, one_second, axles_in, axles_out, reset_axles, report_lamp}
use Rattle.track.specs.Sizes.{most_sections, most_lamps}
use Rattle.track.specs.Lists.{between}
use Rattle.axles.specs.declared.Axles.{Axles}
use Rattle.layout.specs.declared.Layout.{Layout}
use Rattle.reasons.specs.Refusal.{Refusal, no_refusal}
use Rattle.interlocking.specs.declared.State.{State}
use Rattle.interlocking.specs.declared.Core.{Core}
use Rattle.interlocking.specs.declared.Tried.{Tried}
use Rattle.interlocking.specs.declared.Answer.{Answer}
use Rattle.interlocking.specs.declared.CoreAnswer.{CoreAnswer}
use Rattle.interlocking.specs.Settle.{settle}
use Rattle.interlocking.specs.Own.{head_section, heads_by}
use Rattle.interlocking.specs.Rows.{Row, nothing, head_row, still_silent, row_with}
use Rattle.interlocking.specs.Step.{row_refusal, asked_in_run}
use Rattle.tables.specs.declared.Gives.{Gives}
use Rattle.tables.specs.Readings.{recorded}

-- ---- the two parts

-- the nine tables of a state
unfoldable pub core_of : State → Core
core_of s = record {
  section = s.section;
  point = s.point;
  order = s.order;
  phase = s.phase;
  steps = s.steps;
  seconds = s.seconds;
  direction = s.direction;
  stage = s.stage;
  bar = s.bar;
}

-- the state of nine tables, of heads and of lamps
abbrev pub whole : Core → List Axles → List ℕ → State
whole c axles lamps = record {
  section = c.section;
  point = c.point;
  order = c.order;
  phase = c.phase;
  steps = c.steps;
  seconds = c.seconds;
  direction = c.direction;
  stage = c.stage;
  bar = c.bar;
  axles = axles;
  lamp = lamps;
}

-- the state of nine tables and of lamps, with no heads
abbrev pub headless : Core → List ℕ → State
headless c lamps = whole c [] lamps

-- the state of nine tables alone
abbrev pub bare : Core → State
bare c = headless c []

-- ---- an event tried, by its row

-- it moves the tables and gives something
unfoldable pub moves : Core → Gives → Tried
moves t e = record { next = t; gives = e; number = 0; detail = 0 }

-- a refusal leaves them as they were
unfoldable pub stays : Refusal → Core → Tried
stays f c = record { next = c; gives = nothing; number = f.number; detail = f.detail }

-- one of the two
unfoldable pub tried : Bool → Core → ℕ → Row → Tried
tried is_sound c a row = when eqb (row_refusal is_sound a row).number 0 then moves (core_of row.does) row.gives else stays (row_refusal is_sound a row) c

-- ---- the four rows of heads as one, as the code has them: kinds 11 to 14 by one function, asked for after all others

-- the first number lies below: twice the sections where it names a head, the sections where it is a reset
unfoldable pub numbers_named : ℕ → ℕ → ℕ
numbers_named k sections = when eqb k reset_axles then sections else 2 * sections

-- the second number is wrong: a count above 65,535, or where it is unused anything but 0
unfoldable pub wrong_count : ℕ → ℕ → Bool
wrong_count k b = when eqb k axles_in or eqb k axles_out then ltb 65535 b else not (eqb b 0)

-- 35, of a reset: one of the heads x of section g is silent
unfoldable pub silence : Axles → ℕ → ℕ → Refusal
silence x k g = when eqb k reset_axles then still_silent x g else no_refusal

-- the row
unfoldable pub heads_row : Layout → State → Axles → Axles → ℕ → ℕ → ℕ → Row
heads_row L s x y k a b = head_row L s y (head_section k a) (leb (numbers_named k L.sections) a) (wrong_count k b) (silence x k (head_section k a))

-- kind k is none of the others that have a row
pub record NoOther (k : ℕ) : Type 0 where
  pub no_section : k ≢ read_section
  pub no_point : k ≢ read_point
  pub no_throw : k ≢ throw_point
  pub no_set : k ≢ set_route
  pub no_cancel : k ≢ cancel_route
  pub no_secure : k ≢ secure_line
  pub no_release : k ≢ release_line
  pub no_bar : k ≢ bar_block
  pub no_unbar : k ≢ unbar_block
  pub no_second : k ≢ one_second
  pub no_lamp : k ≢ report_lamp

-- ---- the answer

-- kind k is one of heads
unfoldable pub is_of_heads : ℕ → Bool
is_of_heads k = between axles_in reset_axles k

-- what becomes of the heads x of the section that the event names: of an event that is of no heads nothing
unfoldable pub heads_then : Axles → ℕ → ℕ → ℕ → Axles
heads_then x k a b = when is_of_heads k then heads_by x k a b else x

-- the place of those heads in the table: 0 for an event that names none
unfoldable pub head_place : ℕ → ℕ → ℕ
head_place k a = when is_of_heads k and ltb (head_section k a) most_sections then head_section k a else 0

-- the refusal, or what follows every event
unfoldable pub followed : Layout → Core → Axles → Axles → Tried → CoreAnswer
followed L c x y t =
    when eqb t.number 0 then record { number = 0; detail = 0; next = core_of (settle L (bare c) (bare t.next) t.gives); heads = y }
    else record { number = t.number; detail = t.detail; next = c; heads = x }

-- one step of the parts
unfoldable pub core_step : Bool → Layout → Core → Axles → List ℕ → ℕ → ℕ → ℕ → CoreAnswer
core_step is_sound L c x lamps k a b =
    followed L c x (heads_then x k a b) (tried is_sound c a (row_with L (headless c lamps) x (heads_then x k a b) k a b))

-- one step of the parts in a run that asked soundness before its first event
unfoldable pub core_step_in_run : Layout → Core → Axles → List ℕ → ℕ → ℕ → ℕ → CoreAnswer
core_step_in_run L c x lamps k a b = core_step (asked_in_run L) L c x lamps k a b

-- what becomes of the lamps: an event that was answered by a number, 0 where it was accepted, reports one (L3)
unfoldable pub lamps_then : List ℕ → ℕ → ℕ → ℕ → ℕ → List ℕ
lamps_then lamps number k a b = when eqb number 0 and eqb k report_lamp then put most_lamps lamps a (recorded b) else lamps

-- the answer of the whole state, from that of its parts: the heads are stored back at their place, and the lamp that the event reports
unfoldable pub together : List Axles → ℕ → List ℕ → ℕ → ℕ → ℕ → CoreAnswer → Answer
together axles place lamps k a b r =
    record { number = r.number; detail = r.detail; next = whole r.next (set axles place r.heads) (lamps_then lamps r.number k a b) }
