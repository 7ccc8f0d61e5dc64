-- Section 3's table of events: a row for each kind. A row is filled for a layout, a state and the event's two numbers, a and b.
use Rattle.std.specs.Prelude.{ℕ, ◌*◌, ◌/◌, Bool, false, not, eqb, ltb, leb}
use Rattle.laws.specs.Choice.{when◌then◌else◌}
use Rattle.laws.specs.Tests.{◌and◌}
use Rattle.track.specs.Codes.{left, right, a_to_b, b_to_a, read_section, read_point, throw_point, set_route, cancel_route, secure_line, release_line, bar_block, unbar_block, one_second, axles_in, axles_out, head_silent, reset_axles, report_lamp}
use Rattle.track.specs.Sizes.{most_sections}
use Rattle.track.specs.Lists.{between}
use Rattle.track.specs.SignalNumbers.{signal_count}
use Rattle.tables.specs.declared.Gives.{Gives}
use Rattle.tables.specs.Readings.{recorded}
use Rattle.layout.specs.declared.Layout.{Layout}
use Rattle.layout.specs.Layout.{line_in}
use Rattle.axles.specs.declared.Axles.{Axles}
use Rattle.axles.specs.Heads.{speaking, axles_reading}
use Rattle.reasons.specs.Refusal.{Refusal, refused, no_refusal, refused_if}
use Rattle.reasons.specs.Reasons.{no_heads, has_heads}
use Rattle.refusals.specs.Orders.{throw_refusal, set_refusal, cancel_refusal, secure_refusal, manual_refusal}
use Rattle.interlocking.specs.declared.State.{State}
use Rattle.interlocking.specs.State.{tables_of}
use Rattle.interlocking.specs.Own.{own_section, own_point, own_throw, own_set, own_cancel, own_secure, own_manual, own_bar, heads_of, heads_by, own_heads, own_lamp}

pub record Row : Type 0 where
  -- 2: there is no object a
  pub missing : Bool
  -- 30, 34: the section has no heads, has heads (L1)
  pub misfit : Refusal
  -- 3: the number b is wrong
  pub wrong : Bool
  -- what is refused of it besides, in the paper's order
  pub besides : Refusal
  -- what it does itself, where it is not refused
  pub does : State
  -- what it gives: a section its reading, or a second
  pub gives : Gives

-- ---- what an event gives; a number past the last section is no section

-- nothing
unfoldable pub nothing : Gives
nothing = record { section = most_sections; reading = 0; tick = 0 }

-- section g the reading v
unfoldable pub gives_reading : ℕ → ℕ → Gives
gives_reading g v = record { section = g; reading = v; tick = 0 }

-- a second
unfoldable pub a_second : Gives
a_second = record { section = most_sections; reading = 0; tick = 1 }

-- ---- the rows

-- 1: section reading (section, code)
unfoldable pub section_row : Layout → State → ℕ → ℕ → Row
section_row L s a b = record {
  missing = leb L.sections a;
  misfit = has_heads L a;
  wrong = false;
  besides = no_refusal;
  does = own_section L.signals L.line L.lines s a (recorded b);
  gives = gives_reading a (recorded b);
}

-- 2: point reading (point, code)
unfoldable pub point_row : Layout → State → ℕ → ℕ → Row
point_row L s a b = record {
  missing = leb L.points a;
  misfit = no_refusal;
  wrong = false;
  besides = no_refusal;
  does = own_point s a (recorded b);
  gives = nothing;
}

-- 3: throw (point, position 1 or 2)
unfoldable pub throw_row : Layout → State → ℕ → ℕ → Row
throw_row L s a b = record {
  missing = leb L.points a;
  misfit = no_refusal;
  wrong = not (between left right b);
  besides = throw_refusal L (tables_of s) a;
  does = own_throw s a b;
  gives = nothing;
}

-- 4: set route (route); an exit route on a neutral line secures it first (L5)
unfoldable pub set_row : Layout → State → ℕ → ℕ → Row
set_row L s a b = record {
  missing = leb L.routes a;
  misfit = no_refusal;
  wrong = not (eqb b 0);
  besides = set_refusal L (tables_of s) a;
  does = own_set L.route s a;
  gives = nothing;
}

-- 5: cancel route (route)
unfoldable pub cancel_row : Layout → State → ℕ → ℕ → Row
cancel_row L s a b = record {
  missing = leb L.routes a;
  misfit = no_refusal;
  wrong = not (eqb b 0);
  besides = cancel_refusal (tables_of s) a;
  does = own_cancel s a;
  gives = nothing;
}

-- 6: secure line (line, 1 = A to B, 2 = B to A)
unfoldable pub secure_row : Layout → State → ℕ → ℕ → Row
secure_row L s a b = record {
  missing = leb L.lines a;
  misfit = no_refusal;
  wrong = not (between a_to_b b_to_a b);
  besides = secure_refusal L (tables_of s) a b;
  does = own_secure s a b;
  gives = nothing;
}

-- 7: manual release, KTP (line, ground 1 not left, 2 in siding, 3 returned)
unfoldable pub manual_row : Layout → State → ℕ → ℕ → Row
manual_row L s a b = record {
  missing = leb L.lines a;
  misfit = no_refusal;
  wrong = not (between 1 3 b);
  besides = manual_refusal L (tables_of s) a;
  does = own_manual L.line L.lines s a;
  gives = nothing;
}

-- 8, 9: bar, 1, and unbar, 0 (line, block counted from 0)
unfoldable pub bar_row : ℕ → Layout → State → ℕ → ℕ → Row
bar_row bar L s a b = record {
  missing = leb L.lines a;
  misfit = no_refusal;
  wrong = leb (line_in L a).blocks b;
  besides = no_refusal;
  does = own_bar s a b bar;
  gives = nothing;
}

-- 10: one second has passed; both numbers are unused
unfoldable pub second_row : State → ℕ → ℕ → Row
second_row s a b = record {
  missing = false;
  misfit = no_refusal;
  wrong = not (eqb a 0 and eqb b 0);
  besides = no_refusal;
  does = s;
  gives = a_second;
}

-- an event of the heads of section g, which become y: the section is given what they then say (L1)
unfoldable pub head_row : Layout → State → Axles → ℕ → Bool → Bool → Refusal → Row
head_row L s y g missing wrong besides = record {
  missing = missing;
  misfit = no_heads L g;
  wrong = wrong;
  besides = besides;
  does = own_heads L.signals L.line L.lines s g y;
  gives = gives_reading g (axles_reading y);
}

-- 11, 12: a head's axles in, and out (twice the section plus 0 or 1 for the head, count up to 65,535)
unfoldable pub count_row : Layout → State → Axles → ℕ → ℕ → Row
count_row L s y a b = head_row L s y (a / 2) (leb (2 * L.sections) a) (ltb 65535 b) no_refusal

-- 13: a head is silent (twice the section plus 0 or 1 for the head)
unfoldable pub silent_row : Layout → State → Axles → ℕ → ℕ → Row
silent_row L s y a b = head_row L s y (a / 2) (leb (2 * L.sections) a) (not (eqb b 0)) no_refusal

-- 35: one of the heads x of section g is silent
unfoldable pub still_silent : Axles → ℕ → Refusal
still_silent x g = refused_if (not (speaking x)) 35 g

-- 14: reset (section); x is its heads before the event
unfoldable pub reset_row : Layout → State → Axles → Axles → ℕ → ℕ → Row
reset_row L s x y a b = head_row L s y a (leb L.sections a) (not (eqb b 0)) (still_silent x a)

-- 15: a lamp's report (main or block signal by its number, code) (L3)
unfoldable pub lamp_row : Layout → State → ℕ → ℕ → Row
lamp_row L s a b = record {
  missing = leb (signal_count L.signals L.lines L.line) a;
  misfit = no_refusal;
  wrong = false;
  besides = no_refusal;
  does = own_lamp s a (recorded b);
  gives = nothing;
}

-- a kind that has no row: 1
unfoldable pub no_row : State → Row
no_row s = record { missing = false; misfit = no_refusal; wrong = false; besides = refused 1 0; does = s; gives = nothing }

-- the row of kind k; where it is of a section's heads, x is what these were, and y what becomes of them, told apart from the state because the code hands
-- them through a step apart (Parts)
unfoldable pub row_with : Layout → State → Axles → Axles → ℕ → ℕ → ℕ → Row
row_with L s x y k a b =
    when eqb k read_section then section_row L s a b
    else when eqb k read_point then point_row L s a b
    else when eqb k throw_point then throw_row L s a b
    else when eqb k set_route then set_row L s a b
    else when eqb k cancel_route then cancel_row L s a b
    else when eqb k secure_line then secure_row L s a b
    else when eqb k release_line then manual_row L s a b
    else when eqb k bar_block then bar_row 1 L s a b
    else when eqb k unbar_block then bar_row 0 L s a b
    else when eqb k one_second then second_row s a b
    else when eqb k axles_in then count_row L s y a b
    else when eqb k axles_out then count_row L s y a b
    else when eqb k head_silent then silent_row L s y a b
    else when eqb k reset_axles then reset_row L s x y a b
    else when eqb k report_lamp then lamp_row L s a b
    else no_row s

-- the row of kind k in a state
unfoldable pub row_of : Layout → State → ℕ → ℕ → ℕ → Row
row_of L s k a b = row_with L s (heads_of s k a) (heads_by (heads_of s k a) k a b) k a b
