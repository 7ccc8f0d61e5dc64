-- One step of the box (section 3): the event of its row is done, and what follows from it, or it is refused.
use Rattle.std.specs.Prelude.{ℕ, Bool, [], ◌∷◌, eqb, leb}
use Rattle.laws.specs.Choice.{when◌then◌else◌}
use Rattle.laws.specs.Tests.{◌and◌}
use Rattle.track.specs.Sizes.{most_sections, most_lines, most_train_routes}
use Rattle.track.specs.Lists.{between}
use Rattle.tables.specs.declared.Gives.{Gives}
use Rattle.layout.specs.declared.Layout.{Layout}
use Rattle.layout.specs.Sound.{sound}
use Rattle.reasons.specs.Refusal.{Refusal, first_of}
use Rattle.refusals.specs.Events.{numbers_refusal}
use Rattle.interlocking.specs.declared.State.{State}
use Rattle.interlocking.specs.declared.Answer.{Answer}
use Rattle.interlocking.specs.State.{in_range}
use Rattle.interlocking.specs.Settle.{settle}
use Rattle.interlocking.specs.Rows.{Row, row_of}

-- ---- an event, by its row

-- what is refused of it, in the paper's order: 18, 2, 30 or 34, 3, then what is refused besides; a kind that has no row has 1 there, and none before it
unfoldable pub row_refusal : Bool → ℕ → Row → Refusal
row_refusal is_sound a row = first_of (numbers_refusal is_sound row.missing a row.misfit row.wrong ∷ row.besides ∷ [])

-- the answer, where is_sound answers the question of 18: what follows from what the event does and gives, or the refusal, with the state as it was
unfoldable pub answered_by : Bool → Layout → State → ℕ → Row → Answer
answered_by is_sound L s a row =
    when eqb (row_refusal is_sound a row).number 0 then record { number = 0; detail = 0; next = settle L s row.does row.gives }
    else record { number = (row_refusal is_sound a row).number; detail = (row_refusal is_sound a row).detail; next = s }

-- ---- the step

-- one step by the kind
unfoldable pub step_where : Bool → Layout → State → ℕ → ℕ → ℕ → Answer
step_where is_sound L s k a b = answered_by is_sound L s a (row_of L s k a b)

-- one step: 18 is for a layout that breaks section 2 (L1: or lacks a fitted section) or a state with a code outside its range
unfoldable pub step : Layout → State → ℕ → ℕ → ℕ → Answer
step L s k a b = step_where (sound L and in_range s) L s k a b

-- what 18 asks in a run: lines, routes and sections are no more than the tables hold, there is a section, so that the layout with no objects
-- (section 2) gets 18, and no fitted section is lacking (L1), since a layout may load and lack one
unfoldable pub asked_in_run : Layout → Bool
asked_in_run L = leb L.lines most_lines and (leb L.routes most_train_routes and (between 1 most_sections L.sections and eqb L.lacking 0))

-- one step of a run that asked soundness before its first event
unfoldable pub step_in_run : Layout → State → ℕ → ℕ → ℕ → Answer
step_in_run L s k a b = step_where (asked_in_run L) L s k a b

-- ---- the columns of an event's row

-- what is refused of it
unfoldable pub refusal : Bool → Layout → State → ℕ → ℕ → ℕ → Refusal
refusal is_sound L s k a b = row_refusal is_sound a (row_of L s k a b)

-- what it does itself, where it is not refused
unfoldable pub own : Layout → State → ℕ → ℕ → ℕ → State
own L s k a b = (row_of L s k a b).does

-- what it gives
unfoldable pub gives : Layout → State → ℕ → ℕ → ℕ → Gives
gives L s k a b = (row_of L s k a b).gives

-- and what follows from both
unfoldable pub after : Layout → State → ℕ → ℕ → ℕ → State
after L s k a b = settle L s (own L s k a b) (gives L s k a b)
