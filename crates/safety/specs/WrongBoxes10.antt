-- Four of the boxes that section 10 has rejected, each the box but for one thing, with the run that section 10 names for it. Demand 3 alone is met by
-- the first and the third, so they are held against the box itself: `rejected` has the events at which each is unlike it.
use Rattle.std.specs.Prelude.{ℕ, ◌+◌, Bool, List, [], ◌∷◌, ◌++◌, eqb}
use Rattle.laws.specs.Choice.{when◌then◌else◌}
use Rattle.track.specs.Lists.{between}
use Rattle.layout.specs.declared.Layout.{Layout}
use Rattle.layout_facts.specs.BranchT.{layout_t}
use Rattle.interlocking.specs.declared.State.{State}
use Rattle.interlocking.specs.declared.Answer.{Answer}
use Rattle.interlocking.specs.State.{cold}
use Rattle.panel.specs.Panel.{image}
use Rattle.step_facts.specs.Run.{Event, box, answers}
use Rattle.safety.specs.Cases.{p1, p3, p4, same}

-- ---- the boxes

-- every order is refused, kinds 3 to 9, as if there were no such kind
abbrev pub refuses_orders : Layout → State → Event → Answer
refuses_orders L s e = when between 3 9 e.kind then record { number = 1; detail = 0; next = s } else box L s e

-- the answer is 0 always
abbrev pub answers_zero : Layout → State → Event → Answer
answers_zero L s e = record { number = 0; detail = 0; next = (box L s e).next }

-- the state never moves
abbrev pub never_moves : Layout → State → Event → Answer
never_moves L s e = record { number = (box L s e).number; detail = (box L s e).detail; next = s }

-- an event is acknowledged, and nothing is done
abbrev acknowledges : State → Event → Answer
acknowledges s e = record { number = 0; detail = 0; next = s }

-- the first event is handled and the rest only acknowledged: the answer to each of a list
abbrev pub first_only : Layout → State → List Event → List Answer
first_only L s [] = []
first_only L s (e ∷ es) = box L s e ∷ answers acknowledges (box L s e).next es

-- ---- what is looked at

-- whether it was granted
abbrev pub granted : Answer → List ℕ
granted a = (when eqb a.number 0 then 1 else 0) ∷ []

-- number and detail of the answer
abbrev pub said : Answer → List ℕ
said a = a.number ∷ a.detail ∷ []

-- the panel after the event
abbrev pub panel_after : Answer → List ℕ
panel_after a = image layout_t a.next

-- the events, counted from n, at which two lists of answers are unlike in what is looked at
abbrev pub unlike_at : (Answer → List ℕ) → ℕ → List Answer → List Answer → List ℕ
unlike_at look n [] bs = []
unlike_at look n (a ∷ rest) [] = []
unlike_at look n (a ∷ rest) (b ∷ bs) = when same (look a) (look b) then unlike_at look (n + 1) rest bs else n ∷ unlike_at look (n + 1) rest bs

-- ---- the runs, on branch T from the cold start

-- the events of P1, P3 and P4: P3 ends with event 16, P4 with event 19
abbrev pub p1to4 : List Event
p1to4 = p1 ++ (p3 ++ p4)

-- the numbers of all these events but the first
abbrev after_the_first : List ℕ
after_the_first = 2 ∷ 3 ∷ 4 ∷ 5 ∷ 6 ∷ 7 ∷ 8 ∷ 9 ∷ 10 ∷ 11 ∷ 12 ∷ 13 ∷ 14 ∷ 15 ∷ 16 ∷ 17 ∷ 18 ∷ 19 ∷ []

-- the answers of the box
abbrev pub of_box : List Event → List Answer
of_box es = answers (box layout_t) cold es

-- where each of the four is unlike the box, against what section 10 says
abbrev pub rejected : List Bool
rejected =
    -- every order refused: P1's orders from the eighth event to the last but one are granted; the ninth is a lamp's report (L3)
    same (unlike_at granted 1 (answers (refuses_orders layout_t) cold p1) (of_box p1)) (8 ∷ 10 ∷ 11 ∷ 12 ∷ [])
    -- 0 always: P1 events 1, 7, 13
    ∷ same (unlike_at said 1 (answers (answers_zero layout_t) cold p1) (of_box p1)) (1 ∷ 7 ∷ 13 ∷ [])
    -- the state never moves: P3 and P4, and all before them but the first event, which the box refuses
    ∷ same (unlike_at panel_after 1 (answers (never_moves layout_t) cold p1to4) (of_box p1to4)) after_the_first
    -- the first event only: each event after it
    ∷ same (unlike_at panel_after 1 (first_only layout_t cold p1to4) (of_box p1to4)) after_the_first
    ∷ []
