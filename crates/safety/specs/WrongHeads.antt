-- Boxes that are wrong in one thing of axle counters (L1): what becomes of a section's heads, what they say, or what is refused by 30, 34
-- and 35. Each has a short run on branch T with heads on its block. `proofs/WrongHeads` proves that with the box's own parts they are the step of a run.
use Rattle.std.specs.Prelude.{ℕ, ◌+◌, ◌-◌, ◌%◌, List, [], ◌∷◌, ◌++◌, eqb, ℤ, pos, negsuc, ◌-ℤ◌, set}
use Rattle.laws.specs.Choice.{when◌then◌else◌}
use Rattle.laws.specs.Tests.{◌and◌, ◌or◌}
use Rattle.track.specs.Codes.{occupied, reads_none, read_section, axles_in, head_silent, reset_axles}
use Rattle.tables.specs.declared.Gives.{Gives}
use Rattle.axles.specs.declared.Head.{Head}
use Rattle.axles.specs.declared.Axles.{Axles}
use Rattle.axles.specs.declared.Said.{Said}
use Rattle.axles.specs.Heads.{no_reset, unproved, proved, speaking, net, number, reading_of, resets, told, with_proof, judged, axles_after, known, axles_reading}
use Rattle.axles.specs.HeadLog.{said}
use Rattle.layout.specs.declared.Layout.{Layout}
use Rattle.layout_facts.specs.BranchT.{layout_t}
use Rattle.fitted.specs.Fitted.{equipped}
use Rattle.reasons.specs.Refusal.{Refusal, no_refusal}
use Rattle.interlocking.specs.declared.State.{State}
use Rattle.interlocking.specs.State.{heads_at, with_axles}
use Rattle.interlocking.specs.Own.{head_section, own_section}
use Rattle.interlocking.specs.Parts.{is_of_heads}
use Rattle.interlocking.specs.Settle.{settle}
use Rattle.interlocking.specs.Rows.{gives_reading}
use Rattle.interlocking.specs.Step.{gives}
use Rattle.step_facts.specs.Run.{Event, event}
use Rattle.safety.specs.History.{nothing}
use Rattle.safety.specs.WrongBoxes.{Box, answers_by, refuses, does}
use Rattle.safety.specs.WrongOrders.{asks_by}
use Rattle.safety.specs.WrongRuns.{Run, cold_run}

-- ---- a step from what is refused, what the event does itself and what it gives

abbrev settles_by : (Layout → State → Event → Refusal) → (Layout → State → Event → State) → (Layout → State → Event → Gives) → Box
settles_by refuse act give = answers_by refuse (λ L s e. settle L s (act L s e) (give L s e))

-- what an event gives
abbrev pub gives_own : Layout → State → Event → Gives
gives_own L s e = gives L s e.kind e.first e.second

-- what becomes of a section's heads by what an event says of them, and what they then say, 0 for nothing
pub record Ways : Type 0 where
  pub after : Axles → Said → Axles
  pub says : Axles → Said → ℕ

-- the box's own
abbrev pub own_ways : Ways
own_ways = record { after = axles_after; says = λ y e. axles_reading y }

-- an event of heads: its section, what it says, what becomes of the heads, what they say
abbrev section_of : Event → ℕ
section_of e = head_section e.kind e.first

abbrev saying_of : Event → Said
saying_of e = said e.kind (e.first % 2) (e.second % 65536)

abbrev pub heads_become : Ways → State → Event → Axles
heads_become way s e = way.after (heads_at s.axles (section_of e)) (saying_of e)

abbrev pub they_say : Ways → State → Event → ℕ
they_say way s e = way.says (heads_become way s e) (saying_of e)

-- what an event does itself, its heads going this way
abbrev pub does_by : Ways → Layout → State → Event → State
does_by way L s e =
    when is_of_heads e.kind then
    (when eqb (they_say way s e) nothing then with_axles s (set s.axles (section_of e) (heads_become way s e))
    else own_section L.signals L.line L.lines (with_axles s (set s.axles (section_of e) (heads_become way s e))) (section_of e) (they_say way s e))
    else does L s e

-- and what it gives
abbrev pub gives_by : Ways → Layout → State → Event → Gives
gives_by way L s e = when is_of_heads e.kind then gives_reading (section_of e) (they_say way s e) else gives_own L s e

-- the box whose heads go this way
abbrev pub heads_go : Ways → Box
heads_go way = settles_by refuses (does_by way) (gives_by way)

-- where only what the heads say is another: their number is got in this way
abbrev pub counts_by : (Axles → ℤ) → Box
counts_by count = heads_go (record { after = axles_after; says = λ y e. when known y then reading_of (count y) else reads_none })

-- ---- the boxes

-- a reset reads free at once: it counts as proved
abbrev pub free_at_once : Box
free_at_once =
    heads_go (record { after = λ x e. when resets x e then with_proof (axles_after x e) proved else axles_after x e; says = λ y e. axles_reading y })

-- no reset is needed before the first reading: until there is one the number counts from 0
abbrev pub needs_no_reset : Box
needs_no_reset =
    heads_go (record { after = axles_after; says = λ y e. when speaking y and eqb y.proof no_reset then reading_of (number y) else axles_reading y })

-- one count of a head is enough for it to speak: it is taken to have told both
abbrev told_both : Head → Head
told_both h = when eqb h.hasin 1 or eqb h.hasout 1 then record { inward = h.inward; outward = h.outward; hasin = 1; hasout = 1 } else h

abbrev pub speaks_by_one : Box
speaks_by_one = heads_go (record {
  after = λ x e. let y = told x e in judged (record { head0 = told_both y.head0; head1 = told_both y.head1; sum = y.sum; proof = y.proof });
  says = λ y e. axles_reading y;
})

-- a number in 1 to 255 proves the reset though a head is silent
abbrev pub proves_in_silence : Box
proves_in_silence = heads_go (record {
  after = λ x e. let y = told x e in when eqb y.proof unproved and eqb (reading_of (number y)) occupied then with_proof y proved else y;
  says = λ y e. axles_reading y;
})

-- silence gives none and forgets nothing: the old counts are used again with the next count of either head
abbrev pub forgets_nothing : Box
forgets_nothing = heads_go (record {
  after = λ x e. when eqb e.kind head_silent then x else axles_after x e;
  says = λ y e. when eqb e.kind head_silent then reads_none else axles_reading y;
})

-- silence gives nothing: the section keeps what it read
abbrev pub keeps_reading : Box
keeps_reading = heads_go (record { after = axles_after; says = λ y e. when eqb e.kind head_silent then nothing else axles_reading y })

-- -1 is taken as 0
unfoldable pub minus_one_as_zero : ℤ → ℤ
minus_one_as_zero (pos n) = pos n
minus_one_as_zero (negsuc n) = when eqb n 0 then pos 0 else negsuc n

abbrev pub takes_minus_one : Box
takes_minus_one = counts_by (λ y. minus_one_as_zero (number y))

-- 256 is taken as 255
unfoldable pub take256_as255 : ℤ → ℤ
take256_as255 (pos n) = when eqb n 256 then pos 255 else pos n
take256_as255 (negsuc n) = negsuc n

abbrev pub takes256 : Box
takes256 = counts_by (λ y. take256_as255 (number y))

-- the number is not taken round 65,536
abbrev pub never_rolls : Box
never_rolls = counts_by (λ y. net y -ℤ pos y.sum)

-- the number stops at 0: a difference that would be below 0 is taken as 0, and none is taken round 65,536
abbrev pub stops_at_zero : Box
stops_at_zero = counts_by (λ y. pos (y.head0.inward + y.head1.inward - (y.head0.outward + y.head1.outward) - y.sum))

-- 34 is not asked: a section with heads takes a reading of kind 1
abbrev pub reads_fitted : Box
reads_fitted = settles_by (asks_by read_section (λ row. no_refusal) (λ row. row.besides)) does gives_own

-- 34 is answered, and the reading is stored all the same
abbrev pub stores_refused : Box
stores_refused L s e = let own = settles_by refuses does gives_own L s e in record { number = own.number; detail = own.detail; next = (reads_fitted L s e).next }

-- 30 is not asked: a section without heads takes counts
abbrev pub counts_unfitted : Box
counts_unfitted = settles_by (asks_by axles_in (λ row. no_refusal) (λ row. row.besides)) does gives_own

-- 35 is not asked: a reset is accepted while a head is silent
abbrev pub resets_silent : Box
resets_silent = settles_by (asks_by reset_axles (λ row. row.misfit) (λ row. no_refusal)) does gives_own

-- ---- the runs

-- branch T, with heads on section 1, the block: heads 2 and 3
abbrev pub fitted_t : Layout
fitted_t = equipped (1 ∷ []) layout_t

-- on it from the cold start
abbrev on_fitted : Box → List Event → Run
on_fitted wrong events = cold_run wrong fitted_t events

-- the other sections read free, and the point left
abbrev others : List Event
others = event 1 0 1 ∷ event 1 2 1 ∷ event 1 3 1 ∷ event 2 0 1 ∷ []

-- both heads have told their counts, head 2 n axles in and nothing else
abbrev both_told : ℕ → List Event
both_told n = event 11 2 n ∷ event 12 2 0 ∷ event 11 3 0 ∷ event 12 3 0 ∷ []

-- and the section is reset
abbrev reset_at : ℕ → List Event
reset_at n = both_told n ++ (event 14 1 0 ∷ [])

-- then one axle goes in past head 2 and out past head 3: the block reads free
abbrev proved_at : ℕ → List Event
proved_at n = reset_at n ++ (event 11 2 (n + 1) ∷ event 12 3 1 ∷ [])

-- the line is released by hand and secured, the lamp of the entrance signal at B reporting stop (L3), the routes in at B and out at A are set
abbrev ordered : List Event
ordered = event 7 0 1 ∷ event 15 2 1 ∷ event 6 0 1 ∷ event 4 1 0 ∷ event 4 0 0 ∷ []

-- so a train is let out, the block's heads having counted from n
abbrev pub let_out_at : ℕ → List Event
let_out_at n = others ++ (proved_at n ++ ordered)

-- the runs after which a signal shows proceed into a block that does not read free
abbrev pub let_in_unfree : List Run
let_in_unfree =
    -- a reset reads free at once. A train is let into the block in which wagons may stand
    on_fitted free_at_once (others ++ (reset_at 0 ++ ordered))
    -- no reset is needed. The counts of both heads come, and a train is let in
    ∷ on_fitted needs_no_reset (others ++ (both_told 0 ++ ordered))
    -- one count is enough. Head 2 falls silent, its count in comes again and none of those out, and a train is let in
    ∷ on_fitted speaks_by_one (others ++ (proved_at 0 ++ (event 13 2 0 ∷ event 11 2 1 ∷ ordered)))
    -- silence proves. After a reset an axle comes in and goes out past head 3 while head 2 is silent, which then tells its counts
    ∷ on_fitted proves_in_silence (others ++ (reset_at 0 ++ (event 13 2 0 ∷ event 11 3 1 ∷ event 12 3 1 ∷ event 11 2 0 ∷ event 12 2 0 ∷ ordered)))
    -- silence forgets nothing. Head 2 falls silent, a count of head 3 comes again, and a train is let in
    ∷ on_fitted forgets_nothing (others ++ (proved_at 0 ++ (event 13 2 0 ∷ event 11 3 0 ∷ ordered)))
    -- silence gives nothing. Head 2 falls silent under a signal at proceed
    ∷ on_fitted keeps_reading (let_out_at 0 ++ (event 13 2 0 ∷ []))
    -- -1 is taken as free. One axle more goes out than came in
    ∷ on_fitted takes_minus_one (let_out_at 0 ++ (event 12 3 2 ∷ []))
    -- a difference below 0 is 0. Head 2 rolls over as a wagon rolls in under a signal at proceed
    ∷ on_fitted stops_at_zero (let_out_at 65534 ++ (event 11 2 0 ∷ []))
    -- 34 is not asked. The block is told free by a reading, its heads having told nothing
    ∷ on_fitted reads_fitted (others ++ (event 1 1 1 ∷ ordered))
    -- 34 is answered, and the reading stored
    ∷ on_fitted stores_refused (others ++ (event 1 1 1 ∷ ordered))
    ∷ []

-- and into one that was not cleared
abbrev pub let_in_uncleared : List Run
let_in_uncleared =
    -- 256 is taken as occupied. A train leaves A, 256 axles are in the block, it arrives at B, and as many are out: another is let in
    on_fitted takes256 (let_out_at 0 ++ (event 1 0 2 ∷ event 11 2 2 ∷ event 1 0 1 ∷ event 11 2 257 ∷ event 1 2 2 ∷ event 12 3 257 ∷ event 6 0 1 ∷ event 4 0 0 ∷ []))
    ∷ []

-- the runs after which the block's section does not show what the history tells
abbrev pub untold_heads : List Run
untold_heads =
    -- the number is not taken round. Head 2 stood at 65,535 at the reset, and then at 1: two axles are in the block, and it shows none
    on_fitted never_rolls (reset_at 65535 ++ (event 11 2 1 ∷ []))
    -- 256 is taken as occupied
    ∷ on_fitted takes256 (proved_at 0 ++ (event 11 2 257 ∷ []))
    ∷ []

-- ---- runs whose last event is accepted and should not have been

-- 34 is not asked of a reading of the block
abbrev pub read_of_fitted : Run
read_of_fitted = on_fitted reads_fitted (event 1 1 1 ∷ [])

-- 30 is not asked of a count of section 0
abbrev pub count_of_unfitted : Run
count_of_unfitted = on_fitted counts_unfitted (event 11 0 1 ∷ [])

-- 35 is not asked of a reset at the cold start
abbrev pub reset_in_silence : Run
reset_in_silence = on_fitted resets_silent (event 14 1 0 ∷ [])
