-- Panels that are wrong in distants (L2), each with a run after which a driver is misled, or is told something else than L2 says.
use Rattle.std.specs.Prelude.{ℕ, zero, suc, ◌+◌, ◌-◌, ◌<◌, ◌≡◌, ◌≢◌, ◌⊎◌, List, [], ◌∷◌, ◌++◌, not, eqb, get_or}
use Rattle.laws.specs.Choice.{when◌then◌else◌}
use Rattle.laws.specs.Tests.{◌and◌}
use Rattle.laws.specs.Tables.{table}
use Rattle.track.specs.declared.Line.{Line}
use Rattle.track.specs.Codes.{a_to_b, b_to_a}
use Rattle.track.specs.Objects.{line}
use Rattle.track.specs.Signal.{Signal, main, into}
use Rattle.signals.specs.Aspects.{dark, stop}
use Rattle.signals.specs.Shows.{shows}
use Rattle.signals.specs.Distants.{warning, carrier_darkens, distant_shows}
use Rattle.layout.specs.declared.Layout.{Layout}
use Rattle.layout.specs.Layout.{carrier_of, announced_by}
use Rattle.layout.specs.Load.{load}
use Rattle.layout_facts.specs.Plain.{CarriedBy}
use Rattle.interlocking.specs.declared.State.{State}
use Rattle.interlocking.specs.State.{cold}
use Rattle.panel.specs.Panel.{signal_shows, distant_byte}
use Rattle.panel.specs.Distants.{number_read}
use Rattle.step_facts.specs.Run.{Event, event, box_in_run}
use Rattle.safety.specs.History.{History, shown}
use Rattle.safety.specs.OtherLayouts.{with_distants, three_and_two}
use Rattle.safety.specs.WrongPanels.{Warnings, warned_by}
use Rattle.safety.specs.WrongRuns.{goes_on_by, released, opened, let_out}

-- ---- what a distant shows, wrongly

-- the carrier is not asked: lit on the mast of a signal at stop
abbrev asks_no_carrier : Warnings
asks_no_carrier L s d = distant_shows (signal_shows L s) 0 (announced_by L d)

-- the carrier is asked for stop alone: lit on the mast of a dark signal
abbrev asks_stop_alone : Warnings
asks_stop_alone L s d =
    when not (eqb (carrier_of L d) 0) and eqb (signal_shows L s (carrier_of L d - 1)) stop then dark else warning (signal_shows L s (announced_by L d))

-- the carrier's number is taken without less one
abbrev carrier_as_it_is : Warnings
carrier_as_it_is L s d = distant_shows (signal_shows L s) (when eqb (carrier_of L d) 0 then 0 else carrier_of L d + 1) (announced_by L d)

-- a free-standing distant hangs on signal 0
abbrev never_free : Warnings
never_free L s d = distant_shows (signal_shows L s) (when eqb (carrier_of L d) 0 then 1 else carrier_of L d) (announced_by L d)

-- 25 also of a signal that shows 21
abbrev as_straight : Warnings
as_straight L s d = when eqb (distant_byte L s d) 24 then 25 else distant_byte L s d

-- 23 of a signal that is dark
abbrev never_dark : Warnings
never_dark L s d = when carrier_darkens (signal_shows L s) (carrier_of L d) then dark else when eqb (signal_shows L s (announced_by L d)) dark then 23 else distant_byte L s d

-- dark, and not 23, of a signal that shows 20
abbrev dark_at_stop : Warnings
dark_at_stop L s d = when eqb (distant_byte L s d) 23 then dark else distant_byte L s d

-- the block signals of the first n lines, where those of a line come in this order
abbrev blocks_by : (List Line → ℕ → List Signal) → List Line → ℕ → List Signal
blocks_by order ls zero = []
blocks_by order ls (suc n) = blocks_by order ls n ++ order ls n

-- what a distant shows where the block signals are numbered so
abbrev numbered_by : (Layout → List Signal) → Warnings
numbered_by blocks L s d =
    distant_shows
    (λ k. shows L.routes L.route s.phase L.line s.direction s.point s.stage s.bar (get_or (table L.signals main ++ blocks L) k (main k)))
    (carrier_of L d) (announced_by L d)

-- the signals between the blocks of line l: A to B from end A; B to A from end A
abbrev upward : List Line → ℕ → List Signal
upward ls l = table ((line ls l).blocks - 1) (λ k. into l (k + 1) a_to_b)

abbrev downward : List Line → ℕ → List Signal
downward ls l = table ((line ls l).blocks - 1) (λ k. into l k b_to_a)

-- block signals counted B to A before A to B
abbrev other_way_first : Warnings
other_way_first = numbered_by (λ L. blocks_by (λ ls l. downward ls l ++ upward ls l) L.line L.lines)

-- one each way counted for each block, also where none stands
abbrev every_block : Warnings
every_block =
    numbered_by (λ L. blocks_by (λ ls l. table (line ls l).blocks (λ k. into l k a_to_b) ++ table (line ls l).blocks (λ k. into l k b_to_a)) L.line L.lines)

-- those B to A counted in their own direction, from end B
abbrev from_end_b : Warnings
from_end_b = numbered_by (λ L. blocks_by (λ ls l. upward ls l ++ table ((line ls l).blocks - 1) (λ k. into l ((line ls l).blocks - 2 - k) b_to_a)) L.line L.lines)

-- those A to B of all lines counted before those B to A
abbrev way_by_way : Warnings
way_by_way = numbered_by (λ L. blocks_by upward L.line L.lines ++ blocks_by downward L.line L.lines)

-- ---- what is wrong

-- a driver is told of a proceed that the signal does not show; a distant is lit on the mast of a signal at stop or dark; it shows something else than L2 says
pub data Fault : Type 0 where
  permissive : Fault
  lit_at_stop : Fault
  unlike : Fault

-- after a history some distant is so
abbrev pub Misled : Fault → Layout → History → Type 0
Misled permissive L h =
    (d : ℕ) × (d < L.distants)
    × ((((shown L h).distant d ≡ 24) × (number_read L (shown L h) (announced_by L d) ≢ 21)) ⊎ (((shown L h).distant d ≡ 25) × (number_read L (shown L h) (announced_by L d) ≢ 22)))
Misled lit_at_stop L h =
    (d : ℕ) × (d < L.distants)
    × (k : ℕ) × CarriedBy L d k × ((number_read L (shown L h) k ≡ stop) ⊎ (number_read L (shown L h) k ≡ dark)) × ((shown L h).distant d ≢ dark)
Misled unlike L h =
    (d : ℕ) × (d < L.distants) × ((shown L h).distant d ≢ distant_shows (number_read L (shown L h)) (carrier_of L d) (announced_by L d))

-- ---- the runs

-- a layout, and the history of the box on it with a panel of its own
pub record DrawnRun : Type 0 where
  pub layout : Layout
  pub history : History

-- the box on a layout, with another panel
abbrev drawn_on : List ℕ → Warnings → List Event → DrawnRun
drawn_on file warn events = record { layout = (load file).layout; history = goes_on_by (warned_by warn) (load file).layout (box_in_run (load file).layout) cold [] events }

-- on `with_distants`
abbrev drawn : Warnings → List Event → DrawnRun
drawn = drawn_on with_distants

-- the same with distants that show what L2 says of the signals as they showed before the event
abbrev lately : Layout → State → History → List Event → History
lately L s h [] = h
lately L s h (e ∷ es) =
    lately L (box_in_run L s e).next
    (record {
      event = e;
      number = (box_in_run L s e).number;
      detail = (box_in_run L s e).detail;
      image = warned_by (λ K t d. distant_byte K s d) L (box_in_run L s e).next;
    } ∷ h) es

abbrev late : List Event → DrawnRun
late events = record { layout = (load with_distants).layout; history = lately (load with_distants).layout cold [] events }

-- the line secured from B to A
abbrev turned : List Event
turned = released ++ (event 15 1 1 ∷ event 6 0 2 ∷ [])

-- on `three_and_two` both lines released by hand
abbrev both_released : List Event
both_released =
    event 1 1 1 ∷ event 1 2 1 ∷ event 1 3 1 ∷ event 1 5 1 ∷ event 1 6 1 ∷ event 7 0 1 ∷ event 7 1 1 ∷ []

-- the cases after which a driver is misled, by what is wrong
abbrev pub misleading : Fault → List DrawnRun
misleading permissive =
    -- the entrance signal at B shows 21
    drawn as_straight let_out
    -- it falls before a train
    ∷ late (let_out ++ (event 1 3 2 ∷ []))
    -- the signal B to A is lit, and the one A to B announced
    ∷ drawn other_way_first turned
    -- the signal A to B is lit, and the one B to A announced
    ∷ drawn every_block opened
    -- of three blocks the first is barred: the signal into it is announced, and the one into the second at proceed
    ∷ drawn_on three_and_two from_end_b (both_released ++ (event 15 0 1 ∷ event 6 0 2 ∷ event 8 0 0 ∷ []))
    -- the second line is secured from A to B, and a dark signal B to A of the first announced
    ∷ drawn_on three_and_two way_by_way (both_released ++ (event 15 3 1 ∷ event 6 1 1 ∷ []))
    ∷ []
misleading lit_at_stop =
    -- the exit signal at A is at stop, and the block signal behind it at proceed
    drawn asks_no_carrier opened
    -- the entrance signal at B is at stop, and the signal of the number after it at proceed
    ∷ drawn carrier_as_it_is opened
    -- the line is secured from B to A, and the block signal A to B dark
    ∷ drawn asks_stop_alone turned
    ∷ []
misleading unlike =
    -- the exit signal at A is at stop, and a free-standing distant dark
    drawn never_free opened
    -- the line is neutral
    ∷ drawn never_dark released
    -- the entrance signals are at stop
    ∷ drawn dark_at_stop released
    ∷ []
