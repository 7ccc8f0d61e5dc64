-- Letting a route go (section 6), told from the history: a route is locked from the event in which an order to set it was accepted until a train or time
-- releases it. No byte of the panel is asked.
--
-- Read as `Demand3` says; r is the route.
use Rattle.std.specs.Prelude.{ℕ, ◌+◌, ◌-◌, ◌<◌, ◌≡◌, ◌≢◌, ◌⊎◌, Bool, [], ◌∷◌, eqb}
use Rattle.laws.specs.Choice.{when◌then◌else◌}
use Rattle.laws.specs.Tests.{◌and◌}
use Rattle.track.specs.Codes.{free, occupied, reads_none, entrance_route, exit_route, set_route, cancel_route, one_second}
use Rattle.layout.specs.declared.Layout.{Layout}
use Rattle.layout.specs.Layout.{route_in}
use Rattle.layout_facts.specs.Plain.{path, nearest_block}
use Rattle.safety.specs.History.{Moment, History, Given, gave_section, gave_block, reads, section_reads, Accepted, Second, Since}

-- ---- orders

-- an order to set route r was accepted
abbrev pub Sets : ℕ → Moment → Type 0
Sets r m = Accepted set_route r m

-- an order to cancel it
abbrev pub Cancels : ℕ → Moment → Type 0
Cancels r m = Accepted cancel_route r m

-- ---- the watched pair: "for an exit route the last path section, then the block entered; otherwise the last but one and the last path section"

-- what an event gives the block nearest the route's own end, which an exit route enters
abbrev pub gave_end : Layout → ℕ → Given
gave_end L r = gave_block L (route_in L r).line (nearest_block L (route_in L r).line (route_in L r).end)

-- what it gives the first of the pair
unfoldable pub gave_first : Layout → ℕ → Given
gave_first L r = when eqb (route_in L r).kind exit_route then gave_section L (path L r ((route_in L r).paths - 1)) else gave_section L (path L r ((route_in L r).paths - 2))

-- what it gives the second
unfoldable pub gave_second : Layout → ℕ → Given
gave_second L r = when eqb (route_in L r).kind exit_route then gave_end L r else gave_section L (path L r ((route_in L r).paths - 1))

-- ---- the three steps, each in an event of its own, since the route was set

-- it does not start again: the route is not set anew, the first is not given free, and neither is given none
pub record Unbroken (L : Layout) (r : ℕ) (m : Moment) (h : History) : Type 0 where
  pub not_set : ¬ Sets r m
  pub not_free : gave_first L r m h ≢ free
  pub not_none : (gave_first L r m h ≢ reads_none) × (gave_second L r m h ≢ reads_none)

-- "the first is given occupied", while the second does not read none
abbrev pub StepOne : Layout → ℕ → History → Type 0
StepOne L r h = Since (λ m older. (gave_first L r m older ≡ occupied) × (reads (gave_second L r) (m ∷ older) ≢ reads_none)) (Unbroken L r) h

-- "the second is given occupied while the first reads occupied"
abbrev pub StepTwo : Layout → ℕ → History → Type 0
StepTwo L r h =
    Since (λ m older. StepOne L r older × (gave_second L r m older ≡ occupied) × (reads (gave_first L r) (m ∷ older) ≡ occupied)) (Unbroken L r) h

-- "the first is given free"
abbrev pub StepThree : Layout → ℕ → History → Type 0
StepThree L r h = Since (λ m older. StepTwo L r older × (gave_first L r m older ≡ free)) (λ m older. ¬ Sets r m) h

-- ---- released

-- "all its path sections read free, the last one excepted for kinds 0 and 1, and, for kind 1, the block nearest its end reads free"
pub record Vacated (L : Layout) (r : ℕ) (h : History) : Type 0 where
  pub path : (j : ℕ) → j < (route_in L r).paths → ((route_in L r).kind ≢ exit_route → j + 1 < (route_in L r).paths) → section_reads L (path L r j) h ≡ free
  pub block : (route_in L r).kind ≡ entrance_route → reads (gave_end L r) h ≡ free

-- by a train: after the third step, at the end of the first event (that one included) at which it is vacated
abbrev pub ByTrain : Layout → ℕ → Moment → History → Type 0
ByTrain L r m h = StepThree L r (m ∷ h) × Vacated L r (m ∷ h)

-- it was cancelled since it was set
abbrev pub Cancelled : ℕ → History → Type 0
Cancelled r h = Since (λ m older. Cancels r m) (λ m older. ¬ Sets r m) h

-- an order to cancel it, and a second, as tests
abbrev cancels : ℕ → Moment → Bool
cancels r m = eqb m.number 0 and (eqb m.event.kind cancel_route and eqb m.event.first r)

abbrev is_second : Moment → Bool
is_second m = eqb m.event.kind one_second and (eqb m.event.first 0 and eqb m.event.second 0)

-- how many seconds have passed since the last order to cancel it
unfoldable pub seconds_since : ℕ → History → ℕ
seconds_since r [] = 0
seconds_since r (m ∷ h) = when cancels r m then 0 else when is_second m then seconds_since r h + 1 else seconds_since r h

-- by time: "the route is released by the 90th kind 10 event after it"
pub record ByTime (r : ℕ) (m : Moment) (h : History) : Type 0 where
  pub cancelled : Cancelled r h
  pub second : Second m
  pub ninetieth : seconds_since r (m ∷ h) ≡ 90

-- "the route is released by the 90th kind 10 event after it, or earlier as above"
abbrev pub Goes : Layout → ℕ → Moment → History → Type 0
Goes L r m h = ByTrain L r m h ⊎ ByTime r m h

-- ---- locked

-- "a set route locks at once", and is locked until it goes; a cancelling route is locked too
abbrev pub Locked : Layout → ℕ → History → Type 0
Locked L r h = Since (λ m older. Sets r m) (λ m older. ¬ Goes L r m older) h
