-- What a state in range is, table by table: the codes that there are for each object (sections 1 and 4 to 7).
use Rattle.std.specs.Prelude.{ℕ, ◌<◌, ◌≤◌, List, get_or}
use Rattle.track.specs.Codes.{free, left, right, reads_none, neutral, b_to_a, open_block, stage3, idle, cancelling, lamp_stop, lamp_none}
use Rattle.track.specs.Sizes.{most_sections, most_points, most_lines, most_places, most_train_routes, most_routes, most_lamps}
use Rattle.interlocking.specs.declared.State.{State}

-- x lies in low .. high
abbrev pub In : ℕ → ℕ → ℕ → Type 0
In low high x = (low ≤ x) × (x ≤ high)

-- each entry of a table of n does
pub record Within (n low high : ℕ) (xs : List ℕ) : Type 0 where
  pub entry : (i : ℕ) → i < n → In low high (get_or xs i 0)

-- what sections read (section 1)
abbrev pub Sections : List ℕ → Type 0
Sections xs = Within most_sections free reads_none xs

-- what points read (section 1)
abbrev pub Points : List ℕ → Type 0
Points xs = Within most_points left reads_none xs

-- orders: 0 for none, left, right (section 3)
abbrev pub Orders : List ℕ → Type 0
Orders xs = Within most_points 0 right xs

-- phases of routes (sections 4 and 6)
abbrev pub Phases : List ℕ → Type 0
Phases xs = Within most_routes idle cancelling xs

-- the steps done of letting a route go, 0..3 (section 6)
abbrev pub Steps : List ℕ → Type 0
Steps xs = Within most_train_routes 0 3 xs

-- the seconds of cancelling, 0..89 (section 6)
abbrev pub Seconds : List ℕ → Type 0
Seconds xs = Within most_train_routes 0 89 xs

-- directions of lines (section 5)
abbrev pub Directions : List ℕ → Type 0
Directions xs = Within most_lines neutral b_to_a xs

-- stages of blocks (section 5, L3)
abbrev pub Stages : List ℕ → Type 0
Stages xs = Within most_places open_block stage3 xs

-- bars, 0 or 1 (section 3)
abbrev pub Bars : List ℕ → Type 0
Bars xs = Within most_places 0 1 xs

-- what lamps report (L3)
abbrev pub Lamps : List ℕ → Type 0
Lamps xs = Within most_lamps lamp_stop lamp_none xs

-- each table has codes that there are
pub record InRange (s : State) : Type 0 where
  pub section : Sections s.section
  pub point : Points s.point
  pub order : Orders s.order
  pub phase : Phases s.phase
  pub steps : Steps s.steps
  pub seconds : Seconds s.seconds
  pub direction : Directions s.direction
  pub stage : Stages s.stage
  pub bar : Bars s.bar
  pub lamp : Lamps s.lamp
