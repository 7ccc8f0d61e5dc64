-- What lamps report (L3): a table that has, at the number of each main and block signal (L2), 1 stop lit, 2 another light lit, 3 none.
use Rattle.std.specs.Prelude.{ℕ, Bool, false, not, List, eqb}
use Rattle.laws.specs.Choice.{when◌then◌else◌}
use Rattle.laws.specs.Tables.{read}
use Rattle.track.specs.declared.Line.{Line}
use Rattle.track.specs.Codes.{neutral, lamp_stop, lamp_other, lamp_none}
use Rattle.track.specs.Sizes.{most_lamps}
use Rattle.track.specs.Lists.{between}
use Rattle.track.specs.Objects.{line}
use Rattle.track.specs.SignalNumbers.{number_of}
use Rattle.passage.specs.Passage.{far_signal}

-- the lamp of the signal of number x; that of a signal that there is not reports none
unfoldable pub lamp_of : List ℕ → ℕ → ℕ
lamp_of lamps x = read most_lamps lamp_none lamps x

-- it reports neither stop nor another light
unfoldable pub reports_none : List ℕ → ℕ → Bool
reports_none lamps x = not (between lamp_stop lamp_other (lamp_of lamps x))

-- the lamp of the far signal of block i of line l in direction w, where there are m main signals
unfoldable pub far_lamp : ℕ → List Line → List ℕ → ℕ → ℕ → ℕ → ℕ
far_lamp m ls lamps l i w = lamp_of lamps (number_of m ls (far_signal (line ls l) l i w))

-- it reports stop; in neutral there is no far signal, and so no lamp
unfoldable pub far_stop_lit : ℕ → List Line → List ℕ → ℕ → ℕ → ℕ → Bool
far_stop_lit m ls lamps l i w = when eqb w neutral then false else eqb (far_lamp m ls lamps l i w) lamp_stop
