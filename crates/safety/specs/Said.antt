-- L1: what an event says of a section's heads, from its three raw numbers alone, whatever the box answered.
use Rattle.std.specs.Prelude.{ℕ, ◌/◌, ◌%◌, Bool, eqb, leb}
use Rattle.laws.specs.Choice.{when◌then◌else◌}
use Rattle.laws.specs.Tests.{◌and◌, ◌or◌, implies}
use Rattle.track.specs.Codes.{axles_in, axles_out, head_silent, reset_axles}
use Rattle.axles.specs.declared.Said.{Said}
use Rattle.axles.specs.HeadLog.{HeadLog, said, both_speak}
use Rattle.step_facts.specs.Run.{Event}

-- the section that an event of kinds 11 to 14 names: kinds 11 to 13 by twice the section plus 0 or 1 for the head, kind 14 by the section itself
unfoldable pub named : Event → ℕ
named e = when eqb e.kind reset_axles then e.first else e.first / 2

-- it is of one of these kinds, and its second number is right: a count up to 65,535 with kinds 11 and 12, 0 with kinds 13 and 14
unfoldable pub of_heads : Event → Bool
of_heads e =
    when eqb e.kind axles_in or eqb e.kind axles_out then leb e.second 65535
    else (eqb e.kind head_silent or eqb e.kind reset_axles) and eqb e.second 0

-- it is such an event of the heads of section g
unfoldable pub said_of : ℕ → Event → Bool
said_of g e = of_heads e and eqb (named e) g

-- what it says of them: its kind, the head, the count
abbrev pub saying : Event → Said
saying e = said e.kind (e.first % 2) e.second

-- L1: whether it takes effect after what was said before: a reset while a head is silent is refused (35), and a refused event gives no reading
unfoldable pub takes_effect : Event → HeadLog → Bool
takes_effect e es = implies (eqb e.kind reset_axles) (both_speak es)
