-- The stages of a block, its far section and its far signal (section 5).
use Rattle.std.specs.Prelude.{ℕ, ◌+◌, ◌-◌, Bool, eqb, ltb}
use Rattle.laws.specs.Choice.{when◌then◌else◌}
use Rattle.laws.specs.Tests.{◌and◌, ◌or◌}
use Rattle.track.specs.declared.Line.{Line}
use Rattle.track.specs.Codes.{free, occupied, reads_none, end_a, end_b, a_to_b, open_block, stage0, stage1, stage2, stage3}
use Rattle.track.specs.Objects.{inner, entrance}
use Rattle.track.specs.Blocks.{facing}
use Rattle.track.specs.Signal.{Signal, main, into}
use Rattle.passage.specs.declared.Beyond.{Beyond}
use Rattle.passage.specs.declared.Beyond.TheVariants.{Block, Station}

-- given free, where the far signal's lamp reports stop or not: free leaves open and takes 1 to 0; L3: 2 opens only if that lamp reports stop, else it goes to
-- 3, and free leaves 3
unfoldable pub free_stage : Bool → ℕ → ℕ
free_stage stop_lit stage =
    when eqb stage open_block then open_block
    else when eqb stage stage2 then (when stop_lit then open_block else stage3)
    else when eqb stage stage3 then stage3
    else stage0

-- its own reading, given by an event: occupied takes open, 0 and (L3) 3 to 1, and leaves 1 and 2; none gives 0; free as above
unfoldable pub own_stage : ℕ → Bool → ℕ → ℕ
own_stage given stop_lit stage =
    when eqb given occupied then (when eqb stage stage1 or eqb stage stage2 then stage else stage1)
    else when eqb given reads_none then stage0
    else when eqb given free then free_stage stop_lit stage
    else stage

-- ---- far section and far signal

-- the end that a direction leaves: A from A to B, B from B to A; and the end at which it arrives
unfoldable pub departure : ℕ → ℕ
departure w = when eqb w a_to_b then end_a else end_b

unfoldable pub arrival : ℕ → ℕ
arrival w = when eqb w a_to_b then end_b else end_a

-- what lies beyond block i in direction w: the next block, or the station at the arrival end
unfoldable pub beyond : Line → ℕ → ℕ → Beyond
beyond b i w = when eqb w a_to_b then (when ltb (i + 1) b.blocks then Block (i + 1) else Station end_b) else when eqb i 0 then Station end_a else Block (i - 1)

-- the section there: the one of the next block that faces this one, or the inner section of the station
unfoldable pub section_at : Line → ℕ → Beyond → ℕ
section_at b w (Block j) = facing b j (departure w)
section_at b w (Station e) = inner b e

-- the signal between, where the line has number l: the one into the next block, or the entrance signal of the station
unfoldable pub signal_at : Line → ℕ → ℕ → Beyond → Signal
signal_at b l w (Block j) = into l j w
signal_at b l w (Station e) = main (entrance b e)

-- block i counted from the arrival end of direction w, where the last block in travel is 0: so many blocks lie beyond it. Counted so twice it is itself
unfoldable pub from_arrival : Line → ℕ → ℕ → ℕ
from_arrival b w i = when eqb w a_to_b then b.blocks - (i + 1) else i

-- the far section of block i in direction w
unfoldable pub far_section : Line → ℕ → ℕ → ℕ
far_section b i w = section_at b w (beyond b i w)

-- its far signal
unfoldable pub far_signal : Line → ℕ → ℕ → ℕ → Signal
far_signal b l i w = signal_at b l w (beyond b i w)

-- stage 1 becomes 2 when the far section reads occupied in an event in which the far signal goes from proceed to stop;
-- stage 2 becomes 1 when the far section reads none
unfoldable pub far_stage : ℕ → Bool → ℕ → ℕ
far_stage far dropped stage =
    when eqb stage stage1 then (when eqb far occupied and dropped then stage2 else stage1)
    else when eqb stage stage2 then (when eqb far reads_none then stage1 else stage2)
    else stage
