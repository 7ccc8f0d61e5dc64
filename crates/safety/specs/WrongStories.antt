-- The customer's stories with the boxes that they happened to, or could happen to: a run of each that does what must not happen in its last event.
use Rattle.std.specs.Prelude.{List, [], ◌∷◌, ◌++◌}
use Rattle.layout.specs.declared.Layout.{Layout}
use Rattle.layout.specs.Load.{load}
use Rattle.step_facts.specs.Run.{event}
use Rattle.safety.specs.Cases.{p5}
use Rattle.safety.specs.History.{Moment, History}
use Rattle.safety.specs.Stories.{ThrowsFree, Falls, OpensCleared}
use Rattle.safety.specs.OtherLayouts.{two_blocks, with_overlap, with_line_point}
use Rattle.safety.specs.WrongBoxes.{refuses_none, opens_free, passes_none, never_falls}
use Rattle.safety.specs.WrongOrders.{throws_secured, throws_taken}
use Rattle.safety.specs.WrongRuns.{Run, readings, opened, let_out, gone, on_t, cold_run, thrown_under}

-- one of the three
pub data Story : Type 0 where
  blades : Story
  falls : Story
  opens : Story

-- what must hold in an event m
abbrev pub Tells : Story → Layout → Moment → History → Type 0
Tells blades L m h = ThrowsFree L m h
Tells falls L m h = Falls L m h
Tells opens L m h = OpensCleared L m h

-- the last event of a history broke it
abbrev pub BrokenLast : Story → Layout → History → Type 0
BrokenLast t L [] = ⊥
BrokenLast t L (m ∷ h) = ¬ Tells t L m h

-- the runs, by the story
abbrev pub bent : Story → List Run
bent blades =
    -- the old box: code 0 refused. The wire of the point's own section breaks, a wagon comes to stand there, and the point is thrown under it
    on_t refuses_none (readings ++ (event 1 2 0 ∷ event 3 0 2 ∷ []))
    -- throw: 7 and 8 are not asked. The wagon is seen, and the point is thrown under it
    ∷ on_t throws_taken (readings ++ (event 1 2 2 ∷ event 3 0 2 ∷ []))
    -- throw: 15 is not asked. The point of a route is thrown under it
    ∷ thrown_under
    -- throw: 16 is not asked. The point of a secured line is thrown
    ∷ cold_run throws_secured (load with_line_point).layout (opened ++ (event 3 0 2 ∷ []))
    ∷ []
bent falls =
    -- code 0 refused: the block's wire dies, and the signal stays at proceed into it
    on_t refuses_none (let_out ++ (event 1 1 0 ∷ []))
    -- signals never fall: the path of a route is occupied; its overlap reads none
    ∷ on_t never_falls (let_out ++ (event 1 3 2 ∷ []))
    ∷ cold_run never_falls (load with_overlap).layout (let_out ++ (event 1 4 0 ∷ []))
    ∷ []
bent opens =
    -- a block opens because it reads free again: its input died and came back
    on_t opens_free (opened ++ (event 1 1 0 ∷ event 1 1 1 ∷ []))
    -- the passage is counted with a none of the block between: it died and came back under a train, P5
    ∷ on_t passes_none (gone ++ p5)
    -- the same of the second of two blocks
    ∷ cold_run opens_free (load two_blocks).layout (opened ++ (event 1 2 0 ∷ event 1 2 1 ∷ []))
    ∷ []
