-- The state is asked, then the layout; with both in order the image is drawn, where there is room.
use Rattle.panel.proofs.Answers.{unsound_state, unsound_layout, sound_holds, sound_drawn, core_drawn}
use Rattle.panel.proofs.panel.Goals as goal

pub returns-then-not-in_range : goal.returns-then-not-in_range
returns-then-not-in_range c = unsound_state _ _ _ _ c.in_range.ensures c.if-not-in_range.true-raw

pub returns-then-not-sound : goal.returns-then-not-sound
returns-then-not-sound c = unsound_layout _ _ _ _ c.sound.ensures c.if-not-sound.true-raw

pub draw_in-requires : goal.draw_in-requires
draw_in-requires c = sound_holds _ _ c.sound.ensures c.if-not-sound.false-raw

pub returns : goal.returns
returns c =
    sound_drawn _ _ _ _ _ _ _ c.in_range.ensures c.if-not-in_range.false-raw c.sound.ensures c.if-not-sound.false-raw
    (core_drawn _ _ _ _ _ _ c.core_of-core.ensures c.draw_in.ensures)
