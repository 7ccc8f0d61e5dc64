-- Soundness is asked, and the kind chooses the row.
use Rattle.interlocking.specs.Step.{step}
use Rattle.interlocking.proofs.Stepped.{sound_holds, step_asked}
use Rattle.interlocking.proofs.State.step.Goals as goal

pub answer-requires : goal.answer-requires
answer-requires c = sound_holds _ _ _ c.is_sound-asked.ensures

pub returns : goal.returns
unfolding step
returns c = step_asked _ _ _ _ _ _ _ c.is_sound-asked.ensures c.answer.ensures
