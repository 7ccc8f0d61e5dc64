-- The event is refused, or done, and then what follows it completes the answer.
use mathlib.Core.Path.{refl, ◌∙◌}
use Rattle.interlocking.specs.Parts.{core_step}
use Rattle.interlocking.proofs.Trying.{heads_given, answer_refused, answer_done, done_sound}
use Rattle.interlocking.proofs.answering.answered.Goals as goal

pub returns-then-t-ne0 : goal.returns-then-t-ne0
unfolding core_step
returns-then-t-ne0 c = answer_refused _ _ _ _ _ _ (heads_given _ _ _ _ _ _ _ _ _ _ _ (c.tried_by-t.ensures ∙ c.event_tried.ensures) c.heads_then-then.ensures) _ c.if-t-ne0.true refl

pub followed-next-requires : goal.followed-next-requires
followed-next-requires c = c.requires (done_sound _ _ _ _ _ (c.tried_by-t.ensures ∙ c.event_tried.ensures) c.if-t-ne0.false)

pub returns : goal.returns
unfolding core_step
returns c =
    let heads = c.heads_then-then.ensures in
    answer_done _ _ _ _ _ _ (heads_given _ _ _ _ _ _ _ _ _ _ _ (c.tried_by-t.ensures ∙ c.event_tried.ensures) heads) _ _ c.if-t-ne0.false c.followed-next.ensures heads
