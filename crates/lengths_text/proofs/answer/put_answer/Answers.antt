-- No room, the lengths, or the refusal.
use native.Mathlib.Omega.{arith}
use borrow.Author.Rules.{rules}
use Rattle.lengths_text.proofs.Texts.{answer_none, answer_granted, answer_refused}
use Rattle.lengths_text.proofs.answer.put_answer.Goals as goal

pub returns-then-out-lt256 : goal.returns-then-out-lt256
returns-then-out-lt256 c = search (rules, answer_none)

pub returns-in-Ok : goal.returns-in-Ok
returns-in-Ok c = answer_granted _ _ _ _ _ _ c.lengths.ensures (omega arith) _ c.in-Ok.is c.put_lengths.ensures

pub returns-in-Err : goal.returns-in-Err
returns-in-Err c = answer_refused _ _ _ _ _ _ c.lengths.ensures (omega arith) _ c.in-Err.is c.put_refusal.ensures
