-- By what stands there, and by whether the piece is the last.
use mathlib.Core.Path.{sym, ◌∙◌}
use Rattle.event_file.proofs.Turns.{ends_past, ends_cut, ends_bad, ends_last, ends_more, fault_once}
use Rattle.event_file.proofs.pieces.end_by.Goals as goal
use Rattle.event_file.proofs.pieces.end_by.Goals.{then-number-eq21+else-not-last, else-number-eq21}

pub returns-in-Some : goal.returns-in-Some
returns-in-Some c = λ p e. rw (c.in-Some.is, ← e) (ends_past _ p _ c.if-not-last.true (sym c.number.ensures ∙ c.if-number-eq21.true))

pub returns-in-Some-2 : goal.returns-in-Some-2
returns-in-Some-2 c = λ p e.
    elim c.if-number-eq21.branch [
      | then-number-eq21+else-not-last w ↦ rw c.in-Some-2.is (ends_cut _ p _ w.if-not-last.false)
      | else-number-eq21 w ↦ rw c.in-Some-2.is (ends_bad _ p _ (λ z. w.if-number-eq21.false (c.number.ensures ∙ fault_once (sym c.in-Some.is ∙ c.in-Some-2.is) z)))
    ]

pub returns-in-None : goal.returns-in-None
returns-in-None c = λ p e. rw (c.in-None.is, ← e) (ends_last _ p c.if-last.true)

pub returns-in-None-2 : goal.returns-in-None-2
returns-in-None-2 c = λ p e. rw (c.in-None-2.is, ← e) (ends_more _ p c.if-last.false)
