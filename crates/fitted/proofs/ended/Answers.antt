-- By whether it is the last piece, and by the fault.
use mathlib.Core.Path.{◌≡◌, sym, ◌∙◌}
use Rattle.fitted.proofs.Read.{ended_last, ended_bad, ended_cut}
use Rattle.fitted.proofs.ended.Goals as goal

pub returns-then-last : goal.returns-then-last
returns-then-last c = ended_last _ _ _ c.if-last.true

pub returns-then-number-eq22 : goal.returns-then-number-eq22
returns-then-number-eq22 c = ended_bad _ _ _ (sym c.number.ensures ∙ c.if-number-eq22.true)

pub returns : goal.returns
returns c = rw c.detail.ensures (ended_cut _ _ _ c.if-last.false (λ e. c.if-number-eq22.false (c.number.ensures ∙ e)))
