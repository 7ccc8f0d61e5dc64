-- A fault of the number form, a number out of the range on either side, or a number in the range.
use mathlib.Core.Path.{sym}
use Rattle.std.proofs.lemmas.Result.{err_from_is_err_and}
use Rattle.fields.proofs.Laws.{bad_place, next_bad, next_low, next_high, next_in}
use Rattle.fields.proofs.next.Goals as goal

pub returns-in_err-number : goal.returns-in_err-number
returns-in_err-number c = λ k h. let p = err_from_is_err_and c.from_residual.result c.from_residual.ensures.1 in rw (p.1, p.2) (next_bad _ k _ _ _ h c.in_err-number.ensures, bad_place _ _ c.in_err-number.ensures)

pub returns-then-number-low : goal.returns-then-number-low
returns-then-number-low c = λ k h. (next_low _ k _ _ _ h _ c.in_ok-number.ensures c.requires.1 c.if-number-low.true, sym c.requires.1)

pub returns-then-number-limit : goal.returns-then-number-limit
returns-then-number-limit c = λ k h. next_in _ k _ _ _ h _ c.in_ok-number.ensures c.if-number-low.false c.if-number-limit.true

pub returns : goal.returns
returns c = λ k h. (next_high _ k _ _ _ h _ c.in_ok-number.ensures c.requires.1 c.if-number-low.false c.if-number-limit.false, sym c.requires.1)
