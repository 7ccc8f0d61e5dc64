-- A fault of the number form, too many, or so many.
use Rattle.std.proofs.lemmas.Result.{err_from_is_err_and}
use mathlib.Core.Path.{refl}
use native.Mathlib.Omega.{arith}
use Rattle.numbers.specs.declared.Fault.TheVariants.{OutOfRange}
use Rattle.fields.proofs.Laws.{bad_place, next_bad, next_high, next_in}
use Rattle.pairs.proofs.Laws.{count_given, count_none}
use Rattle.pairs.proofs.next_count.Goals as goal

pub returns-in_err-count : goal.returns-in_err-count
returns-in_err-count c = λ k h. let p = err_from_is_err_and c.from_residual.result c.from_residual.ensures.1 in rw (p.1, p.2) (count_none _ k (next_bad _ k 0 _ (OutOfRange c.args.at.now) h c.in_err-count.ensures), bad_place _ _ c.in_err-count.ensures)

pub returns-then-count-gt-MOST_CONFLICTS : goal.returns-then-count-gt-MOST_CONFLICTS
returns-then-count-gt-MOST_CONFLICTS c = λ k h. (count_none _ k (next_high _ k 0 _ (OutOfRange c.args.at.now) h _ c.in_ok-count.ensures refl (omega arith) (omega arith)), refl)

pub returns : goal.returns
returns c = λ k h. count_given _ k (next_in _ k 0 _ (OutOfRange c.args.at.now) h _ c.in_ok-count.ensures (omega arith) (omega arith))
