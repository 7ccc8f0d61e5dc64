-- A last byte is the number; any other is put below the number in the bytes after it, which is below 2 to the 56th, so the sum fits.
use native.Mathlib.Omega.{arith}
use mathlib.Core.Path.{sym}
use Rattle.numbers.proofs.Cases.{cases}
use Rattle.numbers.proofs.Readings.{groups_small}
use Rattle.numbers.proofs.+groups.Goals as goal

pub returns-then-left-eq0 : goal.returns-then-left-eq0
returns-then-left-eq0 t c = search cases

pub returns-then-s-at : goal.returns-then-s-at
returns-then-s-at t c = search cases

pub returns-then-byte-lt128 : goal.returns-then-byte-lt128
returns-then-byte-lt128 t c = search cases

pub returns-in_err-rest : goal.returns-in_err-rest
returns-in_err-rest t c = search cases

pub returns-then-rest-eq0 : goal.returns-then-rest-eq0
returns-then-rest-eq0 t c = search cases

pub overflow_mul-result : goal.overflow_mul-result
overflow_mul-result t c = omega (arith, groups_small _ _ _ _ _ _ (λ i. (c.type_inv.s i).fits) (omega arith) (sym c.in_ok-rest.ensures))

pub overflow_add-result-2 : goal.overflow_add-result-2
overflow_add-result-2 t c = omega (arith, groups_small _ _ _ _ _ _ (λ i. (c.type_inv.s i).fits) (omega arith) (sym c.in_ok-rest.ensures))

pub returns : goal.returns
returns t c = search cases
