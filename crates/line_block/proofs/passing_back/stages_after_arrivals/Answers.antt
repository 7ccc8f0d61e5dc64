-- Where no block waits none opens; else as the table of arrivals tells.
use borrow.Author.Rules.{rules}
use native.Mathlib.Omega.{arith}
use Rattle.laws.proofs.Arrays.{length_mapped}
use Rattle.line_block.specs.PassingBack.{passed_back}
use Rattle.line_block.proofs.Lines.{few_fit, few_long}
use Rattle.line_block.proofs.PassingBackLaws.{passed_idle, arrivals_pass}
use Rattle.line_block.proofs.passing_back.stages_after_arrivals.Goals as goal

pub overflow_mul-few_lines : goal.overflow_mul-few_lines
overflow_mul-few_lines c = omega (arith, few_fit _ _ c.few_lines.ensures)

pub passed_back-requires : goal.passed_back-requires
passed_back-requires c = omega (arith, few_fit _ _ c.few_lines.ensures)

pub returns : goal.returns
unfolding passed_back
returns c =
    let few = c.few_lines.ensures in
    let (is, long) = c.passed_back.ensures in
    rw (← few) (arrivals_pass _ _ _ _ (few_long _ _ _ few long) (few_fit _ _ few) _ _ _ _ _ c.arrivals-arrived.ensures _ is)

pub returns-then-none_waits : goal.returns-then-none_waits
returns-then-none_waits c =
    rw (← c.copied-stage.ensures) (passed_idle _ _ _ _ _ _ (search (rules, length_mapped, c.copied-stage.type_inv)) c.none_waits.ensures c.if-none_waits.true)
