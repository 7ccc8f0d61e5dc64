-- Each return is the number of the first test that fails.
use mathlib.Core.Path.{sym}
use native.Mathlib.Omega.{arith}
use Rattle.laws.proofs.Choice.{chains}
use Rattle.layout.specs.Layout.{counts}
use Rattle.layout.specs.Rules.{first_failed}
use Rattle.layout.proofs.Tested.{test_fails, tests_pass}
use Rattle.layout.proofs.first_broken.Goals as goal

pub returns-then-not-rule_1 : goal.returns-then-not-rule_1
unfolding first_failed counts
returns-then-not-rule_1 c = test_fails _ c.requires (search chains) (λ e. omega arith)

pub returns-then-not-rule_2 : goal.returns-then-not-rule_2
unfolding first_failed counts
returns-then-not-rule_2 c = test_fails _ c.requires (search chains) (λ e. omega arith)

pub returns-then-not-rule_3 : goal.returns-then-not-rule_3
unfolding first_failed counts
returns-then-not-rule_3 c = test_fails _ c.requires (search chains) (λ e. omega arith)

pub returns-then-not-rule_4 : goal.returns-then-not-rule_4
unfolding first_failed counts
returns-then-not-rule_4 c = test_fails _ c.requires (search chains) (λ e. omega arith)

pub returns-then-not-rule_5 : goal.returns-then-not-rule_5
unfolding first_failed counts
returns-then-not-rule_5 c = test_fails _ c.requires (search chains) (λ e. omega arith)

pub returns-then-not-rule_6 : goal.returns-then-not-rule_6
unfolding first_failed counts
returns-then-not-rule_6 c = test_fails _ c.requires (search chains) (λ e. omega arith)

pub returns-then-not-rule_7 : goal.returns-then-not-rule_7
unfolding first_failed counts
returns-then-not-rule_7 c = test_fails _ c.requires (search chains) (λ e. omega arith)

pub returns : goal.returns
unfolding first_failed counts
returns c = tests_pass _ c.requires (sym (search chains))
