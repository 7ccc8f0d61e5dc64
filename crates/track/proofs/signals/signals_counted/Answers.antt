-- Line l adds its own, and the sum fits.
use native.Mathlib.Omega.{arith}
use borrow.Author.Rules.{rules}
use Rattle.track.specs.SignalNumbers.{between_blocks}
use Rattle.track.proofs.SignalNumbers.{count_mains, count_on}
use Rattle.track.proofs.signals.signals_counted.Goals as goal

pub loop-l-init : goal.loop-l-init
loop-l-init c = (omega (arith, count_mains c.args.m c.args.ls.now), omega arith)

pub overflow_add-count : goal.overflow_add-count
unfolding between_blocks
overflow_add-count c = search rules

pub loop-l-preserved : goal.loop-l-preserved
unfolding between_blocks
loop-l-preserved c = (search (rules, count_on), search rules)
