-- Each line adds its own.
use mathlib.Core.Path.{sym}
use borrow.Author.Rules.{rules}
use native.Mathlib.Omega.{arith}
use Rattle.panel.proofs.Blocks.{blocks_none, count_on, count_end}
use Rattle.panel.proofs.lines.count_blocks.Goals as goal

pub loop-l-init : goal.loop-l-init
loop-l-init c = (omega arith, sym (blocks_none _), omega arith)

pub loop-l-preserved : goal.loop-l-preserved
loop-l-preserved c = (omega arith, count_on _ _ _ _ c.loop-l.invariant.1 c.line_at.ensures, search rules)

pub returns : goal.returns
returns c = search (rules, count_end)
