-- Each is written after those before it.
use borrow.Author.Rules.{rules}
use mathlib.Core.Path.{refl}
use native.Mathlib.Omega.{arith}
use Rattle.panel.proofs.Writes.{writes, wrote_length}
use Rattle.panel.proofs.Blocks.{block_next}
use Rattle.panel.proofs.lines.put_blocks.Goals as goal

pub loop-i-init : goal.loop-i-init
loop-i-init c = (omega arith, omega arith, refl, search writes)

pub loop-i-preserved : goal.loop-i-preserved
loop-i-preserved c = (omega arith, omega (arith, block_next _ _ _ _ _ _ _ c.put_block-next.ensures), search (rules, wrote_length), search writes)

pub returns : goal.returns
returns c = search writes
