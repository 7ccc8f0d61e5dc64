-- Stage, signal A to B, signal B to A are made, then stored one after the other.
use borrow.Author.Rules.{rules}
use Rattle.panel.proofs.Blocks.{block_made}
use Rattle.panel.proofs.lines.put_block.Goals as goal

pub returns : goal.returns
returns c = search (rules, block_made)
