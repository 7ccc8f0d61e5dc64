-- No route before r starts there and is at proceed.
use Rattle.laws.proofs.Loops.{Failed}
use Rattle.line_block.specs.Entries.{entry_proceeds}
use Rattle.line_block.proofs.far_sections.main_proceeds.Given as goal

abbrev pub invariant-loop-r : goal.invariant-loop-r
invariant-loop-r l = Failed l.s.routes (entry_proceeds l.s.entry.now l.phases l.x) l.r
