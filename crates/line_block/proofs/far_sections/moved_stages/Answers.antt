-- The tables hold the places.
use borrow.Author.Rules.{rules}
use Rattle.laws.proofs.Arrays.{length_mapped}
use Rattle.laws.proofs.Each.{redo_start}
use Rattle.line_block.proofs.far_sections.moved_stages.Goals as goal

pub loop-k-init : goal.loop-k-init
loop-k-init c = redo_start _ _ _ _ c.requires (search (rules, length_mapped, c.copied-stage.type_inv))
