-- The tables hold the lines.
use borrow.Author.Rules.{rules}
use mathlib.Core.Path.{refl}
use Rattle.laws.proofs.Arrays.{length_mapped}
use Rattle.laws.proofs.Each.{redo_start}
use Rattle.line_block.proofs.Lines.{few_fit}
use Rattle.line_block.proofs.line_release.directions_after.Goals as goal

pub loop-k-init : goal.loop-k-init
loop-k-init c = redo_start _ _ _ _ (few_fit _ _ refl) (search (rules, length_mapped, c.copied-direction.type_inv))
