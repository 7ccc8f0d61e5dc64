-- As many as there are places, each empty.
use borrow.Author.Rules.{rules}
use Rattle.file_objects.specs.Lines.{no_lines}
use Rattle.file_objects.proofs.no_lines.Goals as goal

pub returns : goal.returns
unfolding no_lines
returns c = search rules
