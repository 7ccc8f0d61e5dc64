-- As many as there are places, each empty.
use borrow.Author.Rules.{rules}
use Rattle.file_objects.specs.Sections.{no_sections}
use Rattle.file_objects.proofs.no_sections.Goals as goal

pub returns : goal.returns
unfolding no_sections
returns c = search rules
