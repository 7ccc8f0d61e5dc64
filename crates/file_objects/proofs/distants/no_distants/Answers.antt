-- As many as there are places, each empty.
use borrow.Author.Rules.{rules}
use Rattle.file_objects.specs.Distants.{no_distants}
use Rattle.file_objects.proofs.distants.no_distants.Goals as goal

pub returns : goal.returns
unfolding no_distants
returns c = search rules
