-- As many as there are places, each empty.
use borrow.Author.Rules.{rules}
use Rattle.file_objects.specs.Routes.{no_routes}
use Rattle.file_objects.proofs.no_routes.Goals as goal

pub returns : goal.returns
unfolding no_routes
returns c = search rules
