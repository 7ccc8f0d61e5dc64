-- Every table is empty.
use Rattle.layout.specs.Layout.{no_layout}
use Rattle.layout.proofs.no_layout.Goals as goal

pub returns : goal.returns
unfolding no_layout
returns c = cc
