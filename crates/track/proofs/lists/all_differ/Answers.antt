-- What is in the set stood before: where an entry is in it not all differ, else it joins them.
use Rattle.track.proofs.Differ.{aparts}
use Rattle.track.proofs.lists.all_differ.Goals as goal

pub loop-i-init : goal.loop-i-init
loop-i-init c = search aparts

pub returns-then-has : goal.returns-then-has
returns-then-has c = search aparts

pub loop-i-preserved : goal.loop-i-preserved
loop-i-preserved c = search aparts

pub returns : goal.returns
returns c = search aparts
