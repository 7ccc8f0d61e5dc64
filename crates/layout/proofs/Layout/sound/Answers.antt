-- In range, listed both ways, no rule broken.
use borrow.Author.Rules.{rules}
use Rattle.layout.specs.Sound.{sound}
use Rattle.layout.proofs.Laws.{sounds, fits_routes}
use Rattle.layout.proofs.Layout.sound.Goals as goal

pub returns-then-not-in_range : goal.returns-then-not-in_range
returns-then-not-in_range c = search sounds

pub mirrored-requires : goal.mirrored-requires
mirrored-requires c = search (rules, fits_routes)

pub returns-then-not-mirrored : goal.returns-then-not-mirrored
returns-then-not-mirrored c = search sounds

pub first_broken-requires : goal.first_broken-requires
first_broken-requires c = search (rules, fits_routes)

pub returns : goal.returns
unfolding sound
returns c = search sounds
