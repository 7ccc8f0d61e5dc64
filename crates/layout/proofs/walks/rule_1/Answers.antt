-- The closures are the tests of one line and of one route, by the sets of blocks and of inner sections.
use mathlib.Core.Path.{ap, ap₂}
use mathlib.Core.Bool.{not, ◌&&◌}
use borrow.Author.Rules.{rules}
use Rattle.laws.specs.Tests.{every}
use Rattle.laws.proofs.Chains.{all_asked}
use Rattle.rules.proofs.Sets.{inner_is}
use Rattle.layout.specs.Layout.{route_in}
use Rattle.layout.specs.Rules.{rule1}
use Rattle.layout.proofs.Tested.{path_off}
use Rattle.layout.proofs.walks.rule_1.Goals as goal

pub returns : goal.returns
unfolding rule1 every route_in
returns c =
    ap₂ ◌&&◌ (all_asked c.all-once.ensures.ran (λ x b q k. search rules))
    (ap₂ ◌&&◌ (all_asked c.all-paths.ensures.ran (λ x b q k. search (rules, path_off)))
    (rw (c.share-both.ensures, c.block_set-blocks.ensures, c.inner_set-inner.ensures) (ap not (inner_is _ _))))
