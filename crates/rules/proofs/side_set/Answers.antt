-- A turn for each point, which adds it where it lies that way.
use borrow.Author.Rules.{rules}
use Rattle.laws.proofs.Chains.{turns_taken}
use Rattle.laws.proofs.Choice.{if_eq, if_ne}
use Rattle.rules.specs.Sets.{side_with, side_set}
use Rattle.rules.proofs.side_set.Goals as goal

pub returns : goal.returns
unfolding side_set side_with
returns c = turns_taken c.fold.ensures.ran (λ a x d q k. search (rules, if_eq, if_ne))
