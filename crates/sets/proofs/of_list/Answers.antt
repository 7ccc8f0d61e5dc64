-- A turn for each of the first n entries, which puts the entry into the set.
use borrow.Author.Rules.{rules}
use Rattle.laws.proofs.Chains.{turns_taken}
use Rattle.sets.specs.Sets.{add_entry, set_of}
use Rattle.sets.proofs.of_list.Goals as goal

pub returns : goal.returns
unfolding set_of add_entry
returns c = turns_taken c.fold.ensures.ran (λ a x d q k. search rules)
