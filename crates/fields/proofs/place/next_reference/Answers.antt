-- The next number, with fault 24.
use Rattle.fields.specs.Fields.{reference}
use Rattle.fields.proofs.place.next_reference.Goals as goal

pub returns : goal.returns
unfolding reference
returns c = λ k h. rw c.wide.ensures at c.next.ensures k h
