-- The next number, one object more, with fault 24.
use Rattle.fields.specs.Fields.{reference, none_or_reference}
use Rattle.fields.proofs.place.next_none_or_reference.Goals as goal

pub returns : goal.returns
unfolding reference none_or_reference
returns c = λ k h. rw c.wide.ensures at c.next.ensures k h
