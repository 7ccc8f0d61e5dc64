-- The next number, with fault 23.
use Rattle.fields.specs.Fields.{code}
use Rattle.fields.proofs.place.next_code.Goals as goal

pub returns : goal.returns
unfolding code
returns c = λ k h. rw (c.wide.ensures, c.wide-2.ensures) at c.next.ensures k h
