-- A group, then those after it, of which there is one less.
use Rattle.number_text.proofs.Writes.{groups}
use Rattle.number_text.proofs.pack.+put_groups.Goals as goal

pub returns-then-left-eq0 : goal.returns-then-left-eq0
returns-then-left-eq0 t c = search groups

pub returns-then-n-lt128 : goal.returns-then-n-lt128
returns-then-n-lt128 t c = search groups

pub returns : goal.returns
returns t c = search groups
