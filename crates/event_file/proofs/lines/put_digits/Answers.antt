-- There is room, so it is the digits that are written.
use borrow.Author.Rules.{rules}
use Rattle.numerals.proofs.Numerals.{put_fitting}
use Rattle.event_file.proofs.lines.put_digits.Goals as goal

pub returns : goal.returns
returns c = search (rules, put_fitting)
