-- The bytes of the header are a word.
use borrow.Author.Rules.{rules}
use Rattle.numerals.specs.Words.{ascii}
use Rattle.numerals.proofs.Numerals.{put_fitting}
use Rattle.event_file.specs.List.{header}
use Rattle.event_file.proofs.frame.put_header.Goals as goal

pub returns : goal.returns
unfolding header ascii
returns c = search (rules, put_fitting)
