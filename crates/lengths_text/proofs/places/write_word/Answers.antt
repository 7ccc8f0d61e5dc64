-- There is room, so it is the word that is written.
use borrow.Author.Rules.{rules}
use Rattle.numerals.proofs.Numerals.{put_fitting}
use Rattle.lengths_text.proofs.places.write_word.Goals as goal

pub returns : goal.returns
returns c = search (rules, put_fitting)
