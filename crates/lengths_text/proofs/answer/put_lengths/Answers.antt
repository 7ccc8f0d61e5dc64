-- The headway, the speed, and each length with its table, one behind the other.
use lib.Dec.{lit≤}
use Rattle.numerals.specs.Words.{ascii}
use Rattle.numerals.proofs.Writes.{put_then, put_within}
use Rattle.lengths_text.specs.Answer.{lengths_text, most_answer}
use Rattle.lengths_text.proofs.answer.put_lengths.Goals as goal

pub returns : goal.returns
unfolding ascii lengths_text
returns c =
    put_within most_answer (lit≤ tt)
    (put_then (put_then (put_then (put_then c.put_named-speed.ensures c.put_named-rest.ensures) c.write_word-plain.ensures) c.put_length-stopping.ensures) c.put_length.ensures)
