-- A digit more at each turn.
use Rattle.laws.proofs.Loops.{iters}
use Rattle.number_text.specs.Word.{number_of}
use Rattle.number_text.proofs.Words.{digit_least}
use Rattle.number_text.proofs.word.number_of.Goals as goal

pub loop-byte-init : goal.loop-byte-init
loop-byte-init c = search iters

pub next_value-value-requires : goal.next_value-value-requires
next_value-value-requires c = search (iters, digit_least)

pub loop-byte-preserved : goal.loop-byte-preserved
loop-byte-preserved c = search iters

pub returns : goal.returns
unfolding number_of
returns c = search iters
