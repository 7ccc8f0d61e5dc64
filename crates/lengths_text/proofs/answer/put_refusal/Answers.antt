-- 28 or 29, in words.
use mathlib.Core.Path.{sym, subst}
use Rattle.numerals.specs.Words.{ascii}
use Rattle.numerals.specs.Writes.{Put}
use Rattle.block_lengths.specs.Told.{refusal_number}
use Rattle.lengths_text.specs.Answer.{refusal_text, most_answer}
use Rattle.lengths_text.proofs.Texts.{headway_told, speed_told}
use Rattle.lengths_text.proofs.answer.put_refusal.Goals as goal

pub returns-in-BadHeadway : goal.returns-in-BadHeadway
unfolding ascii
returns-in-BadHeadway c =
    subst (λ r. Put c.args.out.now 0 (refusal_text (refusal_number r)) most_answer c.write_word.new.out c.write_word.result) (sym c.in-BadHeadway.is)
    (headway_told _ _ _ c.write_word.ensures)

pub returns-in-BadSpeed : goal.returns-in-BadSpeed
unfolding ascii
returns-in-BadSpeed c =
    subst (λ r. Put c.args.out.now 0 (refusal_text (refusal_number r)) most_answer c.write_word-in-BadSpeed.new.out c.write_word-in-BadSpeed.result) (sym c.in-BadSpeed.is)
    (speed_told _ _ _ c.write_word-in-BadSpeed.ensures)
