-- No room, or the two tables with what stands before, between and behind them.
use native.Mathlib.Omega.{arith}
use borrow.Author.Rules.{rules}
use lib.Dec.{lit≤}
use Rattle.numerals.specs.Words.{ascii}
use Rattle.numerals.proofs.Writes.{put_then, put_within}
use Rattle.numerals.proofs.Numerals.{put_room}
use Rattle.lengths_text.specs.Sheet.{sheet, most_sheet}
use Rattle.lengths_text.proofs.Texts.{sheet_none}
use Rattle.lengths_text.proofs.sheet.put_sheet.Goals as goal

pub returns-then-out-lt2048 : goal.returns-then-out-lt2048
returns-then-out-lt2048 c = search (rules, sheet_none)

pub returns : goal.returns
unfolding ascii sheet
returns c =
    put_room _ 0 most_sheet sheet _ _ (omega arith)
    (put_within most_sheet (lit≤ tt)
    (put_then (put_then (put_then (put_then c.write_word-plain.ensures c.put_table-between.ensures) c.write_word-stopping.ensures) c.put_table-notes.ensures) c.write_word.ensures))
