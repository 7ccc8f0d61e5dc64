-- No room, or the line with the word.
use mathlib.Core.Path.{sym, subst}
use native.Mathlib.Omega.{arith}
use lib.ListN.{length}
use Rattle.numerals.specs.Words.{ascii}
use Rattle.numerals.specs.Writes.{Put}
use Rattle.numerals.proofs.Numerals.{put_room}
use Rattle.event_file.specs.Files.{word_of}
use Rattle.event_file.specs.List.{layout_word, fitted_word, events_word, fault_line, most_fault, fault_in}
use Rattle.event_file.proofs.Framing.{faults}
use Rattle.event_file.proofs.frame.fault_line.Goals as goal

pub returns-then-out-lt49 : goal.returns-then-out-lt49
returns-then-out-lt49 c = search faults

pub returns-in-Layout : goal.returns-in-Layout
unfolding layout_word ascii
returns-in-Layout c =
    subst (λ k. Put c.args.out.now 0 (fault_in (length c.args.out.now) (word_of k) c.args.number c.args.detail) most_fault c.put_fault.new.out c.put_fault.result) (sym c.in-Layout.is)
    (put_room _ 0 most_fault (fault_line layout_word c.args.number c.args.detail) _ _ (omega arith) c.put_fault.ensures)

pub returns-in-Fitted : goal.returns-in-Fitted
unfolding fitted_word ascii
returns-in-Fitted c =
    subst (λ k. Put c.args.out.now 0 (fault_in (length c.args.out.now) (word_of k) c.args.number c.args.detail) most_fault c.put_fault-in-Fitted.new.out c.put_fault-in-Fitted.result) (sym c.in-Fitted.is)
    (put_room _ 0 most_fault (fault_line fitted_word c.args.number c.args.detail) _ _ (omega arith) c.put_fault-in-Fitted.ensures)

pub returns-in-Events : goal.returns-in-Events
unfolding events_word ascii
returns-in-Events c =
    subst (λ k. Put c.args.out.now 0 (fault_in (length c.args.out.now) (word_of k) c.args.number c.args.detail) most_fault c.put_fault-in-Events.new.out c.put_fault-in-Events.result) (sym c.in-Events.is)
    (put_room _ 0 most_fault (fault_line events_word c.args.number c.args.detail) _ _ (omega arith) c.put_fault-in-Events.ensures)
