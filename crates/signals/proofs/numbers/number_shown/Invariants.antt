-- The number is so many past the signals of the lines before l.
use Rattle.signals.proofs.ByNumber.{Past}
use Rattle.signals.proofs.numbers.number_shown.Given as goal

abbrev pub invariant-loop-l : goal.invariant-loop-l
invariant-loop-l l =
    Past l.s.mains l.s.lines l.s.line.now l.s.main.now l.s.tables.direction.now l.s.tables.point.now l.s.tables.stage.now l.s.tables.bar.now l.k l.left l.l
