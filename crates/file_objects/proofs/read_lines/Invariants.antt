-- So many turns are done.
use Rattle.laws.proofs.Loops.{Turned}
use Rattle.file_objects.specs.Lines.{line_turn}
use Rattle.file_objects.proofs.read_lines.Given as goal

abbrev pub invariant-loop-i : goal.invariant-loop-i
invariant-loop-i l = Turned l.i-end (line_turn l.s l.n) l.initial.t l.t l.i
