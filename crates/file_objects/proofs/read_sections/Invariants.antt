-- So many turns are done.
use Rattle.laws.proofs.Loops.{Turned}
use Rattle.file_objects.specs.Sections.{section_turn}
use Rattle.file_objects.proofs.read_sections.Given as goal

abbrev pub invariant-loop-i : goal.invariant-loop-i
invariant-loop-i l = Turned l.i-end (section_turn l.s l.objects) l.initial.t l.t l.i
