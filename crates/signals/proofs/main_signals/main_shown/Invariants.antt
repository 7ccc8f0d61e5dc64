-- Each signal shows what the routes from r on say.
use Rattle.signals.proofs.MainSignals.{Lit}
use Rattle.signals.proofs.main_signals.main_shown.Given as goal

abbrev pub invariant-loop-r : goal.invariant-loop-r
invariant-loop-r l = Lit l.n l.rs l.phases l.shown l.r
