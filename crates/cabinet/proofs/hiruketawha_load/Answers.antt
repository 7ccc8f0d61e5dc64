-- The answer's number and detail are told, and what it leaves stands in both records.
use Rattle.std.proofs.Common.{refl, ◌∙◌}
use Rattle.cabinet.specs.Calls.{after_call, tells, of_load}
use Rattle.cabinet.specs.Cabinet.{load_reply}
use Rattle.cabinet.proofs.Laws.{load_same, number_same, detail_same}
use Rattle.cabinet.proofs.hiruketawha_load.Goals as goal

pub returns : goal.returns
unfolding load_reply tells of_load after_call
returns c =
    let a = c.answer_file.ensures in
    rw (← c.load-file.ensures) (rw (← number_same c.args.layout.now c.args.state.now c.load-file.result, ← detail_same c.args.layout.now c.args.state.now c.load-file.result, ← a.0, ← a.1) refl, a.2 ∙ load_same _ _ _)
