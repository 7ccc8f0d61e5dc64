-- What follows the walk completes the tables.
use borrow.Author.Rules.{rules}
use Rattle.laws.proofs.Arrays.{length_mapped}
use Rattle.interlocking.proofs.Settled.{completed_made}
use Rattle.interlocking.proofs.answering.followed.Goals as goal

pub returns : goal.returns
returns c =
    rw c.directions_after-direction.ensures
    (completed_made _ _ _ _ _ _ _ _ _ _ _ c.tables_of-old.ensures c.tables_of.ensures c.walk_routes-w.ensures c.requires.0 c.requires.1 (search (rules, length_mapped, c.well_formed)) c.far_stages-far.ensures
    c.stages_after_arrivals-stage.ensures)
