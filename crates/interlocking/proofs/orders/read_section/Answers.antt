-- A store, and the stages made anew over the tables that are lent.
use Rattle.std.proofs.Common.{ap, ◌∙◌}
use Rattle.line_block.specs.Entries.{few_lines}
use Rattle.line_block.specs.OwnReadings.{own_stages}
use Rattle.interlocking.proofs.Laws.{section_made}
use Rattle.interlocking.specs.Parts.{core_of}
use Rattle.interlocking.specs.State.{with_sections}
use Rattle.interlocking.proofs.orders.read_section.Goals as goal

-- the answer
pub returns : goal.returns
unfolding with_sections core_of
returns c =
    let l = c.args.a.now in
    section_made _ _ _ _ _ _ _ _ _ c.requires c.store.ensures
    (c.own_stages-stage.ensures
    ∙ ap (λ t. own_stages (few_lines l.lines) l.signals l.line t.direction t.lamp (record { section = c.args.g; reading = c.args.v; tick = 0 }) t.stage) c.tables_of.ensures)
