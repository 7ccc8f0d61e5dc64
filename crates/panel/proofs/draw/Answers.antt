-- Each part is written after the one before it, and each has room as the whole has.
use borrow.Author.Rules.{rules}
use native.Mathlib.Omega.{arith}
use Rattle.panel.specs.Panel.{panel_length}
use Rattle.panel.specs.Writes.{distant_by}
use Rattle.layout.specs.Layout.{carrier_of, announced_by}
use Rattle.panel.proofs.Writes.{wrote_length}
use Rattle.panel.proofs.Laws.{table_next, readings_made, objects_made, image_made}
use Rattle.panel.proofs.draw.Goals as goal

pub copy-points-requires : goal.copy-points-requires
unfolding panel_length
copy-points-requires c = (search (rules, c.requires.0.sections), omega (arith, c.requires.1))

pub copy-signals-requires : goal.copy-signals-requires
unfolding panel_length
copy-signals-requires c = (search (rules, c.requires.0.points), omega (arith, c.requires.1, table_next _ _ c.copy-points.ensures, wrote_length c.copy-points.ensures))

pub copy-routes-requires : goal.copy-routes-requires
unfolding panel_length
copy-routes-requires c = (search (rules, c.requires.0.signals), omega (arith, c.requires.1, table_next _ _ c.copy-points.ensures, wrote_length c.copy-points.ensures, table_next _ _ c.copy-signals.ensures, wrote_length c.copy-signals.ensures))

pub put_routes-distants-requires : goal.put_routes-distants-requires
unfolding panel_length
put_routes-distants-requires c = (c.requires.0.routes, omega (arith, c.requires.1, table_next _ _ c.copy-points.ensures, wrote_length c.copy-points.ensures, table_next _ _ c.copy-signals.ensures, wrote_length c.copy-signals.ensures, table_next _ _ c.copy-routes.ensures, wrote_length c.copy-routes.ensures))

pub put_distants-lines-requires : goal.put_distants-lines-requires
unfolding panel_length
put_distants-lines-requires c = (c.requires.0.distants, omega (arith, c.requires.1, table_next _ _ c.copy-points.ensures, wrote_length c.copy-points.ensures, table_next _ _ c.copy-signals.ensures, wrote_length c.copy-signals.ensures, table_next _ _ c.copy-routes.ensures, wrote_length c.copy-routes.ensures, table_next _ _ c.put_routes-distants.ensures, wrote_length c.put_routes-distants.ensures))

pub copy-blocks-requires : goal.copy-blocks-requires
unfolding panel_length
copy-blocks-requires c = (search (rules, c.requires.0.lines), omega (arith, c.requires.1, table_next _ _ c.copy-points.ensures, wrote_length c.copy-points.ensures, table_next _ _ c.copy-signals.ensures, wrote_length c.copy-signals.ensures, table_next _ _ c.copy-routes.ensures, wrote_length c.copy-routes.ensures, table_next _ _ c.put_routes-distants.ensures, wrote_length c.put_routes-distants.ensures, table_next _ _ c.put_distants-lines.ensures, wrote_length c.put_distants-lines.ensures))

pub put_lines-requires : goal.put_lines-requires
unfolding panel_length
put_lines-requires c = omega (arith, c.requires.1, table_next _ _ c.copy-points.ensures, wrote_length c.copy-points.ensures, table_next _ _ c.copy-signals.ensures, wrote_length c.copy-signals.ensures, table_next _ _ c.copy-routes.ensures, wrote_length c.copy-routes.ensures, table_next _ _ c.put_routes-distants.ensures, wrote_length c.put_routes-distants.ensures, table_next _ _ c.put_distants-lines.ensures, wrote_length c.put_distants-lines.ensures, table_next _ _ c.copy-blocks.ensures, wrote_length c.copy-blocks.ensures)

pub returns : goal.returns
unfolding distant_by carrier_of announced_by
returns c =
    let w = c.requires.0 in
    image_made _ _ _ _ _ _ _ _ _ (readings_made _ _ w _ _ _ _ _ c.copy-points.ensures c.copy-signals.ensures)
    (objects_made _ _ w _ _ _ _ _ _ _ _ _ _ _ c.main_shown-mains.ensures c.copy-routes.ensures c.put_routes-distants.ensures c.put_distants-lines.ensures c.copy-blocks.ensures)
    c.put_lines.ensures
