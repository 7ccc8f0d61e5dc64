-- By the table of what the rule asks of each.
use Rattle.layout.proofs.pairs_of_routes.rule_6.Goals as goal

pub returns : goal.returns
returns c = simp (c.rows_keep.ensures, c.reach_table-t.ensures)
