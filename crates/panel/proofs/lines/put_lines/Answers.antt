-- Each is written after those before it.
use borrow.Author.Rules.{rules}
use mathlib.Core.Path.{refl}
use native.Mathlib.Omega.{arith}
use Rattle.panel.proofs.Writes.{writes, wrote_length, join_on}
use Rattle.panel.proofs.Blocks.{blocks_none, line_room, lines_next, line_at}
use Rattle.panel.proofs.lines.put_lines.Goals as goal

pub loop-l-init : goal.loop-l-init
loop-l-init c = (omega arith, omega (arith, blocks_none c.args.ls.now), refl, search writes)

pub put_line-next-requires : goal.put_line-next-requires
put_line-next-requires c = line_room _ _ _ _ _ _ _ _ c.line_at.ensures c.loop-l-test.true c.loop-l.invariant.1 c.loop-l.invariant.2 c.requires

pub loop-l-preserved : goal.loop-l-preserved
loop-l-preserved c =
    let same = c.line_at.ensures in
    let wrote = c.put_line-next.ensures in (
      omega arith,
      lines_next _ _ _ _ _ _ _ _ _ _ _ _ same c.loop-l.invariant.1 wrote,
      search (rules, wrote_length),
      join_on _ _ _ _ _ _ _ _ c.loop-l.invariant.3 (line_at _ _ _ _ _ _ _ _ _ _ _ same wrote),
    )

pub returns : goal.returns
returns c = search writes
