-- It stays where the line has no such block or is neutral; else what lies beyond it decides.
use borrow.Author.Rules.{rules}
use Rattle.line_block.proofs.PassingBackLaws.{waited_out, waited_opens, waited_stays}
use Rattle.line_block.proofs.passing_back.waited_stage.Goals as goal

pub returns-then-b-i : goal.returns-then-b-i
returns-then-b-i c f g = waited_out _ _ _ _ _ _ _ c.if-b-i.true

pub returns-then-opens_beyond : goal.returns-then-opens_beyond
returns-then-opens_beyond c f g = search (rules, waited_opens, c.opens_beyond.ensures f g)

pub returns : goal.returns
returns c f g = search (rules, waited_stays, c.opens_beyond.ensures f g)
