-- One of the four kinds of heads, or of no kind that has a row.
use mathlib.Core.Path.{ap, sym, ◌∙◌}
use Rattle.interlocking.specs.Parts.{tried}
use Rattle.interlocking.proofs.Rows.{row_with_law, row_of_heads, row_none, kinds_of_heads, no_kind}
use Rattle.interlocking.proofs.Core.of_heads_or_unknown.Goals as goal

-- one of heads
pub returns-then-is_of_heads : goal.returns-then-is_of_heads
returns-then-is_of_heads c = let of = sym c.is_of_heads.ensures ∙ c.if-is_of_heads.true in c.of_heads.ensures ∙ ap (tried _ _ _) (row_of_heads (row_with_law _ _ _ _ _ _ _) (kinds_of_heads _ of))

-- none of them
pub returns : goal.returns
returns c = row_none _ _ _ _ _ _ _ _ _ _ (no_kind _ c.requires.1 (sym c.is_of_heads.ensures ∙ c.if-is_of_heads.false)) c.unknown.ensures
