-- A piece of the file of fitted sections, and the answer to such a file, by their numbers (L1).
use Rattle.std.specs.Prelude.{ℕ}
use Rattle.layout.specs.declared.Layout.{Layout}
use Rattle.fitted.specs.declared.Told.{Told}

-- how far a piece was read: what was told until then, the place of the next number, and why it ended: 2 the next number lies past the piece's end; 3 the
-- file's end; 21, 22 a fault, at its place
pub record Piece : Type 0 where
  pub told : Told
  pub at : ℕ
  pub stop : ℕ

-- the answer to a file: 0, 0 and the layout with its sections; or a fault's number with its place, and the layout as it was
pub record Fitting : Type 0 where
  pub number : ℕ
  pub detail : ℕ
  pub layout : Layout
