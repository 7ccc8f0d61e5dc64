-- The layout file, as far as it could be read, and the answer to it (section 2).
use Rattle.std.specs.Prelude.{ℕ, List}
use Rattle.fields.specs.declared.Cursor.{Cursor}
use Rattle.layout.specs.declared.Layout.{Layout}

-- what the file begins with: version, sections, points, signals
pub record Heading : Type 0 where
  pub cur : Cursor
  pub version : ℕ
  pub sections : ℕ
  pub points : ℕ
  pub pointsection : List ℕ
  pub signals : ℕ

-- the whole file
pub record Whole : Type 0 where
  pub cur : Cursor
  pub layout : Layout

-- the answer to a layout file: 0, 0 and the layout; or a fault's number with its detail, and the layout with no objects
pub record Loaded : Type 0 where
  pub number : ℕ
  pub detail : ℕ
  pub layout : Layout
