-- A file as text and back.
use Rattle.std.specs.Prelude.{ℕ, ◌≡◌, List}
use Rattle.number_text.specs.Text.{stops_at, packed_text}
use Rattle.number_text.specs.Lines.{unpacked, ended}

-- the text of a file's numbers, so many in a line, stands for the file's bytes, and nothing in it is refused
pub record Restored (most per : ℕ) (bytes : List ℕ) : Type 0 where
  pub same : packed_text (ended (unpacked most per bytes 0 0)) ≡ bytes
  pub taken : (stops_at (ended (unpacked most per bytes 0 0))).doing ≡ 0
