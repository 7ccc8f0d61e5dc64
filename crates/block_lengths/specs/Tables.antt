-- What the code asks of a table. This follows the code: it takes the lower of two lengths from the upper, as whole numbers that are not negative.
use Rattle.std.specs.Prelude.{ℕ, ◌+◌, ◌<◌, ◌≤◌, List}
use Rattle.block_lengths.specs.Paper.{entry}

-- in every column each length is at most the next headway's
unfoldable pub Rises : List (List ℕ) → Type 0
Rises t = (row column : ℕ) → row < 8 → column < 6 → entry t row column ≤ entry t (row + 1) column
