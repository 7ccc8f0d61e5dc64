-- How the code makes a line with a panel, and what is left of the lent buffer when a piece was read.
use Rattle.std.specs.Prelude.{ℕ, List, [], ◌∷◌, ◌++◌, take, drop}
use Rattle.event_file.specs.Lines.{space, line_end, stroke, three_numbers, spaced}

-- a line with the first k bytes of a panel image
unfoldable pub image_line : ℕ → List ℕ → ℕ → ℕ → ℕ → List ℕ
image_line k image n a d = three_numbers n a d ++ ((space ∷ stroke ∷ []) ++ spaced k image) ++ (line_end ∷ [])

-- the bytes of a buffer from one place to another
unfoldable pub rest : ℕ → ℕ → List ℕ → List ℕ
rest from till bytes = drop from (take till bytes)
