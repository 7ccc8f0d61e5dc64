-- Signals by their numbers (L2): main signals first, then block signals line by line, A to B before B to A, each in order of blocks from end A.
-- There are m main signals and n lines.
use Rattle.std.specs.Prelude.{ℕ, zero, suc, ◌+◌, ◌-◌, ◌*◌, ◌<◌, ◌≡◌, List, [], ◌++◌, eqb, length, get_or}
use Rattle.laws.specs.Choice.{when◌then◌else◌}
use Rattle.laws.specs.Tables.{table}
use Rattle.track.specs.declared.Line.{Line}
use Rattle.track.specs.Codes.{a_to_b, b_to_a}
use Rattle.track.specs.Objects.{line}
use Rattle.track.specs.Signal.{Signal, main, into}

-- the block signals of line l: A to B into blocks 1, 2, .., then B to A into blocks 0, 1, ..
unfoldable pub line_signals : List Line → ℕ → List Signal
line_signals ls l = table ((line ls l).blocks - 1) (λ k. into l (k + 1) a_to_b) ++ table ((line ls l).blocks - 1) (λ k. into l k b_to_a)

-- the block signals of the first n lines
unfoldable pub block_signals : ℕ → List Line → List Signal
block_signals zero ls = []
block_signals (suc n) ls = block_signals n ls ++ line_signals ls n

-- all signals, in the order of their numbers
unfoldable pub all_signals : ℕ → ℕ → List Line → List Signal
all_signals m n ls = table m main ++ block_signals n ls

-- how many signals there are
unfoldable pub signal_count : ℕ → ℕ → List Line → ℕ
signal_count m n ls = length (all_signals m n ls)

-- the signal of number k; where no signal has it, a main signal that does not stand
unfoldable pub signal_of : ℕ → ℕ → List Line → ℕ → Signal
signal_of m n ls k = get_or (all_signals m n ls) k (main k)

-- the number of a signal: of a block signal after the main signals, the lines before its own, and on its line those that come before it
unfoldable pub number_of : ℕ → List Line → Signal → ℕ
number_of m ls (main x) = x
number_of m ls (into l i w) = m + length (block_signals l ls) + (when eqb w a_to_b then i - 1 else (line ls l).blocks - 1 + i)

-- signal x has exactly one number
pub record OneNumber (m n : ℕ) (ls : List Line) (x : Signal) : Type 0 where
  pub below : number_of m ls x < signal_count m n ls
  pub named : signal_of m n ls (number_of m ls x) ≡ x
  pub only : (k : ℕ) → k < signal_count m n ls → signal_of m n ls k ≡ x → k ≡ number_of m ls x

-- ---- as the code counts them

-- the block signals of a line: one each way between each two blocks
unfoldable pub between_blocks : Line → ℕ
between_blocks b = 2 * (b.blocks - 1)
