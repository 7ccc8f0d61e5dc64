-- What any signal shows, main or block signal (section 4), and what the signal of a number shows (L2).
use Rattle.std.specs.Prelude.{ℕ, ◌+◌, ◌-◌, List, eqb, ltb}
use Rattle.laws.specs.Choice.{when◌then◌else◌}
use Rattle.laws.specs.Tests.{◌or◌}
use Rattle.laws.specs.Tables.{read}
use Rattle.track.specs.declared.Line.{Line}
use Rattle.track.specs.declared.Route.{Route}
use Rattle.track.specs.Codes.{a_to_b, b_to_a}
use Rattle.track.specs.Sizes.{most_signals}
use Rattle.track.specs.Signal.{Signal, main, into}
use Rattle.track.specs.SignalNumbers.{signal_count, signal_of}
use Rattle.tables.specs.Readings.{line_placed}
use Rattle.tables.specs.Locks.{direction}
use Rattle.signals.specs.Aspects.{dark}
use Rattle.signals.specs.MainSignals.{main_shows}
use Rattle.signals.specs.BlockSignals.{block_shows, block_shown_where}

-- section 4: what a signal shows, where mains says it of each main signal; block signals are one each way
unfoldable pub shows_with : (ℕ → ℕ) → List Line → List ℕ → List ℕ → List ℕ → List ℕ → Signal → ℕ
shows_with mains ls directions points stages bars (main x) = mains x
shows_with mains ls directions points stages bars (into l i w) =
    when eqb w a_to_b or eqb w b_to_a then block_shows ls directions points stages bars l i w else dark

-- section 4: what a signal shows
unfoldable pub shows : ℕ → List Route → List ℕ → List Line → List ℕ → List ℕ → List ℕ → List ℕ → Signal → ℕ
shows n rs phases ls directions points stages bars = shows_with (main_shows n rs phases) ls directions points stages bars

-- L2: what the signal of number k shows, of m main signals and the block signals of n lines, where shown says it of each signal; dark where no signal
-- has that number
unfoldable pub number_shows : ℕ → ℕ → List Line → (Signal → ℕ) → ℕ → ℕ
number_shows m n ls shown k = when ltb k (signal_count m n ls) then shown (signal_of m n ls k) else dark

-- ---- as the code asks for it

-- the same by the table of what each main signal shows
unfoldable pub number_shown_by : ℕ → ℕ → List Line → List ℕ → List ℕ → List ℕ → List ℕ → List ℕ → ℕ → ℕ
number_shown_by m n ls mains directions points stages bars =
    number_shows m n ls (shows_with (λ x. read most_signals dark mains x) ls directions points stages bars)

-- what block signal j of line l shows, which is b: those for A to B, then those for B to A
unfoldable pub line_signal_shown : Line → List ℕ → List ℕ → List ℕ → List ℕ → ℕ → ℕ → ℕ
line_signal_shown b directions points stages bars l j =
    when ltb j (b.blocks - 1) then block_shown_where stages bars b.blocks (direction directions l) (line_placed points b) l (j + 1) a_to_b
    else block_shown_where stages bars b.blocks (direction directions l) (line_placed points b) l (j - (b.blocks - 1)) b_to_a
