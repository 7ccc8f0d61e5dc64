-- The signals of a layout (sections 2 and 4).
use Rattle.std.specs.Prelude.{ℕ, ◌+◌, ◌<◌, ◌≡◌, ◌⊎◌, Bool, true, List, eqb, ltb}
use Rattle.laws.specs.Choice.{when◌then◌else◌}
use Rattle.track.specs.declared.Line.{Line}
use Rattle.track.specs.Codes.{a_to_b, b_to_a}
use Rattle.track.specs.Objects.{line}

-- a main signal by its number, or the block signal into block i of line l for direction w
pub data Signal : Type 0 where
  main : ℕ → Signal
  into : ℕ → ℕ → ℕ → Signal

-- section 4: of n blocks each but the first has a signal for A to B, each but the last one for B to A
unfoldable pub has_signal : ℕ → ℕ → ℕ → Bool
has_signal n i w = when eqb w a_to_b then ltb 0 i else ltb (i + 1) n

-- section 4: which signals stand, where there are m main signals and n lines: the main signals, and between the blocks of the lines one each way
abbrev pub Stands : ℕ → ℕ → List Line → Signal → Type 0
Stands m n ls (main x) = x < m
Stands m n ls (into l i w) = (l < n) × (i < (line ls l).blocks) × ((w ≡ a_to_b) ⊎ (w ≡ b_to_a)) × (has_signal (line ls l).blocks i w ≡ true)
