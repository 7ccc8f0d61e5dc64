-- The far section and the far signal of a block (section 5) in a state.
use Rattle.std.specs.Prelude.{ℕ, Bool}
use Rattle.tables.specs.Readings.{reading}
use Rattle.passage.specs.Passage.{far_section, far_signal}
use Rattle.line_block.specs.FarSections.{drops}
use Rattle.layout.specs.declared.Layout.{Layout}
use Rattle.layout.specs.Layout.{line_in}
use Rattle.interlocking.specs.declared.State.{State}
use Rattle.interlocking.specs.Settle.{proceeds_in}

-- what the far section of block i of line l in direction w reads
abbrev pub far_reading : Layout → State → ℕ → ℕ → ℕ → ℕ
far_reading L s l i w = reading s.section (far_section (line_in L l) i w)

-- its far signal shows proceed
abbrev pub far_proceeds : Layout → State → ℕ → ℕ → ℕ → Bool
far_proceeds L s l i w = proceeds_in L s (far_signal (line_in L l) l i w)

-- it goes from proceed, in the state before, to stop
abbrev pub far_dropped : Layout → State → State → ℕ → ℕ → ℕ → Bool
far_dropped L before s l i w = drops (proceeds_in L before) (proceeds_in L s) (far_signal (line_in L l) l i w)
