-- How a section comes to read free, whatever it read: one reading, or, where it has heads, an axle that passes after a reset (L1).
use Rattle.std.specs.Prelude.{ℕ, ◌+◌, ◌*◌, List, [], ◌∷◌, eqb}
use Rattle.laws.specs.Choice.{when◌then◌else◌}
use Rattle.laws.specs.Totals.{total, count}
use Rattle.track.specs.Codes.{free, read_section, axles_in, axles_out, reset_axles}
use Rattle.track.specs.Blocks.{only_section}
use Rattle.layout.specs.declared.Layout.{Layout}
use Rattle.layout.specs.Layout.{is_fitted, line_in}
use Rattle.axles.specs.Since.{rolled}
use Rattle.step_facts.specs.Run.{Event, event}

-- ---- what the counts stand at

-- L1: axles in and out past head 0 of a section, and in and out past head 1. A head counts since its own start, not since the box's: any whole numbers
pub record FourCounts : Type 0 where
  pub in0 : ℕ
  pub out0 : ℕ
  pub in1 : ℕ
  pub out1 : ℕ

-- those of every section when the way begins; of one without heads they are not asked
abbrev pub CountsOf : Type 0
CountsOf = ℕ → FourCounts

-- ---- the events

-- L1: both counts of both heads come, so that neither is silent; the section is reset, and reads none; an axle comes in past one head, and it reads occupied,
-- which proves the reset; the axle goes out past the other head, and it reads free
unfoldable pub axle_passes : ℕ → FourCounts → List Event
axle_passes g c =
    event axles_in (2 * g) (rolled c.in0)
    ∷ event axles_out (2 * g) (rolled c.out0)
    ∷ event axles_in (2 * g + 1) (rolled c.in1)
    ∷ event axles_out (2 * g + 1) (rolled c.out1)
    ∷ event reset_axles g 0
    ∷ event axles_in (2 * g) (rolled (c.in0 + 1))
    ∷ event axles_out (2 * g + 1) (rolled (c.out1 + 1))
    ∷ []

-- section g comes to read free: by those seven events where it has heads, by one reading where it has none
unfoldable pub freeing : Layout → CountsOf → ℕ → List Event
freeing L cs g = when is_fitted L g then axle_passes g (cs g) else (event read_section g free ∷ [])

-- the counts of a section then: an axle more in past head 0 and out past head 1
unfoldable pub one_further : FourCounts → FourCounts
one_further c = record { in0 = c.in0 + 1; out0 = c.out0; in1 = c.in1; out1 = c.out1 + 1 }

-- those of every section once section g has come to read free
unfoldable pub counts_since : CountsOf → ℕ → CountsOf
counts_since cs g h = when eqb h g then one_further (cs h) else cs h

-- ---- how many of the sections that are freed have heads: for each the way is six events longer

-- of the sections g 0, .., g (n - 1)
unfoldable pub fitted_among : Layout → ℕ → (ℕ → ℕ) → ℕ
fitted_among L n g = count n (λ i. is_fitted L (g i))

-- of the blocks of the first n lines
unfoldable pub fitted_blocks : Layout → ℕ → ℕ
fitted_blocks L n = total n (λ l. fitted_among L (line_in L l).blocks (only_section (line_in L l)))
