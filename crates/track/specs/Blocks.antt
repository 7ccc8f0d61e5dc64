-- The blocks of a line, counted from end A (section 2), and which sections they have.
use Rattle.std.specs.Prelude.{ℕ, Bool, eqb, get_or}
use Rattle.sets.specs.Sets.{set_of}
use Rattle.track.specs.declared.Line.{Line}
use Rattle.track.specs.Lists.{all_differ}

-- today a block has one section. The words below say what is asked of a block by it; no other definition asks it
abbrev pub only_section : Line → ℕ → ℕ
only_section b i = get_or b.block i 0

-- section g belongs to block i
unfoldable pub in_block : Line → ℕ → ℕ → Bool
in_block b i g = eqb (only_section b i) g

-- no section stands twice in the blocks of a line
unfoldable pub blocks_differ : Line → Bool
blocks_differ b = all_differ b.blocks b.block

-- the section of block i that faces end e: a neighbour on that side meets it
unfoldable pub facing : Line → ℕ → ℕ → ℕ
facing b i e = only_section b i

-- the section that stands for block i in a refusal's detail: its lowest
unfoldable pub block_detail : Line → ℕ → ℕ
block_detail b i = only_section b i

-- what block i reads, where f says what each section reads
abbrev pub joint_reading : (ℕ → ℕ) → Line → ℕ → ℕ
joint_reading f b i = f (only_section b i)

-- the sections of all blocks of a line, as a set
unfoldable pub line_sections : Line → ℕ
line_sections b = set_of b.blocks b.block
