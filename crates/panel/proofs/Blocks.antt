-- The bytes of blocks and lines: how many they are, and how the code makes them.
use Prim.Native.Nat.{ℕ, zero, suc, ◌+◌, ◌-◌, ◌*◌, ◌<◌, ◌≤◌}
use mathlib.Core.Path.{◌≡◌, refl, sym, ap, ap₂, ◌∙◌}
use mathlib.Core.Bool.{Bool}
use mathlib.Core.List.{List}
use native.Mathlib.Nat.{le_refl, add-zero, add-suc}
use native.Mathlib.Numerals.{add-one}
use native.Mathlib.Omega.{arith}
use lib.ListN.{length, set, length-append}
use Rattle.laws.specs.Tables.{read, join}
use Rattle.laws.proofs.Joins.{length_join}
use Rattle.track.specs.declared.Line.{Line}
use Rattle.track.specs.Codes.{a_to_b, b_to_a, stage0}
use Rattle.track.specs.Sizes.{most_places}
use Rattle.track.specs.Objects.{line}
use Rattle.tables.specs.Blocks.{place}
use Rattle.signals.specs.Signals.{enterable_by, enterable}
use Rattle.signals.specs.BlockSignals.{block_shows, block_shown_where}
use Rattle.panel.specs.Panel.{blocks, block_bytes, line_bytes}
use Rattle.panel.specs.Writes.{Wrote, block_by, line_by}
use Rattle.panel.proofs.Writes.{wrote_one, wrote_then}

-- ---- one block

module _ (stages bars : List ℕ) (n way : ℕ) (placed : Bool) (l : ℕ) where
  -- it has three bytes
  block_length : (i : ℕ) → length (block_by stages bars n way placed l i) ≡ 3
  unfolding block_by
  block_length i = refl

  -- k blocks have three bytes each
  blocks_length : (k : ℕ) → length (join k (block_by stages bars n way placed l)) ≡ 3 * k
  blocks_length = length_join (block_by stages bars n way placed l) 3 block_length

  -- stage, signal A to B and signal B to A, stored one after the other, are the bytes of block i
  pub block_made : (i at stage ab ba : ℕ) (b : List ℕ) → stage ≡ read most_places stage0 stages (place l i)
      → ab ≡ block_shown_where stages bars n way placed l i a_to_b → ba ≡ block_shown_where stages bars n way placed l i b_to_a
      → Wrote b at (block_by stages bars n way placed l i) (set (set (set b at stage) (at + 1) ab) (at + 2) ba) (at + 3)
  unfolding block_by
  block_made i at stage ab ba b e p q =
      let two : at + 1 + 1 ≡ at + 2 = omega arith in
      let three : at + 2 + 1 ≡ at + 3 = omega arith in
      rw (← e, ← p, ← q, ← three, ← two) (wrote_then (wrote_then (wrote_one stage) (wrote_one ab)) (wrote_one ba))

  -- the place after it
  pub block_next : (i : ℕ) {a b : List ℕ} {k m : ℕ} → Wrote a k (block_by stages bars n way placed l i) b m → m ≡ k + 3
  block_next i {k = k} p = p.place ∙ ap (λ w. k + w) (block_length i)

-- ---- lines

module _ (ls : List Line) where
  -- no lines have no blocks
  pub blocks_none : blocks 0 ls ≡ 0
  unfolding blocks
  blocks_none = refl

  -- one line more
  blocks_more : (l : ℕ) → blocks (l + 1) ls ≡ blocks l ls + (line ls l).blocks
  unfolding blocks
  blocks_more l = rw (add-one, blocks) refl

  -- more lines have no fewer blocks
  blocks_add : (l k : ℕ) → blocks l ls ≤ blocks (l + k) ls
  unfolding blocks
  blocks_add l zero = rw add-zero (le_refl (blocks l ls))
  blocks_add l (suc k) = let h : blocks l ls ≤ blocks (l + k) ls = blocks_add l k in rw (add-suc, blocks) (omega arith)

  -- so up to any later line
  blocks_up : (l n : ℕ) → l ≤ n → blocks l ls ≤ blocks n ls
  blocks_up l n b = let rest : l + (n - l) ≡ n = omega arith in rw rest at (blocks_add l (n - l))

  -- the loop that counts them: line l adds its own
  pub count_on : (l count : ℕ) (b : Line) → count ≡ blocks l ls → b ≡ line ls l → count + b.blocks ≡ blocks (l + 1) ls
  count_on l count b e same = ap₂ (λ k (a : Line). k + a.blocks) e same ∙ sym (blocks_more l)

  -- after the last line all are counted
  pub count_end : (l n count : ℕ) → count ≡ blocks l ls → l ≤ n → n ≤ l → count ≡ blocks n ls
  count_end l n count e b f = let d : l ≡ n = omega arith in e ∙ ap (λ k. blocks k ls) d

  -- there is room for line l where there is room for n lines
  pub line_room : (l n next at size : ℕ) (b : Line) (bytes : List ℕ) → b ≡ line ls l → l < n → next ≡ at + 3 * blocks l ls → length bytes ≡ size
      → at + 3 * blocks n ls ≤ size → next + 3 * b.blocks ≤ length bytes
  line_room l n next at size b bytes same c e f h = omega (arith, blocks_more l, ap (λ (a : Line). a.blocks) same, blocks_up (l + 1) n (omega arith))

module _ (directions points stages bars : List ℕ) (l : ℕ) where
  -- the place after a line
  line_next : (b : Line) {a c : List ℕ} {k m : ℕ} → Wrote a k (line_by b directions points stages bars l) c m → m ≡ k + 3 * b.blocks
  unfolding line_by
  line_next b {k = k} p = p.place ∙ ap (λ w. k + w) (blocks_length stages bars b.blocks _ _ l b.blocks)

  -- and after the lines up to it
  pub lines_next : (ls : List Line) (at k m : ℕ) (b : Line) (a c : List ℕ) → b ≡ line ls l → k ≡ at + 3 * blocks l ls
      → Wrote a k (line_by b directions points stages bars l) c m → m ≡ at + 3 * blocks (l + 1) ls
  lines_next ls at k m b a c same e p = omega (arith, line_next b p, ap (λ (x : Line). x.blocks) same, blocks_more ls l)

  -- the bytes of a line by its record are those by its number
  same_line : (ls : List Line) → line_by (line ls l) directions points stages bars l ≡ line_bytes ls directions points stages bars l
  unfolding line_by line_bytes block_by block_bytes block_shows block_shown_where enterable enterable_by
  same_line ls = refl

  -- line l, by its record
  pub line_at : (ls : List Line) (b : Line) (a c : List ℕ) (k m : ℕ) → b ≡ line ls l
      → Wrote a k (line_by b directions points stages bars l) c m → Wrote a k (line_bytes ls directions points stages bars l) c m
  line_at ls b a c k m same p = rw (← same_line ls, ← same) p

  -- three bytes for each of its blocks
  length_line : (ls : List Line) → length (line_bytes ls directions points stages bars l) ≡ 3 * (line ls l).blocks
  unfolding line_by
  length_line ls = ap length (sym (same_line ls)) ∙ blocks_length stages bars (line ls l).blocks _ _ l (line ls l).blocks

-- three bytes for each block of n lines
pub length_lines : (ls : List Line) (directions points stages bars : List ℕ) (n : ℕ) → length (join n (line_bytes ls directions points stages bars)) ≡ 3 * blocks n ls
unfolding join blocks
length_lines ls directions points stages bars zero = refl
length_lines ls directions points stages bars (suc n) =
    length-append (join n _) _ ∙ ap₂ ◌+◌ (length_lines ls directions points stages bars n) (length_line directions points stages bars n ls) ∙ omega arith
