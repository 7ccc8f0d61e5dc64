-- How many signals a layout has, main and block signals (L2), by its blocks.
use Prim.Native.Nat.{ℕ, zero, suc, ◌+◌, ◌*◌, ◌≤◌}
use mathlib.Core.Path.{◌≡◌}
use mathlib.Core.List.{List}
use native.Mathlib.Numerals.{add-one}
use native.Mathlib.Omega.{arith}
use Rattle.laws.specs.Totals.{total}
use Rattle.laws.proofs.Totals.{total_same, total_below, total_each, total_sum}
use Rattle.track.specs.declared.Line.{Line}
use Rattle.track.specs.Sizes.{most_signals, most_lines, most_blocks}
use Rattle.track.specs.Objects.{line}
use Rattle.track.specs.SignalNumbers.{between_blocks, signal_count}
use Rattle.track.proofs.SignalNumbers.{count_mains, count_line, signals_few}
use Rattle.layout.specs.declared.Layout.{Layout}
use Rattle.layout.specs.Layout.{line_in, signals_in}
use Rattle.layout_facts.specs.Plain.{Ranges}

-- the main signals, and the block signals of each line
signals_total : (m n : ℕ) (ls : List Line) → signal_count m n ls ≡ m + total n (λ l. between_blocks (line ls l))
unfolding total
signals_total m zero ls = omega (arith, count_mains m ls)
signals_total m (suc n) ls =
    let one : signal_count m (suc n) ls ≡ signal_count m n ls + between_blocks (line ls n) = rw (← add-one n) (count_line m n ls) in
    omega (arith, one, signals_total m n ls)

module _ (L : Layout) (R : Ranges L) where
  -- a line of some blocks has two signals fewer than twice its blocks
  pub signals_blocks : signals_in L + L.lines * 2 ≡ L.signals + total L.lines (λ l. (line_in L l).blocks) * 2
  unfolding signals_in line_in between_blocks
  signals_blocks =
      let n = L.lines in
      let blocks : ℕ → ℕ = λ l. (line_in L l).blocks in
      let both : total n (λ l. between_blocks (line L.line l) + 2) ≡ total n (λ l. blocks l + blocks l) = total_same n _ _ (λ l h. omega (arith, (R.lines l h).block_count.0)) in
      omega (
        arith,
        both,
        signals_total L.signals n L.line,
        total_sum n (λ l. between_blocks (line L.line l)) (λ l. 2),
        total_each n 2,
        total_sum n blocks blocks,
      )

  -- no line has more than eight blocks
  pub blocks_most : total L.lines (λ l. (line_in L l).blocks) ≤ L.lines * most_blocks
  blocks_most = omega (arith, total_below L.lines (λ l. (line_in L l).blocks) (λ l. most_blocks) (λ l h. (R.lines l h).block_count.1), total_each L.lines most_blocks)

  -- so there are at most 32 main signals and fourteen block signals in each of eight lines
  pub signals_most : signals_in L ≤ most_signals + most_lines * 14
  unfolding signals_in line_in
  signals_most = omega (arith, signals_few L.signals L.line L.lines (λ l b. (R.lines l b).block_count.1), R.signal_count, R.line_count)
