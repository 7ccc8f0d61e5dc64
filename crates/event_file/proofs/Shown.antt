-- The panel of a sound layout has at most 408 bytes, so a line with the panel shows all of it.
use Prim.Native.Nat.{ℕ, zero, suc, ◌*◌, ◌≤◌}
use mathlib.Core.Path.{◌≡◌, refl, sym, ap}
use mathlib.Core.Bool.{true}
use native.Mathlib.Omega.{arith}
use lib.Dec.{eqb}
use lib.ListN.{length}
use Rattle.laws.specs.Tests.{◌and◌}
use Rattle.laws.proofs.Choice.{if_true, if_false, if_ge}
use Rattle.track.specs.Sizes.{most_blocks}
use Rattle.layout.specs.declared.Layout.{Layout}
use Rattle.layout.specs.Layout.{line_in}
use Rattle.layout.specs.Sound.{sound}
use Rattle.layout_facts.specs.Plain.{Ranges}
use Rattle.layout_facts.proofs.Sound.{sound_says}
use Rattle.interlocking.specs.declared.State.{State}
use Rattle.interlocking.specs.State.{in_range}
use Rattle.panel.specs.declared.Drawn.{Drawn}
use Rattle.panel.specs.Panel.{blocks, panel_length, image, answer_where, answer}
use Rattle.panel.proofs.Laws.{length_image}
use Rattle.panel.proofs.Answers.{run_answer_same}
use Rattle.event_file.specs.Lines.{shown_by, shown, shown_in_run}

module _ (L : Layout) (w : Ranges L) where
  -- the first n lines have at most so many times the blocks of one
  blocks_most : (n : ℕ) → n ≤ L.lines → blocks n L.line ≤ most_blocks * n
  unfolding blocks line_in
  blocks_most zero h = omega arith
  blocks_most (suc n) h = let before = blocks_most n (omega arith) in let here = (w.lines n h).block_count in omega arith

  -- 64 sections, 32 points, 32 signals, 48 routes, 32 distants (L2), 8 lines, and three bytes for each of 64 blocks
  pub image_most : panel_length L ≤ 408
  unfolding panel_length
  image_most =
      let most = blocks_most L.lines (omega arith) in
      let lines = w.line_count in
      omega (arith, w.section_count.1, w.point_count, w.signal_count, w.route_count, w.distant_count)

module _ (L : Layout) (s : State) (h : sound L ≡ true) (e : in_range s ≡ true) where
  -- what a run shows is what the panel shows
  pub shown_same : shown_in_run L s ≡ shown L s
  unfolding shown_in_run shown
  shown_same = ap (λ (d : Drawn). shown_by d (image L s)) (run_answer_same L s h e 512)

  -- where there is room for the image, the answer is 0 with its length
  pub drawn_whole : (room : ℕ) → panel_length L ≤ room → record { number = 0; length = length (image L s) } ≡ answer L s room
  unfolding answer answer_where ◌and◌
  drawn_whole room enough =
      if_false _ _ _ _ (rw (h, e)) (if_ge room (length (image L s)) _ _ _ (omega (arith, length_image L s)) refl)

  -- what a line with the panel shows of a state in range on a sound layout is its image, whole
  pub shown_whole : shown L s ≡ image L s
  unfolding shown shown_by
  shown_whole = sym (if_true _ _ _ _ (ap (λ (d : Drawn). eqb d.number 0) (sym (drawn_whole 512 (omega (arith, image_most L (sound_says L h).ranges))))) refl)
