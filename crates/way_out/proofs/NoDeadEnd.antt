-- No dead end: from every state that a run can reach on a layout in use the way out leads to rest.
use Prim.Native.Nat.{ℕ, zero, suc, ◌+◌, ◌*◌, ◌<◌, ◌≤◌}
use mathlib.Core.Path.{◌≡◌, refl, ◌∙◌}
use mathlib.Core.Bool.{Bool, true, false}
use mathlib.Core.List.{List, [], ◌∷◌}
use native.Mathlib.Nat.{le_refl}
use native.Mathlib.Omega.{arith}
use borrow.Author.Tests.{eq-eqb}
use lib.ListN.{length, length-append}
use Rattle.laws.specs.Choice.{when◌then◌else◌}
use Rattle.laws.specs.Totals.{total, bit, count}
use Rattle.laws.proofs.Arrays.{nothing_at}
use Rattle.laws.proofs.Choice.{if_both}
use Rattle.laws.proofs.Totals.{total_same, total_below, total_each, count_most, count_none}
use Rattle.track.specs.Codes.{open_block}
use Rattle.track.specs.Sizes.{most_sections, most_blocks}
use Rattle.track.specs.Blocks.{only_section}
use Rattle.tables.specs.Readings.{block_reading}
use Rattle.tables.specs.Blocks.{is_open}
use Rattle.layout.specs.declared.Layout.{Layout}
use Rattle.layout.specs.Layout.{none_fitted, is_fitted, line_in}
use Rattle.layout.specs.Load.{load}
use Rattle.layout.specs.Sound.{sound}
use Rattle.layout_facts.specs.Plain.{Sound}
use Rattle.layout_facts.proofs.Sound.{sound_says}
use Rattle.layout_facts.proofs.Loaded.{loaded_sound}
use Rattle.layout_facts.proofs.LoadedCleared.{loaded_none_told}
use Rattle.fitted.proofs.InUse.{in_use_sound}
use Rattle.interlocking.specs.declared.State.{State}
use Rattle.interlocking.specs.Step.{step}
use Rattle.step_facts.specs.Run.{Event, event, from_cold}
use Rattle.way_out.specs.Freeing.{CountsOf, axle_passes, freeing, fitted_among, fitted_blocks}
use Rattle.way_out.specs.WayOut.{standing, cancels, ninety_seconds, read_free, all_read_free, releases, way_out, AtRest, WayOut, NoDeadEnd}
use Rattle.way_out.proofs.Goes.{Whole, run_whole, Goes, after_that, ending_so}
use Rattle.way_out.proofs.WayOut.{cancel_all, wait_all, read_all, release_all}

-- ---- how long it is

-- at most one cancel for each route
cancels_short : (L : Layout) (n : ℕ) (s : State) → length (cancels L n s) ≤ n
unfolding cancels
cancels_short L zero s = omega arith
cancels_short L (suc n) s =
    if_both (λ (es : List Event). length es ≤ suc n) (standing s n) (λ t. let h = cancels_short L n (step L s 5 n 0).next in omega arith)
    (λ f. let h = cancels_short L n s in omega arith)

-- one reading for a section that has no heads, six events more for one that has
pub freeing_length : (L : Layout) (cs : CountsOf) (g : ℕ) → length (freeing L cs g) ≡ 1 + 6 * bit (is_fitted L g)
unfolding freeing axle_passes bit when◌then◌else◌
freeing_length L cs g = go (is_fitted L g)
  where
    go : (t : Bool) → length (when t then axle_passes g (cs g) else (event 1 g 1 ∷ [])) ≡ 1 + 6 * (when t then 1 else 0)
    go true = refl
    go false = refl

-- so for the blocks of a line
read_length : (L : Layout) (cs : CountsOf) (l n : ℕ) → length (read_free L cs l n) ≡ n + 6 * fitted_among L n (only_section (line_in L l))
unfolding read_free fitted_among count total
read_length L cs l zero = refl
read_length L cs l (suc n) =
    length-append (freeing L cs (only_section (line_in L l) n)) _ ∙ (let h = read_length L cs l n in let one = freeing_length L cs (only_section (line_in L l) n) in omega arith)

-- at most eight blocks for each line
read_short : (L : Layout) → Sound L → (cs : CountsOf) (n : ℕ) → n ≤ L.lines → length (all_read_free L cs n) ≤ most_blocks * n + 6 * fitted_blocks L n
unfolding all_read_free fitted_blocks total
read_short L S cs zero b = omega arith
read_short L S cs (suc l) b =
    let few = (S.ranges.lines l b).block_count in
    let rest = read_short L S cs l (omega arith) in
    simp (length-append, read_length) (omega arith)

-- one release for each line
releases_length : (n : ℕ) → length (releases n) ≡ n
unfolding releases
releases_length zero = refl
releases_length (suc n) = let h = releases_length n in omega arith

-- together
pub way_short : (L : Layout) → Sound L → (cs : CountsOf) (s : State) → length (way_out L cs s) ≤ L.routes + 90 + 9 * L.lines + 6 * fitted_blocks L L.lines
unfolding way_out ninety_seconds
way_short L S cs s =
    let a = cancels_short L L.routes s in
    let b = read_short L S cs L.lines (omega arith) in
    simp (length-append, releases_length) (omega arith)

-- ---- where it leads

-- from any state of a run to rest
pub goes_to_rest : (L : Layout) → sound L ≡ true → (cs : CountsOf) (s : State) → Whole s → Goes L s (way_out L cs s) (AtRest L)
unfolding way_out is_open block_reading
goes_to_rest L ok cs s whole =
    let S = sound_says L ok in
    ending_so (after_that (cancel_all L ok S L.routes s (le_refl _) whole (λ r b c. absurd (omega arith)))
    (λ t w calm. after_that (wait_all L ok S t w calm)
    (λ t w idle. after_that (read_all L ok S cs L.lines t (le_refl _) w (idle, λ l i b c. absurd (omega arith)))
    (λ t w free. release_all L ok S L.lines t (le_refl _) w (free.0, free.1, λ l b c. absurd (omega arith))))))
    (λ t w (idle, free, rest). record {
      routes = idle;
      lines = λ l b. (rest l (omega arith) b).0;
      blocks = λ l i b c. eq-eqb _ open_block ((rest l (omega arith) b).1 i c);
      free = λ l i b c. free l i (omega arith) b c;
    })

-- that is the way out, from every state that a run reaches on a sound layout, sections with heads or without
pub sound_way_out : (L : Layout) → sound L ≡ true → (cs : CountsOf) (es : List Event) → WayOut L cs (from_cold L es)
sound_way_out L ok cs es =
    let G = goes_to_rest L ok cs (from_cold L es) (run_whole L es) in
    record { granted = G.granted; short = way_short L (sound_says L ok) cs (from_cold L es); rest = G.ends }

-- so on a layout in use
pub no_dead_end : NoDeadEnd
no_dead_end L u cs es = sound_way_out L (in_use_sound u) cs es

-- ---- how long it is at most, and where no section has heads

-- of n sections at most n have heads
pub among_few : (L : Layout) (n : ℕ) (g : ℕ → ℕ) → fitted_among L n g ≤ n
unfolding fitted_among
among_few L n g = count_most n _

-- so of the blocks of a line at most eight
pub blocks_few : (L : Layout) → Sound L → (n : ℕ) → n ≤ L.lines → fitted_blocks L n ≤ most_blocks * n
unfolding fitted_blocks
blocks_few L S n b =
    let each : (l : ℕ) → l < n → fitted_among L (line_in L l).blocks (only_section (line_in L l)) ≤ most_blocks = λ l c.
    let few = (S.ranges.lines l (omega arith)).block_count in
    omega (arith, among_few L (line_in L l).blocks (only_section (line_in L l))) in
    omega (arith, total_below n (λ l. fitted_among L (line_in L l).blocks (only_section (line_in L l))) (λ l. most_blocks) each, total_each n most_blocks)

-- and the way out has at most 57 events for each line: seven for each block, and the release
pub way_longest : (L : Layout) → sound L ≡ true → (cs : CountsOf) (s : State) → length (way_out L cs s) ≤ L.routes + 90 + 57 * L.lines
way_longest L ok cs s = let S = sound_says L ok in omega (arith, way_short L S cs s, blocks_few L S L.lines (omega arith))

module _ (L : Layout) (none : (g : ℕ) → is_fitted L g ≡ false) where
  -- where no section has heads none of any does
  pub none_among : (n : ℕ) (g : ℕ → ℕ) → fitted_among L n g ≡ 0
  unfolding fitted_among
  none_among n g = count_none n _ (λ i b. none (g i))

  -- nor any block
  pub none_in_blocks : (n : ℕ) → fitted_blocks L n ≡ 0
  unfolding fitted_blocks
  none_in_blocks n = total_same n _ (λ l. 0) (λ l b. none_among (line_in L l).blocks (only_section (line_in L l))) ∙ omega (arith, total_each n 0)

  -- so the way out has at most nine events for each line
  pub unfitted_short : sound L ≡ true → (cs : CountsOf) (s : State) → length (way_out L cs s) ≤ L.routes + 90 + 9 * L.lines
  unfitted_short ok cs s = omega (arith, way_short L (sound_says L ok) cs s, none_in_blocks L.lines)

-- a layout that was loaded is one, since a file tells of no heads
pub loaded_unfitted : (bytes : List ℕ) (g : ℕ) → is_fitted (load bytes).layout g ≡ false
unfolding is_fitted none_fitted
loaded_unfitted bytes g = rw ((loaded_none_told bytes).fitted, nothing_at {A = ℕ} most_sections 0 g)

-- so there it has
pub accepted_short : (bytes : List ℕ) → (load bytes).number ≡ 0 → (cs : CountsOf) (s : State)
    → length (way_out (load bytes).layout cs s) ≤ (load bytes).layout.routes + 90 + 9 * (load bytes).layout.lines
accepted_short bytes ok cs s = unfitted_short _ (loaded_unfitted bytes) (loaded_sound bytes ok) cs s
