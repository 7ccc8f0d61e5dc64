-- What shows leaves no byte out: two images of the layout's length that show the same are the same. Each byte is that of a section, a point, a signal, a
-- route, a distant or a line, or one of the three of a block (section 7).
use Prim.Native.Nat.{ℕ, zero, suc, ◌+◌, ◌-◌, ◌*◌, ◌/◌, ◌%◌, ◌<◌, ◌≤◌}
use mathlib.Core.Path.{◌≡◌, refl, sym, ◌∙◌}
use mathlib.Core.Bool.{Bool, true}
use mathlib.Core.List.{List}
use native.Mathlib.Nat.{add-zero, div-add-mod, mod-lt}
use native.Mathlib.Decide.{dec_lt}
use native.Mathlib.Omega.{arith}
use borrow.Author.Tests.{lt-ltb}
use lib.Dec.{ltb}
use lib.ListN.{length, get_or}
use lib.Seq.{ext_get_or}
use Rattle.laws.specs.Choice.{when◌then◌else◌}
use Rattle.laws.proofs.Tests.{and_both, or_left, or_right}
use Rattle.track.specs.declared.Line.{Line}
use Rattle.track.specs.Objects.{line}
use Rattle.track.specs.Signal.{Signal, main, into}
use Rattle.layout.specs.declared.Layout.{Layout}
use Rattle.layout.specs.Layout.{line_in}
use Rattle.panel.specs.Panel.{blocks, panel_length}
use Rattle.panel.specs.Shown.{
  panel,
  points_from,
  signals_from,
  routes_from,
  distants_from,
  lines_from,
  block_from,
  section_shown,
  point_shown,
  signal_shown,
  route_shown,
  distant_shown,
  line_shown,
  block_shown,
}

-- ---- which byte is which

-- byte k of the blocks of n lines is byte w of block i of line l
record OfBlock (ls : List Line) (n k : ℕ) : Type 0 where
  l : ℕ
  i : ℕ
  w : ℕ
  there : l < n
  inside : i < (line ls l).blocks
  three : w < 3
  stands : k ≡ 3 * (blocks l ls + i) + w

-- it is of a line before the last, or of the last: what is left divided by three is the block, the rest the byte
of_block_law : (ls : List Line) (n k : ℕ) → k < 3 * blocks n ls → OfBlock ls n k
unfolding blocks
of_block_law ls zero k b = absurd (omega arith)
of_block_law ls (suc n) k b = go (of_block_law ls n k) (dec_lt k (3 * blocks n ls))
  where
    go : (k < 3 * blocks n ls → OfBlock ls n k) → Dec (k < 3 * blocks n ls) → OfBlock ls (suc n) k
    go f (yes c) =
        let x = f c in
        record { l = x.l; i = x.i; w = x.w; there = omega (arith, x.there); inside = x.inside; three = x.three; stands = x.stands }
    go f (no d) =
        let j : ℕ = k - 3 * blocks n ls in
        let cut : 3 * (j / 3) + j % 3 ≡ j = div-add-mod j 3 in
        let few : j % 3 < 3 = mod-lt j (omega arith) in
        record { l = n; i = j / 3; w = j % 3; there = omega arith; inside = omega arith; three = few; stands = omega arith }

-- byte k of the image is that of a section, a point, a signal, a route, a distant, a line, or of a block
data OfImage (L : Layout) (k : ℕ) : Type 0 where
  of_section : k < L.sections → OfImage L k
  of_point : (p : ℕ) → p < L.points → k ≡ points_from L + p → OfImage L k
  of_signal : (x : ℕ) → x < L.signals → k ≡ signals_from L + x → OfImage L k
  of_route : (r : ℕ) → r < L.routes → k ≡ routes_from L + r → OfImage L k
  of_distant : (d : ℕ) → d < L.distants → k ≡ distants_from L + d → OfImage L k
  of_line : (l : ℕ) → l < L.lines → k ≡ lines_from L + l → OfImage L k
  of_block : (j : ℕ) → OfBlock L.line L.lines j → k ≡ lines_from L + L.lines + j → OfImage L k

-- by where it stands: before the end of the sections, of the points, of the signals, of the routes, of the distants, of the lines, or after all of them
of_image : (L : Layout) (k : ℕ) → k < panel_length L → OfImage L k
unfolding panel_length
of_image L k b = one (dec_lt k L.sections)
  where
    six : lines_from L ≤ k → Dec (k < lines_from L + L.lines) → OfImage L k
    six c (yes d) = of_line (k - lines_from L) (omega arith) (omega arith)
    six c (no d) = let j : ℕ = k - (lines_from L + L.lines) in of_block j (of_block_law L.line L.lines j (omega arith)) (omega arith)

    five : distants_from L ≤ k → Dec (k < lines_from L) → OfImage L k
    five c (yes d) = of_distant (k - distants_from L) (omega arith) (omega arith)
    five c (no d) = six (omega arith) (dec_lt k (lines_from L + L.lines))

    four : routes_from L ≤ k → Dec (k < distants_from L) → OfImage L k
    four c (yes d) = of_route (k - routes_from L) (omega arith) (omega arith)
    four c (no d) = five (omega arith) (dec_lt k (lines_from L))

    three : signals_from L ≤ k → Dec (k < routes_from L) → OfImage L k
    three c (yes d) = of_signal (k - signals_from L) (omega arith) (omega arith)
    three c (no d) = four (omega arith) (dec_lt k (distants_from L))

    two : points_from L ≤ k → Dec (k < signals_from L) → OfImage L k
    two c (yes d) = of_point (k - points_from L) (omega arith) (omega arith)
    two c (no d) = three (omega arith) (dec_lt k (routes_from L))

    one : Dec (k < L.sections) → OfImage L k
    one (yes c) = of_section c
    one (no c) = two (omega arith) (dec_lt k (signals_from L))

-- ---- two images that show the same

-- of each object that there is; of a signal and a line also where there is none, as what is told of a passage asks
pub record ShowSame (L : Layout) (a b : List ℕ) : Type 0 where
  pub sections : (g : ℕ) → g < L.sections → (panel L a).section g ≡ (panel L b).section g
  pub points : (p : ℕ) → p < L.points → (panel L a).point p ≡ (panel L b).point p
  pub signals : (x : Signal) → (panel L a).signal x ≡ (panel L b).signal x
  pub routes : (r : ℕ) → r < L.routes → (panel L a).route r ≡ (panel L b).route r
  pub distants : (d : ℕ) → d < L.distants → (panel L a).distant d ≡ (panel L b).distant d
  pub lines : (l : ℕ) → (panel L a).line l ≡ (panel L b).line l
  pub blocks : (l i : ℕ) → l < L.lines → i < (line_in L l).blocks → (panel L a).block l i ≡ (panel L b).block l i

-- where the test holds, what is the same under it is the same
under : (t : Bool) (u v d : ℕ) → t ≡ true → (when t then u else d) ≡ (when t then v else d) → u ≡ v
unfolding when◌then◌else◌
under t u v d e q = rw e at q

module _ (L : Layout) (a b : List ℕ) (same : ShowSame L a b) where
  -- the three bytes of a block: its stage and its two signals
  three_same : (l i w : ℕ) → l < L.lines → i < (line_in L l).blocks → w < 3 → get_or a (block_from L l i + w) 0 ≡ get_or b (block_from L l i + w) 0
  unfolding block_shown signal_shown
  three_same l i w c d e = go w e
    where
      one : ltb l L.lines ≡ true
      one = lt-ltb l L.lines c

      two : ltb i (line_in L l).blocks ≡ true
      two = lt-ltb i (line_in L l).blocks d

      go : (w : ℕ) → w < 3 → get_or a (block_from L l i + w) 0 ≡ get_or b (block_from L l i + w) 0
      go zero f = rw add-zero (under _ _ _ _ (and_both _ _ one two) (same.blocks l i c d))
      go (suc zero) f = under _ _ _ _ (and_both _ _ one (and_both _ _ two (or_left _ _ refl))) (same.signals (into l i 1))
      go (suc (suc zero)) f = under _ _ _ _ (and_both _ _ one (and_both _ _ two (or_right _ _ refl))) (same.signals (into l i 2))
      go (suc (suc (suc w))) f = absurd (omega arith)

  -- any byte, by what it is of
  byte_same : (k : ℕ) → OfImage L k → get_or a k 0 ≡ get_or b k 0
  unfolding section_shown point_shown signal_shown route_shown distant_shown line_shown line_in
  byte_same k (of_section c) = under _ _ _ _ (lt-ltb k L.sections c) (same.sections k c)
  byte_same k (of_point p c q) = rw q (under _ _ _ _ (lt-ltb p L.points c) (same.points p c))
  byte_same k (of_signal x c q) = rw q (under _ _ _ _ (lt-ltb x L.signals c) (same.signals (main x)))
  byte_same k (of_route r c q) = rw q (under _ _ _ _ (lt-ltb r L.routes c) (same.routes r c))
  byte_same k (of_distant d c q) = rw q (under _ _ _ _ (lt-ltb d L.distants c) (same.distants d c))
  byte_same k (of_line l c q) = rw q (under _ _ _ _ (lt-ltb l L.lines c) (same.lines l))
  byte_same k (of_block j x q) =
      let at : k ≡ block_from L x.l x.i + x.w = omega (arith, x.stands) in
      rw at (three_same x.l x.i x.w x.there x.inside x.three)

  -- so all of them
  pub show_same : length a ≡ panel_length L → length b ≡ panel_length L → a ≡ b
  show_same p q = ext_get_or 0 a b (p ∙ sym q) (λ k c. byte_same k (of_image L k (omega arith)))
