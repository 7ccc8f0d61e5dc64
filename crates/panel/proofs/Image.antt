-- What is read from the bytes of a state's panel image (section 7) is what the state has, and nothing proceeds that the layout does not have.
use Prim.Native.Nat.{ℕ, zero, suc, ◌+◌, ◌*◌, ◌<◌}
use mathlib.Core.Path.{◌≡◌, refl, sym, ap, ◌∙◌}
use mathlib.Core.Bool.{Bool, true, false}
use mathlib.Core.List.{List, [], ◌++◌, append_assoc, append-nil}
use mathlib.Core.Logic.{◌⊎◌, inl, inr, ⊎_elim}
use native.Mathlib.Nat.{not-suc-le-zero, add-zero, add_assoc}
use native.Mathlib.Omega.{arith}
use native.Mathlib.Decide.{ℕ_discrete}
use borrow.Author.Tests.{ltb-true, eqb-true, lt-ltb}
use lib.Dec.{eqb}
use lib.ListN.{length, get_or, get_or-append}
use lib.Seq.{get_or-append-add}
use Rattle.laws.specs.Choice.{when◌then◌else◌}
use Rattle.laws.specs.Tests.{◌or◌}
use Rattle.laws.specs.Tables.{table, read, join}
use Rattle.laws.proofs.Joins.{length_join}
use Rattle.laws.proofs.Tables.{length_table, table_at}
use Rattle.laws.proofs.Tests.{and_left, and_right, and_both, or_cases, or_left, or_right}
use Rattle.track.specs.Codes.{a_to_b, b_to_a, stage0}
use Rattle.track.specs.Sizes.{most_places}
use Rattle.track.specs.Signal.{main, into}
use Rattle.tables.specs.Readings.{reading, point_reading}
use Rattle.tables.specs.Blocks.{place}
use Rattle.tables.specs.Locks.{direction, phase}
use Rattle.signals.specs.Aspects.{dark}
use Rattle.signals.specs.MainSignals.{main_shows}
use Rattle.signals.specs.BlockSignals.{block_shows}
use Rattle.layout.specs.declared.Layout.{Layout}
use Rattle.layout.specs.Layout.{line_in}
use Rattle.interlocking.specs.declared.State.{State}
use Rattle.panel.specs.Panel.{blocks, block_bytes, line_bytes, image}
use Rattle.panel.specs.Panel as drawn
use Rattle.panel.proofs.Blocks.{length_lines}
use Rattle.panel.specs.Shown.{block_from, section_shown, point_shown, signal_shown, route_shown, distant_shown, line_shown, block_shown, panel}
use Rattle.laws.proofs.Choice.{chosen}

-- ---- lists

module _ (n : ℕ) (f : ℕ → ℕ) (ys : List ℕ) (k : ℕ) where
  -- where a table stands first, one of its entries
  in_table : k < n → get_or (table n f ++ ys) k 0 ≡ f k
  in_table b = get_or-append (table n f) ys 0 k (omega (arith, length_table n f)) ∙ table_at n f 0 k b

  -- and an entry of what stands after it
  past_table : get_or (table n f ++ ys) (n + k) 0 ≡ get_or ys k 0
  past_table = ap (λ m. get_or (table n f ++ ys) (m + k) 0) (sym (length_table n f)) ∙ get_or-append-add (table n f) ys k 0

module _ (f : ℕ → List ℕ) where
  -- n runs are those before run l, run l and those after it: l is the last, or it stands among those before the last
  runs : (n l : ℕ) → Dec (suc l ≡ n) → l < n → (ys : List ℕ) × (join n f ≡ join l f ++ f l ++ ys)
  unfolding join
  runs zero l d b = absurd (not-suc-le-zero b)
  runs (suc n) l (yes e) b = ([], let d : l ≡ n = omega arith in rw d (sym (append-nil (join n f ++ f n))))
  runs (suc n) l (no e) b =
      let r = runs n l (ℕ_discrete (suc l) n) (omega arith) in
      (r.0 ++ f n, ap (λ xs. xs ++ f n) r.1 ∙ append_assoc (join l f ++ f l) r.0 (f n))

  -- so an entry of run l stands after the m of the runs before it
  join_at : (n l k m : ℕ) → l < n → k < length (f l) → length (join l f) ≡ m → get_or (join n f) (m + k) 0 ≡ get_or (f l) k 0
  join_at n l k m b c e =
      let r = runs n l (ℕ_discrete (suc l) n) b in
      ap (λ j. get_or (join n f) (j + k) 0) (sym e)
      ∙ ap (λ xs. get_or xs (length (join l f) + k) 0) (r.1 ∙ append_assoc (join l f) (f l) r.0)
      ∙ get_or-append-add (join l f) (f l ++ r.0) k 0
      ∙ get_or-append (f l) r.0 0 k c

-- ---- the bytes of a state's image

module _ (L : Layout) (s : State) where
  -- a section: its reading
  pub shows_section : (g : ℕ) → g < L.sections → (panel L (image L s)).section g ≡ reading s.section g
  unfolding section_shown image
  shows_section g b = chosen _ _ _ (lt-ltb g L.sections b) ∙ simp append_assoc (in_table _ (reading s.section) _ g b)

  -- a point: its reading
  pub shows_point : (p : ℕ) → p < L.points → (panel L (image L s)).point p ≡ point_reading s.point p
  unfolding point_shown image
  shows_point p b = chosen _ _ _ (lt-ltb p L.points b) ∙ simp (append_assoc, past_table) (in_table _ (point_reading s.point) _ p b)

  -- a main signal: what it shows
  pub shows_main : (x : ℕ) → x < L.signals → (panel L (image L s)).signal (main x) ≡ main_shows L.routes L.route s.phase x
  unfolding signal_shown image
  shows_main x b =
      chosen _ _ _ (lt-ltb x L.signals b) ∙ simp (append_assoc, add_assoc, past_table) (in_table _ (main_shows L.routes L.route s.phase) _ x b)

  -- a route: idle, locked or cancelling by its phase
  pub shows_route : (r : ℕ) → r < L.routes → (panel L (image L s)).route r ≡ drawn.route_byte (phase s.phase r)
  unfolding route_shown image
  shows_route r b =
      chosen _ _ _ (lt-ltb r L.routes b) ∙ simp (append_assoc, add_assoc, past_table) (in_table _ (λ k. drawn.route_byte (phase s.phase k)) _ r b)

  -- a distant: what it shows
  pub shows_distant : (d : ℕ) → d < L.distants → (panel L (image L s)).distant d ≡ drawn.distant_byte L s d
  unfolding distant_shown image
  shows_distant d b = chosen _ _ _ (lt-ltb d L.distants b) ∙ simp (append_assoc, add_assoc, past_table) (in_table _ (drawn.distant_byte L s) _ d b)

  -- a line: its direction
  pub shows_line : (l : ℕ) → l < L.lines → (panel L (image L s)).line l ≡ direction s.direction l
  unfolding line_shown image
  shows_line l b = chosen _ _ _ (lt-ltb l L.lines b) ∙ simp (append_assoc, add_assoc, past_table) (in_table _ (direction s.direction) _ l b)

  -- the bytes of a line's blocks
  abbrev bytes_of : ℕ → List ℕ
  bytes_of = line_bytes L.line s.direction s.point s.stage s.bar

  -- the three of one block
  abbrev three_of : ℕ → ℕ → List ℕ
  three_of = block_bytes L.line s.direction s.point s.stage s.bar

  -- those of block i of line l stand after all that is not of blocks, the lines before l, and the blocks of l before i
  block_at : (l i w : ℕ) → l < L.lines → i < (line_in L l).blocks → w < 3 → get_or (image L s) (block_from L l i + w) 0 ≡ get_or (three_of l i) w 0
  unfolding image line_bytes line_in block_bytes
  block_at l i w b h c =
      let three : (n : ℕ) → length (join n (three_of l)) ≡ 3 * n = length_join (three_of l) 3 (λ j. refl) in
      let at : 3 * (blocks l L.line + i) + w ≡ 3 * blocks l L.line + (3 * i + w) = omega arith in
      let long : length (join l bytes_of) ≡ 3 * blocks l L.line = length_lines L.line s.direction s.point s.stage s.bar l in
      simp (append_assoc, add_assoc, past_table) (
      ap (λ m. get_or (join L.lines bytes_of) m 0) at
      ∙ join_at bytes_of L.lines l (3 * i + w) _ b (omega (arith, three (line_in L l).blocks)) long
      ∙ join_at (three_of l) (line_in L l).blocks i w _ h c (three i))

  -- a block: its stage
  pub shows_block : (l i : ℕ) → l < L.lines → i < (line_in L l).blocks → (panel L (image L s)).block l i ≡ read most_places stage0 s.stage (place l i)
  unfolding block_shown block_bytes
  shows_block l i b h =
      chosen _ _ _ (and_both _ _ (lt-ltb l L.lines b) (lt-ltb i (line_in L l).blocks h))
      ∙ ap (λ m. get_or (image L s) m 0) (sym (add-zero (block_from L l i)))
      ∙ block_at l i 0 b h (omega arith)

  -- a signal of a block, in a direction that there is: its byte
  into_at : (l i w : ℕ) → l < L.lines → i < (line_in L l).blocks → w < 3 → eqb w a_to_b or eqb w b_to_a ≡ true
      → (panel L (image L s)).signal (into l i w) ≡ get_or (three_of l i) w 0
  unfolding signal_shown
  into_at l i w b h c e =
      chosen _ _ _ (and_both _ _ (lt-ltb l L.lines b) (and_both _ _ (lt-ltb i (line_in L l).blocks h) e)) ∙ block_at l i w b h c

  -- which is what it shows
  pub shows_into : (l i w : ℕ) → l < L.lines → i < (line_in L l).blocks → (w ≡ 1) ⊎ (w ≡ 2)
      → (panel L (image L s)).signal (into l i w) ≡ block_shows L.line s.direction s.point s.stage s.bar l i w
  unfolding block_bytes
  shows_into l i w b h (inl e) = rw e (into_at l i 1 b h (omega arith) (or_left _ _ refl))
  shows_into l i w b h (inr e) = rw e (into_at l i 2 b h (omega arith) (or_right _ _ refl))

-- ---- any bytes: what proceeds is there

-- what is over 20 is not the dark that stands for what is not there
lit : (t : Bool) (v : ℕ) → 20 < (when t then v else dark) → t ≡ true
unfolding when◌then◌else◌
lit true v b = refl
lit false v b = absurd (omega arith)

module _ (L : Layout) (bytes : List ℕ) where
  -- a main signal that proceeds is the layout's
  pub present_main : (x : ℕ) → 20 < (panel L bytes).signal (main x) → x < L.signals
  unfolding signal_shown
  present_main x b = ltb-true x L.signals (lit _ _ b)

  -- a signal of a block that proceeds is of a block of a line of the layout, in one of the two directions
  pub present_into : (l i w : ℕ) → 20 < (panel L bytes).signal (into l i w) → (l < L.lines) × (i < (line_in L l).blocks) × ((w ≡ 1) ⊎ (w ≡ 2))
  unfolding signal_shown
  present_into l i w b =
      let t = lit _ _ b in
      let u = and_right _ _ t in (
        ltb-true l L.lines (and_left _ _ t),
        ltb-true i (line_in L l).blocks (and_left _ _ u),
        ⊎_elim (λ e. inl (eqb-true w 1 e)) (λ e. inr (eqb-true w 2 e)) (or_cases _ _ (and_right _ _ u)),
      )
