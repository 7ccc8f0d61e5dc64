-- The points' own sections and the lines of a file, both ways.
use Prim.Native.Nat.{ℕ, ◌<◌}
use mathlib.Core.Path.{◌≡◌, refl}
use mathlib.Core.List.{List, [], ◌∷◌, flatten}
use native.Mathlib.Omega.{arith}
use lib.ListN.{get_or, replicate, length-replicate}
use Rattle.laws.specs.Choice.{when◌then◌else◌}
use Rattle.numbers.specs.Form.{Bytes}
use Rattle.track.specs.declared.Counts.{Counts}
use Rattle.track.specs.declared.Line.{Line}
use Rattle.track.specs.Codes.{end_a, end_b}
use Rattle.track.specs.Sizes.{most_points, most_lines, most_blocks}
use Rattle.track.specs.Objects.{no_line, line, inner, entrance}
use Rattle.track.proofs.OnlySection.{only_in}
use Rattle.fields.specs.declared.Cursor.{Cursor}
use Rattle.fields.specs.Fields.{code, reference}
use Rattle.fields.specs.Lists.{points}
use Rattle.fields.proofs.Ranges.{code_most}
use Rattle.file_objects.specs.declared.Owned.{Owned}
use Rattle.file_objects.specs.declared.Lines.{Lines}
use Rattle.file_objects.specs.Sections.{section_turn, sections, no_sections}
use Rattle.file_objects.specs.Lines.{a_line, no_lines, line_turn, lines_from, lines}
use Rattle.file_objects.proofs.Ranges.{sections_count, lines_count}
use Rattle.layout.specs.declared.Layout.{Layout}
use Rattle.layout.specs.Layout.{line_in}
use Rattle.layout_facts.specs.Plain.{own_section, InBlock, inner_section, entrance_signal, line_point, line_position, Ranges}
use Rattle.layout_file.specs.Written.{listing, item_numbers, line_numbers}
use Rattle.layout_file.specs.Bare.{Bare}
use Rattle.layout_file.proofs.Stands.{Stand, stand_none, stand_then, stand_first, stand_rest, stand_last}
use Rattle.layout_file.proofs.Fields.{reference_stands, Clear, reference_gives}
use Rattle.layout_file.proofs.Listings.{listing_stands, entries_give}
use Rattle.layout_file.proofs.Turns.{entries_read}
use Rattle.layout_file.proofs.Lists.{items_stand, points_stand, items_give, points_give}

-- ---- what was read stands there

-- the points' own sections
pub sections_stand : (s : List ℕ) → Bytes s → (c : Cursor) (objects : ℕ) → (sections s c objects).cur.fault ≡ 0
    → (c.fault ≡ 0) × Stand s c.at (item_numbers (sections s c objects).count (sections s c objects).section) (sections s c objects).cur.at
unfolding item_numbers sections section_turn no_sections
sections_stand s b c objects e =
    listing_stands s c 0 most_points b _ _ _ (sections_count s c objects)
    (entries_read s (λ (t : Owned). t.cur) (λ t. t.section) (λ t. (reference s t.cur objects).value) 0 (λ v. v ∷ []) (section_turn s objects) (λ i t. refl) most_points
    _ _ (length-replicate {A = ℕ} most_points 0) (code_most s c 0 most_points refl) (λ i t. reference_stands s b t.cur objects) e)

module _ (s : List ℕ) (b : Bytes s) (n : Counts) (c : Cursor) where
  -- a line: its six reads one after another
  line_stands : (a_line s n c).cur.fault ≡ 0 → (c.fault ≡ 0) × Stand s c.at (line_numbers (a_line s n c).line) (a_line s n c).cur.at
  unfolding a_line line_numbers flatten
  line_stands e =
      let p = points_stand s b _ n.points e in
      let entranceb = reference_stands s b _ n.signals p.0 in
      let entrancea = reference_stands s b _ n.signals entranceb.0 in
      let innerb = reference_stands s b _ n.sections entrancea.0 in
      let innera = reference_stands s b _ n.sections innerb.0 in
      let blocks = items_stand s b c 1 most_blocks n.sections (omega arith) innera.0 in
      let ends = stand_then s innera.1 (stand_then s innerb.1 (stand_then s entrancea.1 entranceb.1)) in
      (blocks.0, stand_then s blocks.1 (stand_then s ends (stand_then s p.1 (stand_none s _))))

-- all lines
pub lines_stand : (s : List ℕ) → Bytes s → (n : Counts) (c : Cursor) → (lines s n c).cur.fault ≡ 0
    → (c.fault ≡ 0) × Stand s c.at (listing (lines s n c).count (λ l. line_numbers (line (lines s n c).line l))) (lines s n c).cur.at
unfolding lines lines_from line_turn no_lines line
lines_stand s b n c e =
    listing_stands s c 0 most_lines b _ _ _ (lines_count s n c)
    (entries_read s (λ (t : Lines). t.cur) (λ t. t.line) (λ t. (a_line s n t.cur).line) no_line line_numbers (line_turn s n) (λ i t. refl) most_lines
    _ _ (length-replicate most_lines no_line) (code_most s c 0 most_lines refl) (λ i t. line_stands s b n t.cur) e)

-- ---- what stands there is read

-- the objects of a layout that lines and routes may refer to, with so many lines
abbrev pub objects_of : Layout → ℕ → Counts
objects_of L lines = record { sections = L.sections; points = L.points; signals = L.signals; lines = lines }

module _ (s : List ℕ) (L : Layout) (ranges : Ranges L) (bare : Bare L) (c : Cursor) (at next : ℕ) (k : Clear c at) where
  -- the points' own sections
  pub sections_give : Stand s at (item_numbers L.points L.pointsection) next
      → Clear (sections s c L.sections).cur next × ((sections s c L.sections).count ≡ L.points) × ((sections s c L.sections).section ≡ L.pointsection)
  unfolding item_numbers sections section_turn no_sections own_section
  sections_give p =
      entries_give s c 0 most_points (λ (t : Owned). t.cur) (λ t. t.count) (λ t. t.section) (λ t. (reference s t.cur L.sections).value) 0 (λ v. v ∷ [])
      (section_turn s L.sections) (λ i t. refl) (λ i t. refl) most_points (λ v. record { cur = code s c 0 most_points; count = v; section = replicate most_points 0 })
      (λ v. (refl, refl, refl)) L.pointsection at L.points next k (omega arith) ranges.point_count (omega arith) ranges.point_count
      bare.tables.pointsection bare.past.sections
      (λ i a b t j d q.
      let g = reference_gives s t.cur L.sections a (get_or L.pointsection i 0) b d q (ranges.points i j) (omega (arith, ranges.section_count.1)) in
      (g.clear, g.value)) p

  -- a line: what is read of it, one after another, is what it has
  line_gives : (m l : ℕ) → l < L.lines → Stand s at (line_numbers (line_in L l)) next
      → Clear (a_line s (objects_of L m) c).cur next × ((a_line s (objects_of L m) c).line ≡ line_in L l)
  unfolding a_line line_numbers flatten InBlock inner_section entrance_signal inner entrance when◌then◌else◌ line_point line_position
  line_gives m l h p =
      let a : Line = line_in L l in
      let f = ranges.lines l h in
      let t = bare.tables.lines l in
      let z = bare.past in
      let few = ranges.section_count.1 in
      let ends : List ℕ = a.innera ∷ a.innerb ∷ a.entrancea ∷ a.entranceb ∷ [] in
      let p₁ = stand_rest s at next (item_numbers a.blocks a.block) _ p in
      let p₂ = stand_rest s _ next ends _ p₁ in
      let q₁ = stand_first s _ next ends _ p₁ in
      let q₂ = stand_rest s _ _ (a.innera ∷ []) _ q₁ in
      let q₃ = stand_rest s _ _ (a.innerb ∷ []) _ q₂ in
      let q₄ = stand_rest s _ _ (a.entrancea ∷ []) (a.entranceb ∷ []) q₃ in
      let b = items_give s c L.sections at _ a.blocks k few 1 most_blocks a.block f.block_count.0 f.block_count.1 (omega arith)
      (λ i j. f.blocks i _ j (only_in a i)) t.block (z.blocks l) (stand_first s at next (item_numbers a.blocks a.block) _ p) in
      let innera = reference_gives s _ L.sections _ a.innera _ b.0 (stand_first s _ _ (a.innera ∷ []) _ q₁) (f.inners end_a (omega arith)) (omega arith) in
      let innerb = reference_gives s _ L.sections _ a.innerb _ innera.clear (stand_first s _ _ (a.innerb ∷ []) _ q₂) (f.inners end_b (omega arith)) (omega arith) in
      let entrancea = reference_gives s _ L.signals _ a.entrancea _ innerb.clear (stand_first s _ _ (a.entrancea ∷ []) (a.entranceb ∷ []) q₃) (f.entrances end_a (omega arith)) (omega (arith, ranges.signal_count)) in
      let entranceb = reference_gives s _ L.signals _ a.entranceb _ entrancea.clear q₄ (f.entrances end_b (omega arith)) (omega (arith, ranges.signal_count)) in
      let q = points_give s _ L.points _ next a.points entranceb.clear (omega (arith, ranges.point_count)) a.point a.position f.point_count f.points f.positions
      (t.point, t.position) (z.line_points l) (stand_last s _ next _ p₂) in
      (q.0, rw (q.3, q.2, q.1, entranceb.value, entrancea.value, innerb.value, innera.value, b.2, b.1))

-- all lines
pub lines_give : (s : List ℕ) (L : Layout) (ranges : Ranges L) (bare : Bare L) (c : Cursor) (at next : ℕ) (m : ℕ) → Clear c at
    → Stand s at (listing L.lines (λ l. line_numbers (line_in L l))) next
    → Clear (lines s (objects_of L m) c).cur next × ((lines s (objects_of L m) c).count ≡ L.lines) × ((lines s (objects_of L m) c).line ≡ L.line)
unfolding lines lines_from line_turn no_lines line_in line
lines_give s L ranges bare c at next m k p =
    entries_give s c 0 most_lines (λ (t : Lines). t.cur) (λ t. t.count) (λ t. t.line) (λ t. (a_line s (objects_of L m) t.cur).line) no_line line_numbers
    (line_turn s (objects_of L m)) (λ i t. refl) (λ i t. refl) most_lines (λ v. record { cur = code s c 0 most_lines; count = v; line = replicate most_lines no_line })
    (λ v. (refl, refl, refl)) L.line at L.lines next k (omega arith) ranges.line_count (omega arith) ranges.line_count bare.tables.line bare.past.lines
    (λ i a b t j d q. line_gives s L ranges bare t.cur a b d m i j q) p
