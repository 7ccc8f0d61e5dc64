-- The image from its parts, and its length.
use Prim.Native.Nat.{ℕ, ◌+◌, ◌<◌, ◌≤◌}
use mathlib.Core.Path.{◌≡◌, sym, ap, ◌∙◌}
use mathlib.Core.List.{List, ◌++◌, append_assoc}
use native.Mathlib.Omega.{arith}
use borrow.Author.Tests.{lt-ltb}
use lib.ListN.{length, get_or, length-append}
use lib.Seq.{sets, ext_get_or}
use Rattle.laws.specs.Choice.{when◌then◌else◌}
use Rattle.laws.specs.Tables.{table, read, join}
use Rattle.laws.proofs.Tables.{length_table, table_at}
use Rattle.track.specs.Codes.{reads_none, neutral, idle}
use Rattle.track.specs.Sizes.{most_sections, most_points, most_signals, most_lines, most_routes}
use Rattle.tables.specs.Readings.{reading, point_reading}
use Rattle.signals.specs.MainSignals.{main_shows}
use Rattle.layout.specs.declared.Layout.{Layout}
use Rattle.interlocking.specs.declared.State.{State}
use Rattle.panel.specs.Panel.{route_byte, line_bytes, image, panel_length}
use Rattle.panel.specs.Writes.{Wrote, FitsTables, distant_by, reading_bytes, object_bytes}
use Rattle.panel.proofs.Blocks.{length_lines}
use Rattle.panel.proofs.Writes.{wrote_then}
use Rattle.panel.proofs.DistantLaws.{distants_by}

-- ---- tables, as the code copies them

-- two tables of n whose entries agree are the same
table_same : (n : ℕ) (f g : ℕ → ℕ) → ((k : ℕ) → k < n → f k ≡ g k) → table n f ≡ table n g
table_same n f g h =
    ext_get_or 0 (table n f) (table n g) (length_table n f ∙ sym (length_table n g)) (λ k b.
    let c : length (table n f) ≡ n = length_table n f in
    table_at n f 0 k (omega arith) ∙ h k (omega arith) ∙ sym (table_at n g 0 k (omega arith)))

-- the first n entries of a table of m, as the code reads them and as the definitions do
table_read : (g : ℕ → ℕ) (n m d : ℕ) (xs : List ℕ) → n ≤ m → table n (λ i. g (get_or xs i 0)) ≡ table n (λ i. g (read m d xs i))
unfolding read when◌then◌else◌
table_read g n m d xs b = table_same n _ _ (λ k c. rw (lt-ltb k m (omega arith)))

-- the first n entries of a table that was made
table_made : (n m : ℕ) (f : ℕ → ℕ) (xs : List ℕ) → xs ≡ table m f → n ≤ m → table n (λ i. get_or xs i 0) ≡ table n f
table_made n m f xs e b = table_same n _ _ (λ k c. ap (λ (ys : List ℕ). get_or ys k 0) e ∙ table_at m f 0 k (omega arith))

-- the place after a table
pub table_next : (n : ℕ) (f : ℕ → ℕ) {a b : List ℕ} {k m : ℕ} → Wrote a k (table n f) b m → m ≡ k + n
table_next n f {k = k} p = p.place ∙ ap (λ w. k + w) (length_table n f)

-- ---- the parts of the image

module _ (L : Layout) (s : State) (w : FitsTables L) where
  -- the two tables of readings, copied one after the other, are the first part
  pub readings_made : (a b c : List ℕ) (k m : ℕ) → Wrote a 0 (table L.sections (λ i. get_or s.section i 0)) b k
      → Wrote b k (table L.points (λ i. get_or s.point i 0)) c m → Wrote a 0 (reading_bytes L s) c m
  unfolding reading_bytes reading point_reading
  readings_made a b c k m p q =
      rw (← table_read (λ x. x) L.sections most_sections reads_none s.section w.sections, ← table_read (λ x. x) L.points most_points reads_none s.point w.points) (wrote_then p q)

  -- signals, routes, distants and lines, written one after the other, are the second part
  pub objects_made : (a b c d e shown : List ℕ) (k m i n j : ℕ) → shown ≡ table most_signals (main_shows L.routes L.route s.phase)
      → Wrote a k (table L.signals (λ x. get_or shown x 0)) b m → Wrote b m (table L.routes (λ r. route_byte (get_or s.phase r 0))) c i
      → Wrote c i (table L.distants (distant_by L s shown)) d n → Wrote d n (table L.lines (λ l. get_or s.direction l 0)) e j
      → Wrote a k (object_bytes L s) e j
  unfolding object_bytes
  objects_made a b c d e shown k m i n j q f g t h =
      rw (
        ← table_made L.signals most_signals _ shown q w.signals,
        ← table_read route_byte L.routes most_routes idle s.phase w.routes,
        ← distants_by L s shown q w.signals,
        ← table_read (λ x. x) L.lines most_lines neutral s.direction w.lines,
      ) (wrote_then (wrote_then (wrote_then f g) t) h)

-- ---- the whole

-- the image from its parts
image_parts : (L : Layout) (s : State) → reading_bytes L s ++ object_bytes L s ++ join L.lines (line_bytes L.line s.direction s.point s.stage s.bar) ≡ image L s
unfolding image reading_bytes object_bytes
image_parts L s = simp append_assoc

-- the three parts written one after the other, from the first byte on, are the image
pub image_made : (L : Layout) (s : State) (a b c e : List ℕ) (k m n : ℕ) → Wrote a 0 (reading_bytes L s) b k → Wrote b k (object_bytes L s) c m
    → Wrote c m (join L.lines (line_bytes L.line s.direction s.point s.stage s.bar)) e n → e ≡ sets a 0 (image L s)
image_made L s a b c e k m n p q r = (wrote_then (wrote_then p q) r).buffer ∙ ap (λ xs. sets a 0 xs) (image_parts L s)

-- the image has as many bytes as the layout says, sound or not
pub length_image : (L : Layout) (s : State) → length (image L s) ≡ panel_length L
unfolding image panel_length
length_image L s = simp (length-append, length_table, length_lines)
