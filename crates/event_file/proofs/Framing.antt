-- The lines that stand before those of the events and after them.
use Prim.Native.Nat.{ℕ, ◌+◌, ◌<◌, ◌≤◌}
use mathlib.Core.Path.{◌≡◌, ◌∙◌}
use mathlib.Core.Bool.{Bool, true, false}
use mathlib.Core.List.{List}
use native.Mathlib.Omega.{arith}
use borrow.Author.Rules.{rules}
use lib.ListN.{length, set, length-set}
use Rattle.laws.specs.Choice.{when◌then◌else◌}
use Rattle.layout.specs.declared.Layout.{Layout}
use Rattle.interlocking.specs.State.{cold}
use Rattle.event_file.specs.Lines.{two_numbers, shown, line_of, most_line}
use Rattle.event_file.specs.List.{header, fault_line, most_fault, opening, opening_in}
use Rattle.numerals.specs.Digits.{fitting}
use Rattle.numerals.specs.Writes.{Put}
use Rattle.numerals.proofs.Writes.{put_one, put_then, put_within}
use Rattle.numerals.proofs.Numerals.{put_no_room, put_room, put_fitting}
use Rattle.event_file.proofs.PanelText.{text_room, line_room}

-- ---- the line of a file's fault

module _ (a b c : List ℕ) (m k : ℕ) where
  -- room for the line is room for the word, so it was written; then the two numbers and the end
  pub fault_made : (word : List ℕ) (number detail : ℕ) → length word ≡ 7 → most_fault ≤ length a
      → Put a 0 (fitting (length a) 0 (length word) word) (length word) b m → Put b m (two_numbers number detail) 41 c k
      → Put a 0 (fault_line word number detail) most_fault (set c k 10) (k + 1)
  unfolding fault_line
  fault_made word number detail e h p q =
      let said : Put a 0 word (length word) b m = put_fitting a 0 (length word) word b m (omega arith) p in
      put_within most_fault (omega arith) (put_then (put_then said q) (put_one 10))

  -- the buffer keeps its length, whatever the two texts before the end are
  pub fault_long : (xs ys : List ℕ) (i j : ℕ) → Put a 0 xs i b m → Put b m ys j c k → length (set c k 10) ≡ length a
  fault_long xs ys i j p q = length-set c k 10 ∙ q.long ∙ p.long

pub ruleset faults = (rules, put_no_room, put_room)

-- ---- what stands before the first event

module _ (L : Layout) (a b : List ℕ) (m : ℕ) where
  module _ (p : Bool) (v : ℕ) (e : v ≡ most_line p) where
    -- no room: nothing is written
    pub opening_none : length a < v → Put a 0 (opening_in (length a) p L) (most_line p) a 0
    opening_none h = put_no_room a 0 (most_line p) (opening p L) (omega (arith, e))

    -- room, with the panel: the cold start's line
    pub opening_cold : v ≤ length a → p ≡ true → Put a 0 (line_of true (shown L cold) 0 0 0) (most_line true) b m → Put a 0 (opening_in (length a) p L) (most_line p) b m
    unfolding opening when◌then◌else◌
    opening_cold h t q = put_room a 0 (most_line p) (opening p L) b m (omega (arith, e)) (rw t q)

    -- room, without it: the header
    pub opening_header : v ≤ length a → p ≡ false → Put a 0 header 20 b m → Put a 0 (opening_in (length a) p L) (most_line p) b m
    unfolding opening when◌then◌else◌
    opening_header h t q =
        put_room a 0 (most_line p) (opening p L) b m (omega (arith, e))
        (rw t (put_within (most_line false) (omega (arith, text_room false, line_room false)) q))

-- with the panel, room for a line is room for the cold start's
pub cold_room : (p : Bool) (v n : ℕ) → v ≡ most_line p → v ≤ n → p ≡ true → most_line true ≤ n
cold_room p v n e h t = rw (← t) (omega (arith, e))

-- the header has room where any line has
pub header_room : (p : Bool) (v n : ℕ) → v ≡ most_line p → v ≤ n → 20 ≤ n
header_room p v n e h = omega (arith, e, text_room p, line_room p)

pub ruleset openings = (rules, opening_none, opening_cold, opening_header)
