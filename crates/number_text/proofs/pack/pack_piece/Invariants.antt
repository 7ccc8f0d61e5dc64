-- The bytes so far are read, and their numbers are written.
use Prim.Native.Nat.{◌*◌, ◌≤◌}
use mathlib.Core.Path.{◌≡◌}
use lib.ListN.{length, take}
use Rattle.numerals.specs.Writes.{Put}
use Rattle.number_text.specs.Text.{reader_after, packed}
use Rattle.number_text.proofs.pack.pack_piece.Given as goal

abbrev pub invariant-loop-byte : goal.invariant-loop-byte
invariant-loop-byte l =
    (l.byte-index ≤ length l.byte-items) × (l.reader ≡ reader_after l.fn.s (take l.byte-index l.byte-items))
    × Put l.fn.out 0 (packed l.fn.s (take l.byte-index l.byte-items)) (3 * l.byte-index) l.out l.written
