-- The bytes from the first place to the one that is reached are at the front.
use Prim.Native.Nat.{◌+◌}
use mathlib.Core.Path.{◌≡◌}
use lib.ListN.{take}
use Rattle.numerals.specs.Writes.{Put}
use Rattle.event_file.specs.Writes.{rest}
use Rattle.event_file.proofs.pieces.bring_rest.Given as goal

abbrev pub invariant-loop-at : goal.invariant-loop-at
invariant-loop-at l = (l.at ≡ l.from + l.n) × Put l.fn.buf 0 (take l.n (rest l.from l.till l.fn.buf)) l.n l.buf l.n
