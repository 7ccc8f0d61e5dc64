-- A turn is one of as many as the count says, which is in its range.
use native.Mathlib.Omega.{arith}
use Rattle.fields.proofs.Ranges.{code_most}
use Rattle.file_objects.proofs.distants.read_distants.Goals as goal

pub bounds-t-i : goal.bounds-t-i
bounds-t-i c = omega (arith, code_most _ _ _ _ c.read_code-t.ensures)

pub bounds-t-i-in-loop-i : goal.bounds-t-i-in-loop-i
bounds-t-i-in-loop-i c = omega (arith, code_most _ _ _ _ c.read_code-t.ensures)
