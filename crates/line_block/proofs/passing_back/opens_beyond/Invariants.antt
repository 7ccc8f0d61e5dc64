-- What lies beyond the block counted d opens where what lies beyond the one counted c does, whatever entrance routes were released.
use Prim.Native.Nat.{ℕ}
use mathlib.Core.Bool.{Bool}
use mathlib.Core.Path.{◌≡◌}
use Rattle.line_block.specs.PassingBack.{goes_open, opens_beyond}
use Rattle.line_block.proofs.passing_back.opens_beyond.Given as goal

abbrev pub invariant-loop-c : goal.invariant-loop-c
invariant-loop-c l =
    (f : ℕ → ℕ → Bool)
    → opens_beyond l.b l.now.stage.now (goes_open l.before.stage.now l.now.stage.now) f l.l l.w l.d
    ≡ opens_beyond l.b l.now.stage.now (goes_open l.before.stage.now l.now.stage.now) f l.l l.w l.c
