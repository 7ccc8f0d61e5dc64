-- One more, as far as 64 bits go.
use native.Mathlib.Omega.{arith}
use mathlib.Core.Path.{◌≡◌}
use borrow.Author.Tests.{ltb-true, ltb-false}
use lib.Dec.{ltb}
use Rattle.laws.proofs.Choice.{if_both}
use Rattle.event_file.specs.Lines.{next_count}
use Rattle.event_file.proofs.pieces.next_count.Goals as goal

pub returns : goal.returns
unfolding next_count
returns c =
    if_both (λ n. c.saturating_add.result ≡ n) (ltb c.args.n 18446744073709551615) (λ e. omega (arith, ltb-true c.args.n 18446744073709551615 e))
    (λ e. omega (arith, ltb-false c.args.n 18446744073709551615 e))
