-- The entry of each route before i is made.
use Rattle.track.specs.Sizes.{most_train_routes}
use Rattle.track.specs.Objects.{route}
use Rattle.laws.proofs.Tables.{Filled}
use Rattle.rules.specs.Sets.{reach_of}
use Rattle.layout.proofs.pairs_of_routes.reach_table.Given as goal

abbrev pub invariant-loop-i : goal.invariant-loop-i
invariant-loop-i l = Filled most_train_routes (λ k. reach_of (route l.rs k)) l.t l.i
