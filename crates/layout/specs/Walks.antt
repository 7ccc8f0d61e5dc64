-- How the code walks through pairs of routes. What the rules say stands in Rules.
use Rattle.std.specs.Prelude.{ℕ, Bool, List, eqb, get_or}
use Rattle.laws.specs.Tests.{implies}
use Rattle.laws.specs.Tables.{table}
use Rattle.track.specs.declared.Route.{Route}
use Rattle.track.specs.Sizes.{most_train_routes}
use Rattle.track.specs.Objects.{route}
use Rattle.rules.specs.declared.Reach.{Reach}
use Rattle.rules.specs.Sets.{reach_of, clashing}
use Rattle.layout.specs.Layout.{entry_of}

-- nothing that rule 6 could ask for
unfoldable pub no_reach : Reach
no_reach = record { entry = 0; path = 0; left = 0; right = 0 }

-- what rule 6 asks of each route
unfoldable pub reaches : List Route → List Reach
reaches rs = table most_train_routes (λ r. reach_of (route rs r))

-- rule 6 for the routes r and q
unfoldable pub pair_keeps : List ℕ → ℕ → ℕ → Reach → Reach → Bool
pair_keeps m r q a b = implies (clashing a b) (eqb (entry_of m r q) 1)

-- and by the table
unfoldable pub row_keeps : List ℕ → List Reach → ℕ → ℕ → Bool
row_keeps m t r q = pair_keeps m r q (get_or t r no_reach) (get_or t q no_reach)
