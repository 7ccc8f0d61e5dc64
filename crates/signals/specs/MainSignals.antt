-- What a main signal shows (section 4), over the n routes and their phases.
use Rattle.std.specs.Prelude.{ℕ, List, eqb, ltb}
use Rattle.laws.specs.Choice.{when◌then◌else◌}
use Rattle.laws.specs.Tests.{lowest}
use Rattle.track.specs.declared.Route.{Route}
use Rattle.track.specs.Objects.{route}
use Rattle.signals.specs.Aspects.{stop, proceed_diverging, proceed}
use Rattle.signals.specs.Signals.{route_proceeds}

-- section 4: the signal of a set route shows 21 (diverging) or 22
unfoldable pub proceed_shown : Route → ℕ
proceed_shown a = when eqb a.diverging 1 then proceed_diverging else proceed

-- the route for which main signal x shows proceed: the lowest of n; n where there is none.
-- Routes with one entry signal conflict, so in a run there is at most one; in a state assembled by hand the lowest decides
unfoldable pub shown_by : ℕ → List Route → List ℕ → ℕ → ℕ
shown_by n rs phases x = lowest n (λ r. route_proceeds phases r (route rs r) x)

-- what a main signal shows for route r: 20 where that is none of n
unfoldable pub shown_for : ℕ → List Route → ℕ → ℕ
shown_for n rs r = when ltb r n then proceed_shown (route rs r) else stop

-- section 4: what main signal x shows
unfoldable pub main_shows : ℕ → List Route → List ℕ → ℕ → ℕ
main_shows n rs phases x = shown_for n rs (shown_by n rs phases x)
