-- What a distant shows (L2): it warns drivers of its main signal.
use Rattle.std.specs.Prelude.{ℕ, ◌+◌, ◌-◌, ◌≡◌, ◌⊎◌, Bool, not, eqb}
use Rattle.laws.specs.Choice.{when◌then◌else◌}
use Rattle.laws.specs.Tests.{◌and◌, ◌or◌}
use Rattle.signals.specs.Aspects.{dark, stop, proceed_diverging, proceed, warns_of_stop, warns_of_diverging, warns_of_proceed}

-- L2: "23 when that shows 20, 24 at 21, 25 at 22, dark when it is dark"
unfoldable pub warning : ℕ → ℕ
warning x = when eqb x stop then warns_of_stop else when eqb x proceed_diverging then warns_of_diverging else when eqb x proceed then warns_of_proceed else dark

-- the signal is at stop or dark
unfoldable pub stop_or_dark : ℕ → Bool
stop_or_dark x = eqb x stop or eqb x dark

-- L2: "on a main or block signal's mast also dark while that signal is at stop or dark". The carrier is 0 if the distant is free-standing, else the carrying
-- signal's number plus 1; shown says what the signal of each number shows
unfoldable pub carrier_darkens : (ℕ → ℕ) → ℕ → Bool
carrier_darkens shown carrier = not (eqb carrier 0) and stop_or_dark (shown (carrier - 1))

-- L2: what a distant shows
unfoldable pub distant_shows : (ℕ → ℕ) → ℕ → ℕ → ℕ
distant_shows shown carrier announced = when carrier_darkens shown carrier then dark else warning (shown announced)

-- ---- what that means for a driver

-- a distant that shows v is never more permissive than its main signal, the one announced; on the mast of a signal at stop or dark it is dark; and it shows
-- 23, 24, 25 or nothing (L2)
pub record Warns (shown : ℕ → ℕ) (carrier announced v : ℕ) : Type 0 where
  pub of_stop : v ≡ warns_of_stop → shown announced ≡ stop
  pub of_diverging : v ≡ warns_of_diverging → shown announced ≡ proceed_diverging
  pub of_proceed : v ≡ warns_of_proceed → shown announced ≡ proceed
  pub carried : (k : ℕ) → carrier ≡ k + 1 → (shown k ≡ stop) ⊎ (shown k ≡ dark) → v ≡ dark
  pub only : (v ≡ dark) ⊎ (v ≡ warns_of_stop) ⊎ (v ≡ warns_of_diverging) ⊎ (v ≡ warns_of_proceed)
