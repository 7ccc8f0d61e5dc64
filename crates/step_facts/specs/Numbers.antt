-- The numbers of the answers to events.
use Rattle.std.specs.Prelude.{ℕ, ◌≤◌, ◌≡◌, ◌⊎◌}

-- where layout and state are sound: 0, the refusals of section 3 below 18, those of axle counters (L1): 30 no heads, 34 heads, 35 a head is silent, and
-- that of lamps (L3): 31 a lamp reports none
unfoldable pub OfEvents : ℕ → Type 0
OfEvents n = (n ≤ 17) ⊎ (n ≡ 30) ⊎ (n ≡ 31) ⊎ (n ≡ 34) ⊎ (n ≡ 35)
