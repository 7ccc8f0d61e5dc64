-- Totals over the numbers 0 to n - 1, and how many of them pass a test.
use Rattle.std.specs.Prelude.{ℕ, zero, suc, ◌+◌, Bool}
use Rattle.laws.specs.Choice.{when◌then◌else◌}

-- f 0 + f 1 + .. + f (n - 1)
unfoldable pub total : ℕ → (ℕ → ℕ) → ℕ
total zero f = 0
total (suc n) f = total n f + f n

-- 1 where a test holds, else 0
unfoldable pub bit : Bool → ℕ
bit t = when t then 1 else 0

-- of 0 .. n - 1 so many pass
unfoldable pub count : ℕ → (ℕ → Bool) → ℕ
count n p = total n (λ g. bit (p g))
