-- The lowest number in a set, and the set of the numbers of which a test holds (request L4).
use Rattle.std.specs.Prelude.{ℕ, Bool}
use Rattle.laws.specs.Choice.{when◌then◌else◌}
use Rattle.laws.specs.Tests.{lowest}
use Rattle.laws.specs.Tables.{iter}
use Rattle.sets.specs.Sets.{holds, joined}

-- the lowest number in the set; 64 where there is none
unfoldable pub lowest_in : ℕ → ℕ
lowest_in set = lowest 64 (holds set)

-- the set with g in it where the test holds, else as it was
unfoldable pub joined_if : Bool → ℕ → ℕ → ℕ
joined_if test set g = when test then joined set g else set

-- the set of the numbers f i, for i of 0 .. n - 1, where the test holds of i; those of 64 or more are left out
unfoldable pub set_where : ℕ → (ℕ → Bool) → (ℕ → ℕ) → ℕ
set_where n test f = iter (λ i set. joined_if (test i) set (f i)) n 0
