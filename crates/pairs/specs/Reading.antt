-- What the readings of the conflicts give, told of what stands in the file (section 2).
use Rattle.std.specs.Prelude.{ℕ, ◌≡◌, Result}
use Rattle.numbers.specs.declared.Fault.{Fault}
use Rattle.fields.specs.Reading.{Reads}
use Rattle.pairs.specs.declared.Pair.{Pair}
use Rattle.pairs.specs.declared.place.Pairs.{Pairs as TableGiven}
use Rattle.pairs.specs.declared.Count.{Count}
use Rattle.pairs.specs.declared.PairRead.{PairRead}
use Rattle.pairs.specs.declared.Pairs.{Pairs}

-- the number of pairs
abbrev pub CountRead : Result ℕ Fault → ℕ → Count → Type 0
CountRead r at t = Reads r at t.cur (λ n. n ≡ t.pairs)

-- a pair
abbrev pub PairGiven : Result Pair Fault → ℕ → PairRead → Type 0
PairGiven r at t = Reads r at t.cur (λ p. p ≡ t.pair)

-- the pairs
abbrev pub PairsRead : Result TableGiven Fault → ℕ → Pairs → Type 0
PairsRead r at t = Reads r at t.cur (λ a. (a.last ≡ t.last) × (a.conflict ≡ t.conflict))
