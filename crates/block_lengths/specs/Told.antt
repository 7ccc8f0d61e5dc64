-- What the code tells, in the terms of the definitions. This follows the code: a Result for the lengths, an Option for a column.
use Rattle.std.specs.Prelude.{ℕ, ltb, Option, Some, None, Result, Ok, Err}
use Rattle.laws.specs.Choice.{when◌then◌else◌}
use Rattle.block_lengths.specs.declared.BlockLengths.{BlockLengths}
use Rattle.block_lengths.specs.declared.LengthsAnswer.{LengthsAnswer}
use Rattle.block_lengths.specs.declared.Refusal.{Refusal}
use Rattle.block_lengths.specs.declared.Refusal.TheVariants.{BadHeadway, BadSpeed}
use Rattle.block_lengths.specs.Lengths.{refusal}

-- the refusals: 28 the headway, 29 the speed
abbrev pub refusal_number : Refusal → ℕ
refusal_number BadHeadway = 28
refusal_number BadSpeed = 29

-- 0 with the lengths, or the refusal's number with a record of zeros
abbrev pub told : Result BlockLengths Refusal → LengthsAnswer
told (Ok b) = record { number = 0; lengths = b }
told (Err e) = refusal (refusal_number e)

-- a column of the six, and none past them
unfoldable pub column_found : ℕ → Option ℕ
column_found k = when ltb k 6 then Some k else None
