-- No second result meets the contract of a public function. Each `Post` is the contract itself, as the function is proved to meet it.
use Rattle.laws.proofs.Only.{Determines, only}
use Rattle.axles.proofs.cold_heads.Reads as cold_heads_law
use Rattle.axles.proofs.are_speaking.Reads as are_speaking
use Rattle.axles.proofs.number_of.Reads as number_of_lem
use Rattle.axles.proofs.after.Reads as after
use Rattle.axles.proofs.reading.Reads as reading

-- The heads of a section at the cold start
pub cold_heads_determined : Determines cold_heads_law.Post
cold_heads_determined κs a r q s = only

-- Neither head is silent
pub are_speaking_determined : Determines are_speaking.Post
are_speaking_determined κs a r q s = only

-- The section's number
pub number_of_determined : Determines number_of_lem.Post
number_of_determined κs a r q s = only

-- What an event makes of the heads of its section
pub after_determined : Determines after.Post
after_determined κs a r q s = only

-- What the section reads
pub reading_determined : Determines reading.Post
reading_determined κs a r q s = only
