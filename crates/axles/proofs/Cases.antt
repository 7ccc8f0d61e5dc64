-- Short runs of one section's heads, computed from the cold start: what the section reads after each event, and its number.
use Rattle.std.proofs.Common.{◌≡◌, [], ◌∷◌, ◌++◌, pos, negsuc, refl}
use Rattle.laws.specs.Choice.{when◌then◌else◌}
use Rattle.laws.specs.Tests.{◌and◌}
use Rattle.axles.specs.Rounds.{around, signed}
use Rattle.axles.specs.Heads.{silent_head, cold_heads, head_after, speaks, speaking, net, number, reading_of, occupies, resets, sum_after, proof_after, told, with_proof, proves, judged, axles_after, known, axles_reading}
use Rattle.axles.specs.Cases.{readings, numbers, started, at_the_end, rolls_over, ends, silence}

-- a count that rolls over at the reset: 65,535, then 1, is number 2
pub rolls_over_law : (readings cold_heads (at_the_end ++ rolls_over) ≡ 3 ∷ 3 ∷ 3 ∷ 3 ∷ 3 ∷ 2 ∷ 2 ∷ 1 ∷ 3 ∷ 1 ∷ [])
    × (numbers cold_heads (at_the_end ++ rolls_over) ≡ negsuc 0 ∷ negsuc 7 ∷ negsuc 7 ∷ negsuc 16 ∷ pos 0 ∷ pos 2 ∷ pos 1 ∷ pos 0 ∷ negsuc 0 ∷ pos 0 ∷ [])
unfolding readings numbers axles_reading known axles_after judged proves with_proof told proof_after sum_after resets occupies reading_of number net speaking speaks head_after cold_heads silent_head signed around when◌then◌else◌ ◌and◌
rolls_over_law = (refl, refl)

-- 0 reads none until the reset is proved; then 255 is occupied, 256, 32,767, -32,768 and -1 none, and 0 free
pub at_the_ends : (readings cold_heads (started ++ ends) ≡ 3 ∷ 3 ∷ 3 ∷ 3 ∷ 3 ∷ 3 ∷ 2 ∷ 3 ∷ 3 ∷ 3 ∷ 3 ∷ 1 ∷ [])
    × (numbers cold_heads (started ++ ends) ≡ pos 0 ∷ pos 0 ∷ pos 0 ∷ pos 0 ∷ pos 0 ∷ pos 0 ∷ pos 255 ∷ pos 256 ∷ pos 32767 ∷ negsuc 32767 ∷ negsuc 0 ∷ pos 0 ∷ [])
unfolding readings numbers axles_reading known axles_after judged proves with_proof told proof_after sum_after resets occupies reading_of number net speaking speaks head_after cold_heads silent_head signed around when◌then◌else◌ ◌and◌
at_the_ends = (refl, refl)

-- silence keeps the last reset and its proof: with both counts back the section reads free at once, and a reset then gives none
pub silence_keeps_the_proof : readings cold_heads (started ++ silence) ≡ 3 ∷ 3 ∷ 3 ∷ 3 ∷ 3 ∷ 2 ∷ 3 ∷ 3 ∷ 3 ∷ 1 ∷ 3 ∷ []
unfolding readings axles_reading known axles_after judged proves with_proof told proof_after sum_after resets occupies reading_of number net speaking speaks head_after cold_heads silent_head signed around when◌then◌else◌ ◌and◌
silence_keeps_the_proof = refl
