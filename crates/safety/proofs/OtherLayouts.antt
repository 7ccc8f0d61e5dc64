-- The layouts beside branch T, computed over their bytes: these load, and each of those breaks one rule and nothing else.
use mathlib.Core.Path.{◌≡◌, refl}
use mathlib.Core.Bool.{true, false}
use mathlib.Core.List.{[], ◌∷◌}
use Rattle.layout.specs.Load.{load, whole}
use Rattle.safety.specs.OtherLayouts.{
  two_blocks,
  with_distants,
  three_and_two,
  two_lines,
  two_exits,
  both_ends,
  with_overlap,
  with_line_point,
  inner_is_block,
  shared_block,
  shared_second,
  shared_entrance,
  inner_passed_by,
  unlisted_exits,
  announces_itself,
  kept,
}
use Rattle.safety.proofs.Computed.{run_computed, distants_computed}

-- they are accepted
pub others_load : ((load two_blocks).number ≡ 0) × ((load two_lines).number ≡ 0) × ((load two_exits).number ≡ 0) × ((load with_overlap).number ≡ 0)
    × ((load with_line_point).number ≡ 0) × ((load with_distants).number ≡ 0) × ((load three_and_two).number ≡ 0) × ((load both_ends).number ≡ 0)
unfolding run_computed distants_computed
others_load = (refl, refl, refl, refl, refl, refl, refl, refl)

-- these break rule 1 and keep the rest
pub rule_1_off : (kept (whole inner_is_block).layout ≡ false ∷ true ∷ true ∷ true ∷ true ∷ true ∷ true ∷ [])
    × (kept (whole shared_block).layout ≡ false ∷ true ∷ true ∷ true ∷ true ∷ true ∷ true ∷ [])
    × (kept (whole shared_second).layout ≡ false ∷ true ∷ true ∷ true ∷ true ∷ true ∷ true ∷ [])
unfolding run_computed
rule_1_off = (refl, refl, refl)

-- this one rule 2
pub rule_2_off : kept (whole shared_entrance).layout ≡ true ∷ false ∷ true ∷ true ∷ true ∷ true ∷ true ∷ []
unfolding run_computed
rule_2_off = refl

-- this one rule 5
pub rule_5_off : kept (whole inner_passed_by).layout ≡ true ∷ true ∷ true ∷ true ∷ false ∷ true ∷ true ∷ []
unfolding run_computed
rule_5_off = refl

-- this one rule 6
pub rule_6_off : kept (whole unlisted_exits).layout ≡ true ∷ true ∷ true ∷ true ∷ true ∷ false ∷ true ∷ []
unfolding run_computed
rule_6_off = refl

-- this one rule 7
pub rule_7_off : kept (whole announces_itself).layout ≡ true ∷ true ∷ true ∷ true ∷ true ∷ true ∷ false ∷ []
unfolding run_computed distants_computed
rule_7_off = refl

-- for nothing else are they refused: 25 comes after all other faults
pub only_by_rules : ((load inner_is_block).number ≡ 25) × ((load shared_block).number ≡ 25) × ((load shared_second).number ≡ 25) × ((load shared_entrance).number ≡ 25)
    × ((load inner_passed_by).number ≡ 25) × ((load unlisted_exits).number ≡ 25) × ((load announces_itself).number ≡ 25)
unfolding run_computed distants_computed
only_by_rules = (refl, refl, refl, refl, refl, refl, refl)
