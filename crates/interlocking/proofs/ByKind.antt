-- One step by each kind of its own.
use Prim.Native.Nat.{ℕ}
use mathlib.Core.Path.{◌≡◌, refl}
use Rattle.laws.specs.Choice.{when◌then◌else◌}
use Rattle.laws.specs.Tests.{◌and◌}
use Rattle.layout.specs.declared.Layout.{Layout}
use Rattle.layout.specs.Sound.{sound}
use Rattle.interlocking.specs.declared.State.{State}
use Rattle.interlocking.specs.declared.Answer.{Answer}
use Rattle.interlocking.specs.State.{in_range}
use Rattle.interlocking.specs.Own.{heads_of, heads_by}
use Rattle.interlocking.specs.Rows.{Row, section_row, point_row, throw_row, set_row, cancel_row, secure_row, manual_row, bar_row, second_row, count_row, silent_row, reset_row, lamp_row, row_with, row_of}
use Rattle.interlocking.specs.Step.{answered_by, step_where, step}

-- the answer by a row
abbrev by_row : Layout → State → ℕ → Row → Answer
by_row L s a row = answered_by (sound L and in_range s) L s a row

module _ (L : Layout) (s : State) (a b : ℕ) where
  -- 1
  pub kind_1 : step L s 1 a b ≡ by_row L s a (section_row L s a b)
  unfolding step step_where row_of row_with when◌then◌else◌
  kind_1 = refl

  -- 2
  pub kind_2 : step L s 2 a b ≡ by_row L s a (point_row L s a b)
  unfolding step step_where row_of row_with when◌then◌else◌
  kind_2 = refl

  -- 3
  pub kind_3 : step L s 3 a b ≡ by_row L s a (throw_row L s a b)
  unfolding step step_where row_of row_with when◌then◌else◌
  kind_3 = refl

  -- 4
  pub kind_4 : step L s 4 a b ≡ by_row L s a (set_row L s a b)
  unfolding step step_where row_of row_with when◌then◌else◌
  kind_4 = refl

  -- 5
  pub kind_5 : step L s 5 a b ≡ by_row L s a (cancel_row L s a b)
  unfolding step step_where row_of row_with when◌then◌else◌
  kind_5 = refl

  -- 6
  pub kind_6 : step L s 6 a b ≡ by_row L s a (secure_row L s a b)
  unfolding step step_where row_of row_with when◌then◌else◌
  kind_6 = refl

  -- 7
  pub kind_7 : step L s 7 a b ≡ by_row L s a (manual_row L s a b)
  unfolding step step_where row_of row_with when◌then◌else◌
  kind_7 = refl

  -- 8
  pub kind_8 : step L s 8 a b ≡ by_row L s a (bar_row 1 L s a b)
  unfolding step step_where row_of row_with when◌then◌else◌
  kind_8 = refl

  -- 9
  pub kind_9 : step L s 9 a b ≡ by_row L s a (bar_row 0 L s a b)
  unfolding step step_where row_of row_with when◌then◌else◌
  kind_9 = refl

  -- 10
  pub kind_10 : step L s 10 a b ≡ by_row L s a (second_row s a b)
  unfolding step step_where row_of row_with when◌then◌else◌
  kind_10 = refl

  -- 11
  pub kind_11 : step L s 11 a b ≡ by_row L s a (count_row L s (heads_by (heads_of s 11 a) 11 a b) a b)
  unfolding step step_where row_of row_with when◌then◌else◌
  kind_11 = refl

  -- 12
  pub kind_12 : step L s 12 a b ≡ by_row L s a (count_row L s (heads_by (heads_of s 12 a) 12 a b) a b)
  unfolding step step_where row_of row_with when◌then◌else◌
  kind_12 = refl

  -- 13
  pub kind_13 : step L s 13 a b ≡ by_row L s a (silent_row L s (heads_by (heads_of s 13 a) 13 a b) a b)
  unfolding step step_where row_of row_with when◌then◌else◌
  kind_13 = refl

  -- 14
  pub kind_14 : step L s 14 a b ≡ by_row L s a (reset_row L s (heads_of s 14 a) (heads_by (heads_of s 14 a) 14 a b) a b)
  unfolding step step_where row_of row_with when◌then◌else◌
  kind_14 = refl

  -- 15
  pub kind_15 : step L s 15 a b ≡ by_row L s a (lamp_row L s a b)
  unfolding step step_where row_of row_with when◌then◌else◌
  kind_15 = refl

-- for the method of each kind
pub ruleset kinds = (kind_1, kind_2, kind_3, kind_4, kind_5, kind_6, kind_7, kind_8, kind_9, kind_10, kind_11, kind_12, kind_13, kind_14, kind_15)
