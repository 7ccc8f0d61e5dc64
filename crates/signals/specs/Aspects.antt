-- What a signal shows, by the paper's numbers (sections 4 and 7).
use Rattle.std.specs.Prelude.{ℕ}

-- dark, or absent
abbrev pub dark : ℕ
dark = 0

abbrev pub stop : ℕ
stop = 20

abbrev pub proceed_diverging : ℕ
proceed_diverging = 21

abbrev pub proceed : ℕ
proceed = 22

-- what a distant shows while its main signal shows 20, 21, 22 (L2)
abbrev pub warns_of_stop : ℕ
warns_of_stop = 23

abbrev pub warns_of_diverging : ℕ
warns_of_diverging = 24

abbrev pub warns_of_proceed : ℕ
warns_of_proceed = 25
