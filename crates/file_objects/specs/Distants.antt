-- The distants of the layout file (L2).
use Rattle.std.specs.Prelude.{ℕ, Bool, List, ltb, set, replicate}
use Rattle.laws.specs.Choice.{when◌then◌else◌}
use Rattle.laws.specs.Tables.{iter}
use Rattle.fields.specs.declared.Cursor.{Cursor}
use Rattle.fields.specs.Fields.{code, reference, none_or_reference}
use Rattle.track.specs.Sizes.{most_distants}
use Rattle.file_objects.specs.declared.distants.Distants.{Distants}

-- the first version that lists distants
abbrev pub distants_version : ℕ
distants_version = 2

-- a file of a version before that has no list of them
abbrev pub lists_none : ℕ → Bool
lists_none version = ltb version distants_version

-- the most distants of a version: version 1 has none
unfoldable pub most_distants_of : ℕ → ℕ
most_distants_of version = when lists_none version then 0 else most_distants

-- no distants
unfoldable pub no_distants : List ℕ
no_distants = replicate most_distants 0

-- none, where the next number stands at c
unfoldable pub without_distants : Cursor → Distants
without_distants c = record { cur = c; count = 0; carrier = no_distants; announced = no_distants }

-- what is read of a distant, of so many signals: 0 if free-standing or the carrying signal plus 1
abbrev pub carrier_read : List ℕ → ℕ → Cursor → Cursor
carrier_read s signals c = none_or_reference s c signals

-- then the signal announced
abbrev pub announced_read : List ℕ → ℕ → Cursor → Cursor
announced_read s signals c = reference s (carrier_read s signals c) signals

-- the i-th distant
unfoldable pub distant_turn : List ℕ → ℕ → ℕ → Distants → Distants
distant_turn s signals i t = record {
  cur = announced_read s signals t.cur;
  count = t.count;
  carrier = set t.carrier i (carrier_read s signals t.cur).value;
  announced = set t.announced i (announced_read s signals t.cur).value;
}

-- as many distants as the number read last says
unfoldable pub distants_from : List ℕ → ℕ → Cursor → Distants
distants_from s signals c = iter (distant_turn s signals) c.value (record { cur = c; count = c.value; carrier = no_distants; announced = no_distants })

-- version 2 lists up to 32 distants; version 1 reads as having none
unfoldable pub distants : List ℕ → ℕ → ℕ → Cursor → Distants
distants s version signals c = when lists_none version then without_distants c else distants_from s signals (code s c 0 most_distants)
