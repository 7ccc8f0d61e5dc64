-- What loading answers, in one number.
use Rattle.std.specs.Prelude.{ℕ, ◌+◌, ◌*◌, ◌%◌, get_or}
use Rattle.track.specs.Objects.{route}
use Rattle.layout.specs.Records.{Loaded}

-- the answer in the lowest byte, then 16 bits of the detail, then the overlap section at a place of a route
abbrev pub packed : Loaded → ℕ → ℕ → ℕ
packed l r place = l.number + 256 * (l.detail % 65536) + 16777216 * get_or (route l.layout.route r).overlap place 0
