-- Words in ASCII.
use Rattle.std.specs.Prelude.{ℕ, List, [] as none, ◌∷◌ as ◌then◌}
use Prim.Native.Char.{code}
use Prim.Native.String.{String, [], ◌∷◌}

-- the bytes of a text
unfoldable pub ascii : String → List ℕ
ascii [] = none
ascii (c ∷ s) = code c then ascii s
