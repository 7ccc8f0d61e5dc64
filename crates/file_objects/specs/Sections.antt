-- The points of the layout file: for each its own section (section 2).
use Rattle.std.specs.Prelude.{ℕ, List, set, replicate}
use Rattle.laws.specs.Tables.{iter}
use Rattle.track.specs.Sizes.{most_points}
use Rattle.fields.specs.declared.Cursor.{Cursor}
use Rattle.fields.specs.Fields.{code, reference}
use Rattle.file_objects.specs.declared.Owned.{Owned}

-- no point has a section
unfoldable pub no_sections : List ℕ
no_sections = replicate most_points 0

-- the own section of the i-th point
unfoldable pub section_turn : List ℕ → ℕ → ℕ → Owned → Owned
section_turn s objects i t =
    let d : Cursor = reference s t.cur objects in
    record { cur = d; count = t.count; section = set t.section i d.value }

-- points 0..32; for each its own section
unfoldable pub sections : List ℕ → Cursor → ℕ → Owned
sections s c objects =
    let d : Cursor = code s c 0 most_points in
    iter (section_turn s objects) d.value (record { cur = d; count = d.value; section = no_sections })
