-- The lines of the layout file (section 2).
use Rattle.std.specs.Prelude.{ℕ, List, set, replicate}
use Rattle.laws.specs.Tables.{iter}
use Rattle.fields.specs.declared.Cursor.{Cursor}
use Rattle.fields.specs.declared.Items.{Items}
use Rattle.fields.specs.declared.Points.{Points}
use Rattle.fields.specs.Fields.{code, reference}
use Rattle.fields.specs.Lists.{items, points}
use Rattle.track.specs.declared.Counts.{Counts}
use Rattle.track.specs.declared.Line.{Line}
use Rattle.track.specs.Sizes.{most_lines, most_blocks}
use Rattle.track.specs.Objects.{no_line}
use Rattle.file_objects.specs.declared.OneLine.{OneLine}
use Rattle.file_objects.specs.declared.Lines.{Lines}

-- a line from its parts
abbrev pub line_of : Items → Cursor → Cursor → Cursor → Cursor → Points → OneLine
line_of b innera innerb entrancea entranceb p = record {
  cur = p.cur;
  line = record {
    blocks = b.count;
    block = b.item;
    innera = innera.value;
    innerb = innerb.value;
    entrancea = entrancea.value;
    entranceb = entranceb.value;
    points = p.count;
    point = p.point;
    position = p.position;
  };
}

-- blocks 1..8 and their sections from end A to end B, inner section at A, at B, entrance signal at A, at B, points
unfoldable pub a_line : List ℕ → Counts → Cursor → OneLine
a_line s n c =
    let b : Items = items s c 1 most_blocks n.sections in
    let innera : Cursor = reference s b.cur n.sections in
    let innerb : Cursor = reference s innera n.sections in
    let entrancea : Cursor = reference s innerb n.signals in
    let entranceb : Cursor = reference s entrancea n.signals in
    line_of b innera innerb entrancea entranceb (points s entranceb n.points)

-- no lines
unfoldable pub no_lines : List Line
no_lines = replicate most_lines no_line

-- the i-th line
unfoldable pub line_turn : List ℕ → Counts → ℕ → Lines → Lines
line_turn s n i t =
    let a : OneLine = a_line s n t.cur in
    record { cur = a.cur; count = t.count; line = set t.line i a.line }

-- as many lines as the number read last says
unfoldable pub lines_from : List ℕ → Counts → Cursor → Lines
lines_from s n c = iter (line_turn s n) c.value (record { cur = c; count = c.value; line = no_lines })

-- lines, 0..8
unfoldable pub lines : List ℕ → Counts → Cursor → Lines
lines s n c = lines_from s n (code s c 0 most_lines)
