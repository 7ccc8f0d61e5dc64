-- Loading a layout file: the first fault met, or the layout (section 2).
use Rattle.std.specs.Prelude.{ℕ, List, eqb, length}
use Rattle.laws.specs.Choice.{when◌then◌else◌}
use Rattle.fields.specs.declared.Cursor.{Cursor}
use Rattle.fields.specs.Fields.{code}
use Rattle.track.specs.declared.Counts.{Counts}
use Rattle.track.specs.Sizes.{most_sections, most_signals, last_version}
use Rattle.track.specs.SignalNumbers.{signal_count}
use Rattle.file_objects.specs.declared.Owned.{Owned}
use Rattle.file_objects.specs.declared.Lines.{Lines}
use Rattle.file_objects.specs.declared.distants.Distants.{Distants}
use Rattle.file_objects.specs.declared.Routes.{Routes}
use Rattle.file_objects.specs.Sections.{sections}
use Rattle.file_objects.specs.Lines.{lines}
use Rattle.file_objects.specs.Distants.{distants}
use Rattle.file_objects.specs.Routes.{routes}
use Rattle.pairs.specs.declared.Pairs.{Pairs}
use Rattle.pairs.specs.Pairs.{pairs}
use Rattle.layout.specs.Records.{Loaded}
use Rattle.layout.specs.Records.{Heading}
use Rattle.layout.specs.Records.{Whole}
use Rattle.layout.specs.Layout.{none_fitted, no_layout}
use Rattle.layout.specs.Rules.{broken}

-- the file's first byte
abbrev pub start : Cursor
start = record { at = 0; fault = 0; value = 0 }

-- version, 1 or, from L2 on, 2; number of sections, 1..64; points, each with its own section; number of signals, 0..32
unfoldable pub heading : List ℕ → Heading
heading s =
    let version : Cursor = code s start 1 last_version in
    let b : Cursor = code s version 1 most_sections in
    let p : Owned = sections s b b.value in
    let d : Cursor = code s p.cur 0 most_signals in
    record { cur = d; version = version.value; sections = b.value; points = p.count; pointsection = p.section; signals = d.value }

-- the objects that lines and routes may refer to
unfoldable pub counts_of : Heading → ℕ → Counts
counts_of h lines = record { sections = h.sections; points = h.points; signals = h.signals; lines = lines }

-- a layout from its parts, and the table of heads
abbrev pub whole_of : Heading → Lines → Distants → Routes → Pairs → List ℕ → Whole
whole_of h l d r p fitted = record {
  cur = p.cur;
  layout = record {
    version = h.version;
    sections = h.sections;
    points = h.points;
    pointsection = h.pointsection;
    signals = h.signals;
    lines = l.count;
    line = l.line;
    distants = d.count;
    carrier = d.carrier;
    announced = d.announced;
    routes = r.count;
    route = r.route;
    conflict = p.conflict;
    fitted = fitted;
    lacking = 0;
  };
}

-- then lines, distants (L2), routes and conflicts; a file tells of no heads (L1)
unfoldable pub whole : List ℕ → Whole
whole s =
    let h : Heading = heading s in
    let l : Lines = lines s (counts_of h 0) h.cur in
    let d : Distants = distants s h.version (signal_count h.signals l.count l.line) l.cur in
    let r : Routes = routes s (counts_of h l.count) d.cur in
    whole_of h l d r (pairs s r.count r.cur) none_fitted

-- a refused load gives the layout with no objects
unfoldable pub refused : ℕ → ℕ → Loaded
refused number detail = record { number = number; detail = detail; layout = no_layout }

-- the first fault met with its place; 26 bytes left over, at the first of them; then 25 with the rule's number; else 0
unfoldable pub finished : Whole → ℕ → Loaded
finished w n =
    when eqb w.cur.fault 0 then
    (when eqb w.cur.at n then
    (when eqb (broken w.layout) 0 then record { number = 0; detail = 0; layout = w.layout } else refused 25 (broken w.layout))
    else refused 26 w.cur.at)
    else refused w.cur.fault w.cur.at

-- loading answers 0, detail 0 and the layout, or the first fault met
unfoldable pub load : List ℕ → Loaded
load s = finished (whole s) (length s)
