-- The routes of the layout file (section 2).
use Rattle.std.specs.Prelude.{ℕ, List, eqb, set, replicate}
use Rattle.laws.specs.Choice.{when◌then◌else◌}
use Rattle.laws.specs.Tables.{iter}
use Rattle.fields.specs.declared.Cursor.{Cursor}
use Rattle.fields.specs.declared.Items.{Items}
use Rattle.fields.specs.declared.Points.{Points}
use Rattle.fields.specs.Fields.{code, reference}
use Rattle.fields.specs.Lists.{items, points}
use Rattle.track.specs.declared.Counts.{Counts}
use Rattle.track.specs.declared.Route.{Route}
use Rattle.track.specs.Codes.{end_a, inner_route}
use Rattle.track.specs.Sizes.{most_train_routes, most_listed, most_overlap}
use Rattle.track.specs.Objects.{no_route}
use Rattle.file_objects.specs.declared.End.{End}
use Rattle.file_objects.specs.declared.Head.{Head}
use Rattle.file_objects.specs.declared.OneRoute.{OneRoute}
use Rattle.file_objects.specs.declared.Routes.{Routes}

-- the line and the end (0 is A, 1 is B)
unfoldable pub an_end : List ℕ → Cursor → ℕ → End
an_end s c lines =
    let a : Cursor = reference s c lines in
    let b : Cursor = code s a 0 1 in
    record { cur = b; line = a.value; end = b.value }

-- then for kinds 1 and 2 the line and the end; the kind is the number read last
unfoldable pub line_and_end : List ℕ → Cursor → ℕ → End
line_and_end s c lines = when eqb c.value inner_route then record { cur = c; line = 0; end = end_a } else an_end s c lines

-- entry signal, kind (0 inner, 1 entrance, 2 exit), line and end, diverging 0 or 1
unfoldable pub route_head : List ℕ → Counts → Cursor → Head
route_head s n c =
    let a : Cursor = reference s c n.signals in
    let k : Cursor = code s a 0 2 in
    let e : End = line_and_end s k n.lines in
    let d : Cursor = code s e.cur 0 1 in
    record { cur = d; entry = a.value; kind = k.value; line = e.line; end = e.end; diverging = d.value }

-- a route from its parts
abbrev pub route_of : Head → Items → Items → Points → OneRoute
route_of h p o q = record {
  cur = q.cur;
  route = record {
    entry = h.entry;
    kind = h.kind;
    line = h.line;
    end = h.end;
    diverging = h.diverging;
    paths = p.count;
    path = p.item;
    overlaps = o.count;
    overlap = o.item;
    points = q.count;
    point = q.point;
    position = q.position;
  };
}

-- then path 1..8 sections in order of travel, overlap 0..4 sections, points 0..8 with positions
unfoldable pub a_route : List ℕ → Counts → Cursor → OneRoute
a_route s n c =
    let h : Head = route_head s n c in
    let p : Items = items s h.cur 1 most_listed n.sections in
    let o : Items = items s p.cur 0 most_overlap n.sections in
    route_of h p o (points s o.cur n.points)

-- no routes
unfoldable pub no_routes : List Route
no_routes = replicate most_train_routes no_route

-- the i-th route
unfoldable pub route_turn : List ℕ → Counts → ℕ → Routes → Routes
route_turn s n i t =
    let a : OneRoute = a_route s n t.cur in
    record { cur = a.cur; count = t.count; route = set t.route i a.route }

-- as many routes as the number read last says
unfoldable pub routes_from : List ℕ → Counts → Cursor → Routes
routes_from s n c = iter (route_turn s n) c.value (record { cur = c; count = c.value; route = no_routes })

-- routes, 0..48
unfoldable pub routes : List ℕ → Counts → Cursor → Routes
routes s n c = routes_from s n (code s c 0 most_train_routes)
