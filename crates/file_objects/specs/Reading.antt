-- What the readings of the parts give, told of what stands in the file (section 2).
use Rattle.std.specs.Prelude.{ℕ, ◌≡◌, Result}
use Rattle.numbers.specs.declared.Fault.{Fault}
use Rattle.fields.specs.Reading.{Reads}
use Rattle.track.specs.declared.Line.{Line}
use Rattle.track.specs.declared.Route.{Route}
use Rattle.file_objects.specs.declared.Owned.{Owned}
use Rattle.file_objects.specs.declared.OneLine.{OneLine}
use Rattle.file_objects.specs.declared.Lines.{Lines}
use Rattle.file_objects.specs.declared.distants.Distants.{Distants}
use Rattle.file_objects.specs.declared.End.{End}
use Rattle.file_objects.specs.declared.Head.{Head}
use Rattle.file_objects.specs.declared.OneRoute.{OneRoute}
use Rattle.file_objects.specs.declared.Routes.{Routes}
use Rattle.file_objects.specs.declared.place.Owned.{Owned as OwnedGiven}
use Rattle.file_objects.specs.declared.place.Lines.{Lines as LinesGiven}
use Rattle.file_objects.specs.declared.place.Distants.{Distants as DistantsGiven}
use Rattle.file_objects.specs.declared.place.End.{End as EndGiven}
use Rattle.file_objects.specs.declared.place.Head.{Head as HeadGiven}
use Rattle.file_objects.specs.declared.place.Routes.{Routes as RoutesGiven}

-- the points' own sections
abbrev pub SectionsRead : Result OwnedGiven Fault → ℕ → Owned → Type 0
SectionsRead r at t = Reads r at t.cur (λ a. (a.count ≡ t.count) × (a.section ≡ t.section))

-- a line; the lines
abbrev pub LineRead : Result Line Fault → ℕ → OneLine → Type 0
LineRead r at t = Reads r at t.cur (λ a. a ≡ t.line)

abbrev pub LinesRead : Result LinesGiven Fault → ℕ → Lines → Type 0
LinesRead r at t = Reads r at t.cur (λ a. (a.count ≡ t.count) × (a.line ≡ t.line))

-- the distants
abbrev pub DistantsRead : Result DistantsGiven Fault → ℕ → Distants → Type 0
DistantsRead r at t = Reads r at t.cur (λ a. (a.count ≡ t.count) × (a.carrier ≡ t.carrier) × (a.announced ≡ t.announced))

-- the line and the end of a route
abbrev pub EndRead : Result EndGiven Fault → ℕ → End → Type 0
EndRead r at t = Reads r at t.cur (λ a. (a.line ≡ t.line) × (a.end ≡ t.end))

-- what a route begins with
abbrev pub HeadRead : Result HeadGiven Fault → ℕ → Head → Type 0
HeadRead r at t = Reads r at t.cur (λ a.
    (a.entry ≡ t.entry) × (a.kind ≡ t.kind) × (a.line ≡ t.line) × (a.end ≡ t.end) × (a.diverging ≡ t.diverging))

-- a route; the routes
abbrev pub RouteRead : Result Route Fault → ℕ → OneRoute → Type 0
RouteRead r at t = Reads r at t.cur (λ a. a ≡ t.route)

abbrev pub RoutesRead : Result RoutesGiven Fault → ℕ → Routes → Type 0
RoutesRead r at t = Reads r at t.cur (λ a. (a.count ≡ t.count) × (a.route ≡ t.route))
