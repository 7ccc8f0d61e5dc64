-- No second result meets the contract of a public function. Each `Post` is the contract itself, as the function is proved to meet it.
use Prim.Native.Nat.{ℕ}
use mathlib.Core.Path.{◌≡◌, ap, ◌∙◌}
use mathlib.Core.List.{List}
use Rattle.laws.proofs.Only.{Determines, only}
use Rattle.fields.proofs.Unique.{DeterminesPlace}
use Rattle.fields.proofs.Laws.{begun, one_reading}
use Rattle.track.specs.declared.Line.{Line}
use Rattle.track.specs.declared.Route.{Route}
use Rattle.file_objects.specs.declared.place.Owned.{Owned}
use Rattle.file_objects.specs.declared.place.Lines.{Lines}
use Rattle.file_objects.specs.declared.place.Distants.{Distants}
use Rattle.file_objects.specs.declared.place.Routes.{Routes}
use Rattle.file_objects.proofs.read_sections.Reads as read_sections
use Rattle.file_objects.proofs.read_lines.Reads as read_lines
use Rattle.file_objects.proofs.distants.read_distants.Reads as read_distants
use Rattle.file_objects.proofs.read_routes.Reads as read_routes
use Rattle.file_objects.proofs.no_sections.Reads as no_sections
use Rattle.file_objects.proofs.place.next_sections.Reads as next_sections
use Rattle.file_objects.proofs.no_lines.Reads as no_lines
use Rattle.file_objects.proofs.place.next_lines.Reads as next_lines
use Rattle.file_objects.proofs.distants.most_distants_of.Reads as most_distants_of
use Rattle.file_objects.proofs.distants.no_distants.Reads as no_distants
use Rattle.file_objects.proofs.place.next_distants.Reads as next_distants
use Rattle.file_objects.proofs.no_routes.Reads as no_routes
use Rattle.file_objects.proofs.place.next_routes.Reads as next_routes

-- ---- with a cursor

-- the points' own sections
pub read_sections_determined : Determines read_sections.Post
read_sections_determined κs a r q s = only

-- the lines
pub read_lines_determined : Determines read_lines.Post
read_lines_determined κs a r q s = only

-- the distants
pub read_distants_determined : Determines read_distants.Post
read_distants_determined κs a r q s = only

-- the routes
pub read_routes_determined : Determines read_routes.Post
read_routes_determined κs a r q s = only

-- ---- from a place

-- no own sections
pub no_sections_determined : Determines no_sections.Post
no_sections_determined κs a r q s = only

-- the points' own sections
same_section : {a b : Owned} → a.count ≡ b.count → a.section ≡ b.section → a ≡ b
same_section {a} {b} n l = ap (λ (k : ℕ). record { count = k; section = a.section }) n ∙ ap (λ (x : List ℕ). record { count = b.count; section = x }) l

pub next_sections_determined : DeterminesPlace (λ κs s. s.1.0.now) next_sections.Post
next_sections_determined κs a r q s t p o =
    one_reading _ _ (λ (a b : Owned) x y. same_section (only x.0 y.0) (only x.1 y.1)) r q (p _ (begun _)) (o _ (begun _))

-- no lines
pub no_lines_determined : Determines no_lines.Post
no_lines_determined κs a r q s = only

-- the lines
same_line : {a b : Lines} → a.count ≡ b.count → a.line ≡ b.line → a ≡ b
same_line {a} {b} n l = ap (λ (k : ℕ). record { count = k; line = a.line }) n ∙ ap (λ (x : List Line). record { count = b.count; line = x }) l

pub next_lines_determined : DeterminesPlace (λ κs s. s.1.0.now) next_lines.Post
next_lines_determined κs a r q s t p o =
    one_reading _ _ (λ (a b : Lines) x y. same_line (only x.0 y.0) (only x.1 y.1)) r q (p _ (begun _)) (o _ (begun _))

-- the most distants of a version
pub most_distants_of_determined : Determines most_distants_of.Post
most_distants_of_determined κs a r q s = only

-- no distants
pub no_distants_determined : Determines no_distants.Post
no_distants_determined κs a r q s = only

-- the distants
same_distants : {a b : Distants} → a.count ≡ b.count → a.carrier ≡ b.carrier → a.announced ≡ b.announced → a ≡ b
same_distants {a} {b} n l m =
    ap (λ (k : ℕ). record { count = k; carrier = a.carrier; announced = a.announced }) n
    ∙ ap (λ (x : List ℕ). record { count = b.count; carrier = x; announced = a.announced }) l
    ∙ ap (λ (x : List ℕ). record { count = b.count; carrier = b.carrier; announced = x }) m

pub next_distants_determined : DeterminesPlace (λ κs s. s.1.0.now) next_distants.Post
next_distants_determined κs a r q s t p o =
    one_reading _ _ (λ (a b : Distants) x y. same_distants (only x.0 y.0) (only x.1 y.1) (only x.2 y.2)) r q (p _ (begun _)) (o _ (begun _))

-- no routes
pub no_routes_determined : Determines no_routes.Post
no_routes_determined κs a r q s = only

-- the routes
same_route : {a b : Routes} → a.count ≡ b.count → a.route ≡ b.route → a ≡ b
same_route {a} {b} n l = ap (λ (k : ℕ). record { count = k; route = a.route }) n ∙ ap (λ (x : List Route). record { count = b.count; route = x }) l

pub next_routes_determined : DeterminesPlace (λ κs s. s.1.0.now) next_routes.Post
next_routes_determined κs a r q s t p o =
    one_reading _ _ (λ (a b : Routes) x y. same_route (only x.0 y.0) (only x.1 y.1)) r q (p _ (begun _)) (o _ (begun _))
