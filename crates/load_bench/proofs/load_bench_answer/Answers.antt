-- What is packed is the answer as it is told.
use Prim.Native.Nat.{ℕ}
use mathlib.Core.Path.{◌≡◌, ap, ◌∙◌}
use lib.ListN.{get_or}
use Rattle.std.specs.Prelude.{Ok, Err}
use Rattle.laws.proofs.Arrays.{nothing_at}
use Rattle.track.specs.declared.Route.{Route}
use Rattle.track.specs.Sizes.{most_listed, most_train_routes}
use Rattle.track.specs.Objects.{no_route, route}
use Rattle.file_objects.specs.Routes.{no_routes}
use Rattle.layout.specs.Layout.{no_layout}
use Rattle.layout.specs.Load.{load, refused}
use Rattle.layout.specs.Records.{Loaded}
use Rattle.layout.specs.Reading.{told}
use Rattle.load_bench.specs.Packed.{packed}
use Rattle.load_bench.proofs.load_bench_answer.Goals as goal

pub returns-in-Ok : goal.returns-in-Ok
returns-in-Ok c =
    let e : packed (told (Ok c.in-Ok.l)) c.args.r c.args.place ≡ packed (load c.args.bytes.now) c.args.r c.args.place =
    ap (λ (x : Loaded). packed x c.args.r c.args.place) c.in-Ok.ensures in
    rw (c.pack.ensures, c.look.ensures) e

-- the layout with no objects has no overlap
no_overlap : (r place : ℕ) → get_or (route no_layout.route r).overlap place 0 ≡ 0
unfolding no_layout no_routes route no_route
no_overlap r place = ap (λ (a : Route). get_or a.overlap place 0) (nothing_at most_train_routes no_route r) ∙ nothing_at most_listed 0 place

pub returns-in-Err : goal.returns-in-Err
unfolding refused
returns-in-Err c =
    let e : packed (told (Err c.in-Err.fault)) c.args.r c.args.place ≡ packed (load c.args.bytes.now) c.args.r c.args.place =
    ap (λ (x : Loaded). packed x c.args.r c.args.place) c.in-Err.ensures in
    rw (c.pack-in-Err.ensures, c.number.ensures, c.detail.ensures) (rw (no_overlap c.args.r c.args.place) at e)
