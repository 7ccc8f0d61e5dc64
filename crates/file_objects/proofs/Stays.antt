-- After a fault that was met before, whatever its number, nothing of a list is read: the fault and its place stay, with a list of none.
use Prim.Native.Nat.{ℕ}
use mathlib.Core.Path.{◌≡◌}
use mathlib.Core.List.{List}
use Rattle.laws.specs.Choice.{when◌then◌else◌}
use Rattle.laws.specs.Tables.{iter}
use Rattle.fields.specs.declared.Cursor.{Cursor}
use Rattle.fields.specs.Fields.{failed}
use Rattle.fields.proofs.Laws.{code_stays}
use Rattle.track.specs.declared.Counts.{Counts}
use Rattle.track.specs.Sizes.{most_points, most_lines, most_distants, most_train_routes}
use Rattle.file_objects.specs.Sections.{sections, no_sections}
use Rattle.file_objects.specs.Lines.{lines_from, lines, no_lines}
use Rattle.file_objects.specs.Distants.{lists_none, without_distants, distants_from, distants, no_distants}
use Rattle.file_objects.specs.Routes.{routes_from, routes, no_routes}

module _ (s : List ℕ) (c : Cursor) (h : c.fault ≡ 0 → ⊥) where
  pub sections_stay : (objects : ℕ) → record { cur = failed c.at c.fault; count = 0; section = no_sections } ≡ sections s c objects
  unfolding sections failed iter
  sections_stay objects = rw (← code_stays s c h 0 most_points)

  pub lines_stay : (n : Counts) → record { cur = failed c.at c.fault; count = 0; line = no_lines } ≡ lines s n c
  unfolding lines lines_from failed iter
  lines_stay n = rw (← code_stays s c h 0 most_lines)

  -- a file of a version that lists none goes on with the cursor as it is
  pub distants_stay : (version signals : ℕ)
      → (when lists_none version
      then without_distants c
      else record { cur = failed c.at c.fault; count = 0; carrier = no_distants; announced = no_distants })
      ≡ distants s version signals c
  unfolding distants distants_from failed iter
  distants_stay version signals = rw (← code_stays s c h 0 most_distants)

  pub routes_stay : (n : Counts) → record { cur = failed c.at c.fault; count = 0; route = no_routes } ≡ routes s n c
  unfolding routes routes_from failed iter
  routes_stay n = rw (← code_stays s c h 0 most_train_routes)
