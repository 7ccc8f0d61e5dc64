-- What one walk over the routes makes, as the code goes: signals fall and routes are let go in the same turn. What follows an event stands in Settle.
use Rattle.std.specs.Prelude.{ℕ, List, ◌≡◌}
use Rattle.laws.specs.Tables.{each}
use Rattle.track.specs.Objects.{route}
use Rattle.tables.specs.declared.Gives.{Gives}
use Rattle.release.specs.declared.Locking.{Locking}
use Rattle.layout.specs.declared.Layout.{Layout}
use Rattle.interlocking.specs.declared.State.{State}
use Rattle.interlocking.specs.declared.answering.Walked.{Walked}
use Rattle.interlocking.specs.Settle.{fallen_at, signals, route_after, unless_idle}

-- what becomes of each route once the signals have fallen, one part of it, from what the table held
abbrev pub becoming : Layout → State → Gives → (Locking → ℕ) → List ℕ → List ℕ
becoming L s e part xs = each L.routes (λ r was. unless_idle (signals L s) r was (part (route_after L.line L.route (signals L s) e r))) xs

-- the tables are those of all routes: the signals at which they start, over blank entries; the phases after the signals; phase, steps and seconds at the end
pub record IsWalk (L : Layout) (s : State) (e : Gives) (blank : List ℕ) (w : Walked) : Type 0 where
  pub entry : w.entry ≡ each L.routes (λ r was. (route L.route r).entry) blank
  pub fallen : w.fallen ≡ each L.routes (fallen_at L.line L.route s) s.phase
  pub phase : w.phase ≡ becoming L s e (λ h. h.phase) s.phase
  pub steps : w.steps ≡ becoming L s e (λ h. h.steps) s.steps
  pub seconds : w.seconds ≡ becoming L s e (λ h. h.seconds) s.seconds
