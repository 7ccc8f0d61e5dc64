-- Boxes that accept what is not granted, or refuse what is: a run of each that does so in its last event. No clause of demand 3 speaks of them.
use Rattle.std.specs.Prelude.{[], ◌∷◌, ◌++◌}
use Rattle.layout.specs.declared.Layout.{Layout}
use Rattle.layout.specs.Load.{load}
use Rattle.step_facts.specs.Run.{event}
use Rattle.safety.specs.History.{History}
use Rattle.safety.specs.Grants.{AcceptedJust}
use Rattle.safety.specs.OtherLayouts.{with_overlap}
use Rattle.safety.specs.WrongOrders.{turns_unlocked, asks_no_overlap}
use Rattle.safety.specs.WrongBoxes10.{refuses_orders}
use Rattle.safety.specs.WrongRuns.{readings, gone, Run, on_t, cold_run}

-- the last event was accepted, or refused, and should not have been
abbrev pub MisjudgedLast : Layout → History → Type 0
MisjudgedLast L [] = ⊥
MisjudgedLast L (m ∷ h) = ¬ AcceptedJust L m h

-- set route: 7 and 8 are not asked of the overlap. It is occupied
abbrev pub over_the_overlap : Run
over_the_overlap = cold_run asks_no_overlap (load with_overlap).layout (readings ++ (event 1 4 2 ∷ event 4 1 0 ∷ []))

-- secure: 12, 11, 6 and 10 are not asked, only that no exit route is locked. A train is in the block, its route has gone, and the line is turned under it
abbrev pub turned_under : Run
turned_under = on_t turns_unlocked (gone ++ (event 6 0 2 ∷ []))

-- section 10: every order is refused. A block is barred
abbrev pub no_bar : Run
no_bar = on_t refuses_orders (event 8 0 0 ∷ [])
