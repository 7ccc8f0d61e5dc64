-- They are refused by what is granted, by computation over the bytes of their layouts.
use mathlib.Core.Path.{refl}
use mathlib.Core.Logic.{inl, inr}
use borrow.Author.Tests.{eqb-false}
use lib.Dec.{eqb, lit<}
use Rattle.laws.specs.Choice.{when◌then◌else◌}
use Rattle.layout.specs.declared.Layout.{Layout}
use Rattle.layout.specs.Load.{load}
use Rattle.layout_facts.specs.BranchT.{layout_t}
use Rattle.step_facts.specs.Run.{Event}
use Rattle.safety.specs.History.{History}
use Rattle.safety.specs.Grants.{MayRead, MaySet, MaySecure, MayCount, MayReset, Grants, section, point, throw, set, cancel, secure, release, bar, unbar, second, count, silence, reset, report}
use Rattle.safety.specs.OtherLayouts.{with_overlap}
use Rattle.safety.specs.WrongRuns.{told}
use Rattle.safety.specs.WrongGrants.{MisjudgedLast, over_the_overlap, turned_under, no_bar}
use Rattle.safety.proofs.Computed.{run_computed}
use Rattle.safety.proofs.TestedLines.{secured_means}

-- what an event asks: a reading of a section, a route that is set, a line that is secured, a count of axles in, a reset
abbrev Asked : Layout → Event → History → Type 0
Asked L e h =
    when eqb e.kind 1 then MayRead L e.first
    else when eqb e.kind 4 then MaySet L e.first e.second h
    else when eqb e.kind 6 then MaySecure L e.first e.second h
    else when eqb e.kind 11 then MayCount L e.first e.second
    else when eqb e.kind 14 then MayReset L e.first e.second h
    else Unit {0}

-- an event is granted only where there is what its kind asks: by its kind
pub granted_asks : (L : Layout) (e : Event) (h : History) → Grants L e h → Asked L e h
unfolding when◌then◌else◌
granted_asks L e h (section k x) = rw k x
granted_asks L e h (point k x) = rw k tt
granted_asks L e h (throw k x) = rw k tt
granted_asks L e h (set k x) = rw k x
granted_asks L e h (cancel k x) = rw k tt
granted_asks L e h (secure k x) = rw k x
granted_asks L e h (release k x) = rw k tt
granted_asks L e h (bar k x) = rw k tt
granted_asks L e h (unbar k x) = rw k tt
granted_asks L e h (second k x) = rw k tt
granted_asks L e h (count (inl k) x) = rw k x
granted_asks L e h (count (inr k) x) = rw k tt
granted_asks L e h (silence k x) = rw k tt
granted_asks L e h (reset k x) = rw k x
granted_asks L e h (report k x) = rw k tt

-- it was accepted, and the overlap does not read free
pub overlap_not_free : MisjudgedLast (load with_overlap).layout (told over_the_overlap)
unfolding run_computed when◌then◌else◌
overlap_not_free J = eqb-false 2 1 refl ((granted_asks _ _ _ (J.0 refl)).clear.overlap_free 0 (lit< tt))

-- it was accepted, and the line is secured from A to B
pub line_not_neutral : MisjudgedLast layout_t (told turned_under)
unfolding run_computed when◌then◌else◌
line_not_neutral J = (granted_asks _ _ _ (J.0 refl)).is_neutral.0 ((secured_means layout_t 0 1 _).0 refl)

-- it was refused, and there is the block
pub bar_refused_wrongly : MisjudgedLast no_bar.layout (told no_bar)
unfolding run_computed
bar_refused_wrongly J = eqb-false 1 0 refl (J.1 (bar refl (record { line = lit< tt; block = lit< tt })))
