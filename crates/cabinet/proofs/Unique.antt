-- No second reply, and no second value of a record or of a buffer that is lent, meets the contract of a public function.
-- Each contract is an assertion of the program logic, `clauses`, as the function is proved to meet it; what it says of the values is a plain fact.
use mathlib.Core.Path.{◌≡◌, refl, ap}
use seplogic.Ra.Ura.{Ura}
use base.Logic.{SProp, ent, emp, via}
use contract.Lifetimes.{Lfts}
use contract.Monad.{Fun, conj, conj_r, fact, fact_mono, guard-conj}
use prog.Memory.{Memory}
use prog.Routine.{Routine}
use types.Logic.{Logic}
use denote.Triple.Entry.{Args, Res}
use denote.Triple.Clauses.{Ended, AtExit, Clauses}
use Rattle.laws.proofs.Only.{only}
use Rattle.cabinet.specs.Calls.{Records, records}
use Rattle.cabinet.specs.contracts.event as event
use Rattle.cabinet.specs.contracts.hiruketawha_power_on as power_on
use Rattle.cabinet.specs.contracts.hiruketawha_load as load
use Rattle.cabinet.specs.contracts.hiruketawha_fit as fit
use Rattle.cabinet.specs.contracts.hiruketawha_event as c_event
use Rattle.cabinet.specs.contracts.hiruketawha_panel as panel

module _ {M : Type 1} (𝓤 : Ura M) where
  -- at every call, two outcomes that meet the contract have one result and leave one value behind the reference that `lent` reads
  abbrev DeterminesLent : (T : Ended) {X : Type 0} → ((κs : Lfts T.signature.lifetimes) → AtExit T κs → X) → Clauses 𝓤 T → Type 1
  DeterminesLent T lent c =
      (κs : Lfts T.signature.lifetimes) (a : Args T.signature κs) (g : (c κs a).ghost) (r q : Res T.signature κs) (s t : AtExit T κs)
      → ent 𝓤 (conj 𝓤 ((c κs a).ensures g r s) ((c κs a).ensures g q t)) (fact 𝓤 ((r ≡ q) × (lent κs s ≡ lent κs t)))

  -- what follows from two facts
  both : (φ ψ χ : Type 0) → (φ → ψ → χ) → ent 𝓤 (conj 𝓤 (fact 𝓤 φ) (fact 𝓤 ψ)) (fact 𝓤 χ)
  both φ ψ χ f = guard-conj 𝓤 φ (emp 𝓤) (fact 𝓤 ψ) (λ p. via 𝓤 (fact 𝓤 ψ) (conj_r 𝓤 (emp 𝓤) (fact 𝓤 ψ)) (fact_mono 𝓤 ψ χ (f p)))

module _ {M : Type 1} {𝓤 : Ura M} (𝓛 : Logic 𝓤) (mem : Memory → SProp 𝓤) (run : Routine → Fun 𝓤) where
  -- an event: the reply and the state's record
  pub event_determined : DeterminesLent 𝓤 event.ended (λ κs s. s.0.now) (event.clauses 𝓛 mem run)
  event_determined κs a g r q s t = both 𝓤 _ _ _ (λ p o. (only p.0 o.0, ap (λ (x : Records). x.state) (only p.1 o.1)))

  -- power-on: both records
  pub power_on_determined : DeterminesLent 𝓤 power_on.ended (λ κs s. records s.1.0.now s.0.now) (power_on.clauses 𝓛 mem run)
  power_on_determined κs a g r q s t = both 𝓤 _ _ _ (λ p o. (refl, only p o))

  -- a layout file: the reply and both records
  pub load_determined : DeterminesLent 𝓤 load.ended (λ κs s. records s.1.0.now s.0.now) (load.clauses 𝓛 mem run)
  load_determined κs a g r q s t = both 𝓤 _ _ _ (λ p o. (only p.0 o.0, only p.1 o.1))

  -- a file of fitted sections: the reply and both records
  pub fit_determined : DeterminesLent 𝓤 fit.ended (λ κs s. records s.1.0.now s.0.now) (fit.clauses 𝓛 mem run)
  fit_determined κs a g r q s t = both 𝓤 _ _ _ (λ p o. (only p.0 o.0, only p.1 o.1))

  -- an event from C: the reply and the state's record
  pub c_event_determined : DeterminesLent 𝓤 c_event.ended (λ κs s. s.0.now) (c_event.clauses 𝓛 mem run)
  c_event_determined κs a g r q s t = both 𝓤 _ _ _ (λ p o. (only p.0 o.0, ap (λ (x : Records). x.state) (only p.1 o.1)))

  -- the panel: the answer and every byte of the buffer
  pub panel_determined : DeterminesLent 𝓤 panel.ended (λ κs s. s.1.1.0.now) (panel.clauses 𝓛 mem run)
  panel_determined κs a g r q s t = both 𝓤 _ _ _ (λ p o. (only p.0 o.0, only p.1 o.1))
