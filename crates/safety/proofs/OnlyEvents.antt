-- Two logs of the same events that show and accept exactly are the same: after one history both accept an event or both refuse it, so their answers are
-- the same, and so all that they show is.
use mathlib.Core.Path.{◌≡◌, sym, ◌∙◌}
use mathlib.Core.Logic.Iff
use mathlib.Core.Logic.{◌≢◌, ◌↔◌}
use mathlib.Core.Bool.{true}
use mathlib.Core.List.{List, [], ◌∷◌}
use native.Mathlib.Decide.{ℕ_discrete}
use Rattle.layout.specs.declared.Layout.{Layout}
use Rattle.layout.specs.Sound.{sound}
use Rattle.fitted.proofs.InUse.{in_use_sound}
use Rattle.step_facts.specs.Run.{Event, box}
use Rattle.step_facts.proofs.Step.{done_detail}
use Rattle.safety.specs.History.{Moment, History, Throughout, moment, history}
use Rattle.safety.specs.Grants.{AcceptedJust}
use Rattle.safety.specs.Only.{SameAnswer, SameAnswers}
use Rattle.safety.specs.OnlyEvents.{SameEvent, SameEvents, GrantedLog, LogsAsGranted, OneGrantedLog, OnlyThisGrantedLog}
use Rattle.safety.proofs.EveryEvent.{in_every_event}
use Rattle.safety.proofs.Grants.{accepts_run}
use Rattle.safety.proofs.Only.{log_run, one_log}

-- the same event after one history: what the one accepts the other does, and its detail is 0; what the one refuses the other refuses alike
answered_same : (L : Layout) (m n : Moment) (h k : History) → h ≡ k → SameEvent m n → AcceptedJust L m h → AcceptedJust L n k
    → (m.number ≡ 0 → m.detail ≡ 0) → (n.number ≡ 0 → n.detail ≡ 0) → SameAnswer m n
answered_same L m n h k same e x y p q = go (ℕ_discrete m.number 0)
  where
    both : m.number ≡ 0 ↔ n.number ≡ 0
    both = Iff.trans x (Iff.symm (rw (← same, ← e.event) at y))

    go : Dec (m.number ≡ 0) → SameAnswer m n
    go (yes z) = let w = both.0 z in record { event = e.event; number = z ∙ sym w; detail = p z ∙ sym (q w) }
    go (no d) = let c : n.number ≢ 0 = λ w. d (both.1 w) in record { event = e.event; number = e.number d c; detail = e.detail d c }

-- what was before the last event of such a log is such a log
before : (L : Layout) (m : Moment) (h : History) → GrantedLog L (m ∷ h) → GrantedLog L h
unfolding Throughout
before L m h x = record { shows = record { whole = x.shows.whole.1; exact = x.shows.exact.1 }; accepts = x.accepts.1; done = x.done.1 }

-- so event by event from the cold start, since the histories before are the same
same_answers : (L : Layout) (h k : History) → SameEvents h k → GrantedLog L h → GrantedLog L k → SameAnswers h k
unfolding SameEvents SameAnswers Throughout
same_answers L [] [] s x y = tt
same_answers L [] (n ∷ k) s x y = absurd s
same_answers L (m ∷ h) [] s x y = absurd s
same_answers L (m ∷ h) (n ∷ k) s x y =
    let was = before L m h x in
    let then = before L n k y in
    let older = same_answers L h k s.1 was then in
    (answered_same L m n h k (one_log L h k older was.shows then.shows) s.0 x.accepts.0 y.accepts.0 x.done.0 y.done.0, older)

-- so the logs are
pub one_granted_log : OneGrantedLog
one_granted_log L h k s x y = one_log L h k (same_answers L h k s x y) x.shows y.shows

-- ---- the box's log

-- on any sound layout it shows and accepts exactly, and what is done has detail 0
pub granted_log_run : (L : Layout) → sound L ≡ true → (es : List Event) → GrantedLog L (history L es)
unfolding moment box
granted_log_run L ok es = record {
  shows = log_run L ok es;
  accepts = accepts_run L ok es;
  done = in_every_event L ok _ (λ s h I e. done_detail _ s e.kind e.first e.second) es;
}

-- so on any layout file that loads with 0
pub logs_as_granted : LogsAsGranted
logs_as_granted L u es = granted_log_run L (in_use_sound u) es

-- and no other log of its events that refuses as it does
pub only_this_granted_log : OnlyThisGrantedLog
only_this_granted_log L u es h s x = one_granted_log _ h _ s x (logs_as_granted L u es)
