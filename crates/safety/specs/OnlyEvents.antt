-- What a log's images show and which of its events are accepted are determined by its events: of two logs of the same events that both show exactly and
-- accept exactly, only how they refuse what they refuse must be known to be the same.
--
-- Read as `Only` says.
use Rattle.std.specs.Prelude.{◌≡◌, ◌≢◌, List, [], ◌∷◌}
use Rattle.layout.specs.declared.Layout.{Layout}
use Rattle.fitted.specs.InUse.{InUse}
use Rattle.step_facts.specs.Run.{Event}
use Rattle.safety.specs.History.{Moment, History, Throughout, history}
use Rattle.safety.specs.Grants.{AcceptedJust}
use Rattle.safety.specs.Only.{ExactLog}

-- the same event; where neither accepts it, refused by the same number with the same detail
pub record SameEvent (m n : Moment) : Type 0 where
  pub event : m.event ≡ n.event
  pub number : m.number ≢ 0 → n.number ≢ 0 → m.number ≡ n.number
  pub detail : m.number ≢ 0 → n.number ≢ 0 → m.detail ≡ n.detail

-- the same events
unfoldable pub SameEvents : History → History → Type 0
SameEvents [] [] = Unit {0}
SameEvents [] (n ∷ k) = ⊥
SameEvents (m ∷ h) [] = ⊥
SameEvents (m ∷ h) (n ∷ k) = SameEvent m n × SameEvents h k

-- a log that shows exactly, accepts just what is granted, and answers this with detail 0 (section 3)
pub record GrantedLog (L : Layout) (h : History) : Type 0 where
  pub shows : ExactLog L h
  pub accepts : Throughout (AcceptedJust L) h
  pub done : Throughout (λ m older. m.number ≡ 0 → m.detail ≡ 0) h

-- ---- what is proved

-- the box's own log is one, on every layout in use
abbrev pub LogsAsGranted : Type 0
LogsAsGranted = (L : Layout) → InUse L → (es : List Event) → GrantedLog L (history L es)

-- two such logs of the same events are the same, on any layout
abbrev pub OneGrantedLog : Type 0
OneGrantedLog = (L : Layout) (h k : History) → SameEvents h k → GrantedLog L h → GrantedLog L k → h ≡ k

-- so one of the box's events is the box's log
abbrev pub OnlyThisGrantedLog : Type 0
OnlyThisGrantedLog =
    (L : Layout) → InUse L → (es : List Event) → (h : History) → SameEvents h (history L es)
    → GrantedLog L h → h ≡ history L es
