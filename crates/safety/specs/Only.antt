-- Exactness leaves nothing open: the bytes of a log's images are determined by its events and their answers. So a box that answers as this one does and
-- shows exactly shows what this one shows, byte for byte.
--
-- Read as `Demand3` says; k is a second history, n a moment of it.
use Rattle.std.specs.Prelude.{◌≡◌, List, [], ◌∷◌, length}
use Rattle.layout.specs.declared.Layout.{Layout}
use Rattle.fitted.specs.InUse.{InUse}
use Rattle.panel.specs.Panel.{panel_length}
use Rattle.step_facts.specs.Run.{Event}
use Rattle.safety.specs.History.{Moment, History, Throughout, history}
use Rattle.safety.specs.Exact.{Exact}

-- ---- logs

-- the same event, answered the same; nothing is said of the images
pub record SameAnswer (m n : Moment) : Type 0 where
  pub event : m.event ≡ n.event
  pub number : m.number ≡ n.number
  pub detail : m.detail ≡ n.detail

-- the same events, answered the same
unfoldable pub SameAnswers : History → History → Type 0
SameAnswers [] [] = Unit {0}
SameAnswers [] (n ∷ k) = ⊥
SameAnswers (m ∷ h) [] = ⊥
SameAnswers (m ∷ h) (n ∷ k) = SameAnswer m n × SameAnswers h k

-- after each event the image has the length that the layout says (section 7), and all that shows is what the history tells
pub record ExactLog (L : Layout) (h : History) : Type 0 where
  pub whole : Throughout (λ m older. length m.image ≡ panel_length L) h
  pub exact : Throughout (λ m older. Exact L (m ∷ older)) h

-- ---- what is proved

-- the box's own log is one, on every layout in use
abbrev pub LogsExactly : Type 0
LogsExactly = (L : Layout) → InUse L → (es : List Event) → ExactLog L (history L es)

-- two such logs of the same events and answers are the same, on any layout
abbrev pub OneLog : Type 0
OneLog = (L : Layout) (h k : History) → SameAnswers h k → ExactLog L h → ExactLog L k → h ≡ k

-- so one that has the box's answers is the box's log
abbrev pub OnlyThisLog : Type 0
OnlyThisLog =
    (L : Layout) → InUse L → (es : List Event) → (h : History) → SameAnswers h (history L es)
    → ExactLog L h → h ≡ history L es
