-- All that is said of a log, together.
use Rattle.std.specs.Prelude.{ℕ, ◌≡◌, ◌≢◌, List, [], ◌∷◌}
use Rattle.layout.specs.declared.Layout.{Layout}
use Rattle.interlocking.specs.State.{cold}
use Rattle.panel.specs.Panel.{image}
use Rattle.safety.specs.History.{Moment, History, Throughout}
use Rattle.safety.specs.Demand3.{Safe}
use Rattle.safety.specs.Exact.{Exact}
use Rattle.safety.specs.Distants.{AllTell}
use Rattle.safety.specs.Only.{ExactLog}
use Rattle.safety.specs.Stories.{NoStory}

-- the image that showed last: the cold start's before the first event
unfoldable pub last_image : Layout → History → List ℕ
last_image L [] = image L cold
last_image L (m ∷ h) = m.image

-- a refused event leaves it as it was, byte for byte (demand 1)
abbrev pub RefusedKeeps : Layout → Moment → History → Type 0
RefusedKeeps L m older = m.number ≢ 0 → m.image ≡ last_image L older

-- the log is safe (demand 3), now and after each of its events; all that shows is what it tells, now and after each event, with every byte of the
-- image there; each distant tells of its signal, now and after each event (L2); the customer's stories do not come true in it; and what was refused changed
-- nothing that shows
pub record Demanded (L : Layout) (h : History) : Type 0 where
  pub safe : Safe L h
  pub safe_log : Throughout (λ m older. Safe L (m ∷ older)) h
  pub exact : Exact L h
  pub exact_log : ExactLog L h
  pub distants : AllTell L h
  pub distants_log : Throughout (λ m older. AllTell L (m ∷ older)) h
  pub stories : Throughout (NoStory L) h
  pub refusals : Throughout (RefusedKeeps L) h

-- while something is lacking: an event was refused by 18, and nothing was drawn
abbrev pub Unserved : Moment → History → Type 0
Unserved m older = (m.number ≡ 18) × (m.image ≡ [])
