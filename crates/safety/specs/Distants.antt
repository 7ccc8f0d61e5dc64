-- What a distant shows, told from the history (L2): it warns drivers of the signal that it announces, by what that signal shows after the same event.
--
-- Read as `Demand3` says; d is a distant, x the signal that it announces, y one that carries it.
use Rattle.std.specs.Prelude.{ℕ, ◌<◌, ◌≡◌, ◌⊎◌, List}
use Rattle.track.specs.Signal.{Signal, Stands}
use Rattle.track.specs.SignalNumbers.{number_of}
use Rattle.signals.specs.Aspects.{dark, stop}
use Rattle.layout.specs.declared.Layout.{Layout}
use Rattle.layout.specs.Layout.{announced_by}
use Rattle.layout_facts.specs.Plain.{CarriedBy}
use Rattle.fitted.specs.InUse.{InUse}
use Rattle.step_facts.specs.Run.{Event}
use Rattle.safety.specs.History.{History, shown, history}

-- ---- the signals of a distant

-- signal x has the number k, of main and block signals: it stands, and "block signals are numbered after the layout's signals"
abbrev pub HasNumber : Layout → Signal → ℕ → Type 0
HasNumber L x k = Stands L.signals L.lines L.line x × (k ≡ number_of L.signals L.line x)

-- distant d announces signal x
abbrev pub Announces : Layout → ℕ → Signal → Type 0
Announces L d x = HasNumber L x (announced_by L d)

-- distant d stands on the mast of signal y: "0 if free-standing or the carrying signal plus 1"
abbrev pub OnMast : Layout → ℕ → Signal → Type 0
OnMast L d y = (k : ℕ) × CarriedBy L d k × HasNumber L y k

-- signal y is at stop or dark
abbrev pub StopOrDark : Layout → History → Signal → Type 0
StopOrDark L h y = ((shown L h).signal y ≡ stop) ⊎ ((shown L h).signal y ≡ dark)

-- no mast's signal keeps distant d dark: it is free-standing, or its carrier is lit and not at stop
abbrev pub MayLight : Layout → History → ℕ → Type 0
MayLight L h d = (y : Signal) → OnMast L d y → ¬ StopOrDark L h y

-- ---- what it shows

-- what distant d shows of signal x, which it announces
pub record TellsOf (L : Layout) (h : History) (d : ℕ) (x : Signal) : Type 0 where
  -- "23 when that shows 20, 24 at 21, 25 at 22, dark when it is dark", unless a mast's signal keeps it dark
  pub stops : MayLight L h d → (shown L h).signal x ≡ 20 → (shown L h).distant d ≡ 23
  pub diverges : MayLight L h d → (shown L h).signal x ≡ 21 → (shown L h).distant d ≡ 24
  pub proceeds : MayLight L h d → (shown L h).signal x ≡ 22 → (shown L h).distant d ≡ 25
  pub darkens : (shown L h).signal x ≡ dark → (shown L h).distant d ≡ dark
  -- "on a main or block signal's mast also dark while that signal is at stop or dark"
  pub carried : (y : Signal) → OnMast L d y → StopOrDark L h y → (shown L h).distant d ≡ dark
  -- never more permissive than its main signal: 24 and 25 only while that shows 21 and 22, and 23 only while it shows 20
  pub only_stop : (shown L h).distant d ≡ 23 → (shown L h).signal x ≡ 20
  pub only_diverging : (shown L h).distant d ≡ 24 → (shown L h).signal x ≡ 21
  pub only_proceed : (shown L h).distant d ≡ 25 → (shown L h).signal x ≡ 22
  -- and nothing else
  pub only : ((shown L h).distant d ≡ dark) ⊎ ((shown L h).distant d ≡ 23) ⊎ ((shown L h).distant d ≡ 24) ⊎ ((shown L h).distant d ≡ 25)

-- a distant announces one signal, and tells of that
pub record Distant (L : Layout) (h : History) (d : ℕ) : Type 0 where
  pub announced : Signal
  pub announces : Announces L d announced
  pub one : (x : Signal) → Announces L d x → x ≡ announced
  pub tells : TellsOf L h d announced

-- every distant does
abbrev pub AllTell : Layout → History → Type 0
AllTell L h = (d : ℕ) → d < L.distants → Distant L h d

-- on every layout in use, after every list of events from the cold start
abbrev pub DistantsTell : Type 0
DistantsTell = (L : Layout) → InUse L → (es : List Event) → AllTell L (history L es)
