-- L1: a section that has heads, told from the log of what was said of them: what the box holds of its heads, and what the section reads and shows.
--
-- Read as `Demand3` says; g is the section.
use Rattle.std.specs.Prelude.{ℕ, ◌<◌, ◌≡◌, true, List}
use Rattle.axles.specs.Heads.{speaking, number, axles_reading}
use Rattle.axles.specs.HeadLog.{both_speak, number_told, reading_told}
use Rattle.layout.specs.declared.Layout.{Layout}
use Rattle.layout.specs.Layout.{is_fitted}
use Rattle.layout.specs.Sound.{sound}
use Rattle.interlocking.specs.State.{heads_at}
use Rattle.step_facts.specs.Run.{Event, from_cold}
use Rattle.safety.specs.History.{History, head_log, section_reads, shown, history}

-- what it reads is what the log of its heads tells, whatever box the history is of: none before anything was said, and a refused event changes nothing
abbrev pub ReadsByHeads : Type 0
ReadsByHeads = (L : Layout) (g : ℕ) → g < L.sections → is_fitted L g ≡ true → (h : History) → section_reads L g h ≡ reading_told (head_log g h)

-- after the events es
pub record FittedAsTold (L : Layout) (es : List Event) (g : ℕ) : Type 0 where
  -- what the box holds of its heads speaks where the log says that both do
  pub speaks : speaking (heads_at (from_cold L es).axles g) ≡ both_speak (head_log g (history L es))
  -- its number is that of the log
  pub counts : number (heads_at (from_cold L es).axles g) ≡ number_told (head_log g (history L es))
  -- and it says what the log tells
  pub says : axles_reading (heads_at (from_cold L es).axles g) ≡ reading_told (head_log g (history L es))
  -- which the section shows
  pub shows : (shown L (history L es)).section g ≡ reading_told (head_log g (history L es))

-- on every sound layout, after every list of events from the cold start, of every section that there is and has heads
abbrev pub HeadsTold : Type 0
HeadsTold = (L : Layout) → sound L ≡ true → (es : List Event) (g : ℕ) → g < L.sections → is_fitted L g ≡ true → FittedAsTold L es g
