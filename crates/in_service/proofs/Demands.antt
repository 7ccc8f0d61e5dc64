-- What is demanded holds of every run on a sound layout, and of everything where there is no layout.
use Prim.Native.Nat.{ℕ, ◌<◌}
use mathlib.Core.Path.{◌≡◌, refl, sym, ap, ◌∙◌}
use mathlib.Core.Bool.{true}
use mathlib.Core.List.{List, [], ◌∷◌}
use native.Mathlib.Omega.{arith}
use borrow.Author.Tests.{ltb-true}
use lib.ListN.{length}
use Rattle.laws.specs.Tables.{table_from, table, join}
use Rattle.laws.proofs.Choice.{passed_over}
use Rattle.laws.proofs.Tests.{fails_from}
use Rattle.track.specs.Signal.{main}
use Rattle.layout.specs.declared.Layout.{Layout}
use Rattle.layout.specs.Layout.{no_layout}
use Rattle.layout.specs.Sound.{sound}
use Rattle.fitted.specs.Fitted.{with_told, equipped}
use Rattle.layout_facts.proofs.Sound.{sound_says}
use Rattle.interlocking.specs.declared.State.{State}
use Rattle.interlocking.specs.State.{cold}
use Rattle.panel.specs.Panel.{blocks, image, panel_length}
use Rattle.step_facts.specs.Run.{Event, box, state_after, from_cold}
use Rattle.step_facts.proofs.Step.{refusal_keeps}
use Rattle.panel.proofs.Image.{present_main}
use Rattle.safety.specs.History.{Moment, History, gave_section, shown, Throughout, moment, goes_on, history}
use Rattle.safety.specs.Demand3.{Safe}
use Rattle.safety.specs.Exact.{Exact}
use Rattle.safety.specs.Distants.{AllTell}
use Rattle.safety.specs.Only.{ExactLog}
use Rattle.safety.specs.Stories.{NoStory}
use Rattle.safety.proofs.Kept.{kept}
use Rattle.safety.proofs.EveryEvent.{in_every_event}
use Rattle.safety.proofs.Demand3.{safe, safe_run}
use Rattle.safety.proofs.Exact.{exact, exact_run}
use Rattle.safety.proofs.Distants.{distant_tells}
use Rattle.safety.proofs.Only.{log_run}
use Rattle.safety.proofs.Stories.{stories_run}
use Rattle.in_service.specs.Demands.{last_image, RefusedKeeps, Demanded, Unserved}

-- ---- a run

-- a refused event leaves the state, and so its image
refused_keeps : (L : Layout) (s : State) (h : History) (e : Event) → last_image L h ≡ image L s → RefusedKeeps L (moment L e (box L s e)) h
unfolding moment box
refused_keeps L s h e seen d = ap (image L) (refusal_keeps L s e.kind e.first e.second d) ∙ sym seen

-- so do all of a run
refusals_on : (L : Layout) (s : State) (h : History) → last_image L h ≡ image L s → Throughout (RefusedKeeps L) h → (es : List Event)
    → Throughout (RefusedKeeps L) (goes_on L (box L) s h es)
unfolding goes_on Throughout last_image moment
refusals_on L s h seen t [] = t
refusals_on L s h seen t (e ∷ es) = refusals_on L (box L s e).next (moment L e (box L s e) ∷ h) refl (refused_keeps L s h e seen, t) es

-- and the image that showed last is the state's
last_on : (L : Layout) (s : State) (h : History) → last_image L h ≡ image L s → (es : List Event)
    → last_image L (goes_on L (box L) s h es) ≡ image L (state_after (box L) s es)
unfolding goes_on state_after last_image moment
last_on L s h seen [] = seen
last_on L s h seen (e ∷ es) = last_on L (box L s e).next (moment L e (box L s e) ∷ h) refl es

pub last_shown : (L : Layout) (es : List Event) → last_image L (history L es) ≡ image L (from_cold L es)
unfolding history from_cold last_image
last_shown L es = last_on L cold [] refl es

-- by the theorems
pub run_demanded : (L : Layout) → sound L ≡ true → (es : List Event) → Demanded L (history L es)
unfolding history last_image Throughout
run_demanded L ok es = record {
  safe = safe_run L ok es;
  safe_log = let S = sound_says L ok in in_every_event L ok _ (λ s h I e. safe L S _ _ (kept L ok S s h I e)) es;
  exact = exact_run L ok es;
  exact_log = log_run L ok es;
  distants = distant_tells L _ (sound_says L ok) (exact_run L ok es);
  distants_log = let S = sound_says L ok in in_every_event L ok _ (λ s h I e. distant_tells L _ S (exact L S _ _ (kept L ok S s h I e))) es;
  stories = stories_run L ok es;
  refusals = refusals_on L cold [] refl tt es;
}

-- ---- no layout, whatever is told as fitted: there are no routes, signals, lines and sections of which anything could be untrue, and every event was refused

module _ (ns : List ℕ) where
  -- the layout with no objects
  abbrev none : Layout
  none = equipped ns no_layout

  -- nothing shows proceed
  none_safe : (h : History) → Safe none h
  unfolding equipped with_told no_layout shown
  none_safe h = record {
    apart = λ r q b. absurd (omega arith);
    exits = λ r b. absurd (omega arith);
    directions = λ l w b. absurd (omega arith);
    backed = λ x p. absurd (let b = none_there x h p in omega arith);
    guarded = λ x l i w E. absurd (let b = E.of_line in omega arith);
  }
    where
      none_there : (x : ℕ) (h : History) → 20 < (shown none h).signal (main x) → x < none.signals
      none_there x [] p = present_main none _ x p
      none_there x (m ∷ h) p = present_main none _ x p

  -- nor did after any event
  none_safe_log : (h : History) → Throughout (λ m older. Safe none (m ∷ older)) h
  unfolding Throughout
  none_safe_log [] = tt
  none_safe_log (m ∷ h) = (none_safe (m ∷ h), none_safe_log h)

  -- nothing shows
  none_exact : (h : History) → Exact none h
  unfolding equipped with_told no_layout
  none_exact h = record {
    sections = λ g b. absurd (omega arith);
    points = λ p b. absurd (omega arith);
    blocks = λ l i b. absurd (omega arith);
    lines = λ l b. absurd (omega arith);
    routes = λ r b. absurd (omega arith);
    mains = λ x b. absurd (omega arith);
    block_signals = λ l i w b. absurd (omega arith);
    distants = λ d b. absurd (omega arith);
  }

  -- and no distant
  none_tell : (h : History) → AllTell none h
  unfolding equipped with_told no_layout
  none_tell h d b = absurd (omega arith)

  -- nor did after any event
  none_tell_log : (h : History) → Throughout (λ m older. AllTell none (m ∷ older)) h
  unfolding Throughout
  none_tell_log [] = tt
  none_tell_log (m ∷ h) = (none_tell (m ∷ h), none_tell_log h)

  -- nothing is given
  none_given : (g : ℕ) (m : Moment) (h : History) → gave_section none g m h ≡ 0
  unfolding gave_section equipped with_told no_layout
  none_given g m h = passed_over _ _ 0 (fails_from _ (λ t. let b : g < 0 = ltb-true g 0 t in absurd (omega arith)))

  -- and nothing is thrown
  none_stories : (h : History) → Throughout Unserved h → Throughout (NoStory none) h
  unfolding Throughout equipped with_told no_layout
  none_stories [] t = tt
  none_stories (m ∷ h) t = (
    record {
      throws = λ p u. absurd (let z = u.0 in let y = t.0.0 in omega arith);
      falls = λ g d f. absurd (d (none_given g m h));
      opens = λ l i b. absurd (omega arith);
    },
    none_stories h t.1,
  )

  -- the layout with no objects has no byte
  none_length : 0 ≡ panel_length none
  unfolding panel_length blocks equipped with_told no_layout
  none_length = refl

  -- so every image is whole
  none_log : (h : History) → Throughout Unserved h → ExactLog none h
  unfolding Throughout
  none_log [] t = record { whole = tt; exact = tt }
  none_log (m ∷ h) t =
      let rest = none_log h t.1 in record { whole = (none_whole t.0.1, rest.whole); exact = (none_exact (m ∷ h), rest.exact) }
    where
      none_whole : m.image ≡ [] → length m.image ≡ panel_length none
      none_whole q = rw q none_length

  -- at the cold start too
  none_cold : [] ≡ image none cold
  unfolding image table table_from join equipped with_told no_layout
  none_cold = refl

  -- and none changes: all are empty
  none_keeps : (h : History) → Throughout Unserved h → Throughout (RefusedKeeps none) h
  unfolding Throughout last_image
  none_keeps [] t = tt
  none_keeps (m ∷ []) t = (λ d. t.0.1 ∙ none_cold, tt)
  none_keeps (m ∷ n ∷ h) t = (λ d. t.0.1 ∙ sym t.1.0.1, none_keeps (n ∷ h) t.1)

  pub none_demanded : (h : History) → Throughout Unserved h → Demanded none h
  none_demanded h t = record { safe = none_safe h; safe_log = none_safe_log h; exact = none_exact h; exact_log = none_log h t; distants = none_tell h; distants_log = none_tell_log h; stories = none_stories h t; refusals = none_keeps h t }
