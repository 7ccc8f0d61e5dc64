-- Distants (L2): by the table of main signals, and by what the panel shows of signals, each shows what it shows; so what it tells a driver holds of the
-- panel; and the image of a layout that has none is that of document 01.
use Prim.Native.Nat.{ℕ, ◌≤◌}
use mathlib.Core.Path.{◌≡◌, refl, sym, ap, subst, ◌∙◌}
use mathlib.Core.Bool.{true}
use mathlib.Core.List.{List, append-nil}
use mathlib.Core.Logic.{⊎_elim}
use native.Mathlib.Omega.{arith}
use borrow.Author.Tests.{leb-true, eq-eqb}
use lib.ListN.{get_or}
use Rattle.laws.specs.Choice.{when◌then◌else◌}
use Rattle.laws.specs.Tables.{table_from, table, read}
use Rattle.laws.proofs.Arrays.{read_at}
use Rattle.laws.proofs.Choice.{chosen}
use Rattle.laws.proofs.Tables.{table_at}
use Rattle.laws.proofs.Tests.{every_at, or_left, or_right}
use Rattle.track.specs.Codes.{a_to_b, b_to_a}
use Rattle.track.specs.Sizes.{most_signals}
use Rattle.track.specs.Signal.{Signal, main, into, Stands}
use Rattle.signals.specs.Aspects.{dark}
use Rattle.signals.specs.MainSignals.{main_shows}
use Rattle.signals.specs.Shows.{shows_with, shows, number_shown_by}
use Rattle.signals.specs.Distants.{distant_shows, Warns}
use Rattle.signals.proofs.ByNumber.{numbers_same}
use Rattle.signals.proofs.DistantLaws.{distant_warns}
use Rattle.file_objects.specs.Distants.{most_distants_of}
use Rattle.layout.specs.declared.Layout.{Layout}
use Rattle.layout.specs.Layout.{line_in, carrier_of, announced_by}
use Rattle.layout.specs.Sound.{fits, sound}
use Rattle.interlocking.specs.declared.State.{State}
use Rattle.panel.specs.Panel.{signal_shows, distant_byte, image}
use Rattle.panel.specs.Writes.{distant_by}
use Rattle.panel.specs.Shown.{Panel, panel}
use Rattle.panel.specs.Distants.{number_read, DistantsShow, DistantsWarn, image_without_distants}
use Rattle.panel.proofs.Image.{shows_main, shows_into, shows_distant}

-- L2: what a distant shows is what a driver may trust, on any panel
pub shows_warn : (L : Layout) (p : Panel) → DistantsShow L p → DistantsWarn L p
shows_warn L p show d b = subst (Warns (number_read L p) (carrier_of L d) (announced_by L d)) (sym (show d b)) (distant_warns _ _ _)

module _ (L : Layout) (s : State) where
  -- ---- by the table of what each main signal shows

  module _ (mains : List ℕ) (e : mains ≡ table most_signals (main_shows L.routes L.route s.phase)) (few : L.signals ≤ most_signals) where
    -- it says of each signal that stands what it shows: a main signal has its place in the table, and a block signal is asked of the state
    table_shows : (x : Signal) → Stands L.signals L.lines L.line x
        → shows_with (λ k. read most_signals dark mains k) L.line s.direction s.point s.stage s.bar x
        ≡ shows L.routes L.route s.phase L.line s.direction s.point s.stage s.bar x
    unfolding shows shows_with
    table_shows (main x) b =
        read_at most_signals dark mains x (omega arith) ∙ ap (λ (ys : List ℕ). get_or ys x 0) e
        ∙ table_at most_signals (main_shows L.routes L.route s.phase) 0 x (omega arith)
    table_shows (into l i w) b = refl

    -- so of each number
    by_table : number_shown_by L.signals L.lines L.line mains s.direction s.point s.stage s.bar ≡ signal_shows L s
    unfolding number_shown_by signal_shows
    by_table = numbers_same L.signals L.lines L.line _ _ table_shows

    -- and of each distant
    pub distants_by : distant_by L s mains ≡ distant_byte L s
    unfolding distant_by distant_byte
    distants_by = ap {B = ℕ → ℕ} (λ (shown : ℕ → ℕ) d. distant_shows shown (carrier_of L d) (announced_by L d)) by_table

  -- ---- by what the panel shows of signals

  -- of each signal that stands the panel shows what it shows
  panel_shows : (x : Signal) → Stands L.signals L.lines L.line x
      → (panel L (image L s)).signal x ≡ shows L.routes L.route s.phase L.line s.direction s.point s.stage s.bar x
  unfolding shows shows_with line_in
  panel_shows (main x) b = shows_main L s x b
  panel_shows (into l i w) (b, h, d, u) =
      shows_into L s l i w b h d ∙ sym (chosen _ _ dark (⊎_elim (λ e. or_left _ _ (eq-eqb w a_to_b e)) (λ e. or_right _ _ (eq-eqb w b_to_a e)) d))

  -- so each distant that the panel shows is what L2 says of the signals that it shows
  pub distants_show : DistantsShow L (panel L (image L s))
  unfolding distant_byte signal_shows
  distants_show d b =
      shows_distant L s d b
      ∙ ap (λ (shown : ℕ → ℕ). distant_shows shown (carrier_of L d) (announced_by L d)) (sym (numbers_same L.signals L.lines L.line _ _ panel_shows))

  -- ---- a layout that has none

  -- L2: its image is that of document 01
  pub without_distants : L.distants ≡ 0 → image L s ≡ image_without_distants L s
  unfolding image image_without_distants table table_from
  without_distants e = rw (e, append-nil)

  -- so is that of each sound layout of version 1, which has none
  pub version_1_image : sound L ≡ true → L.version ≡ 1 → image L s ≡ image_without_distants L s
  unfolding sound fits most_distants_of when◌then◌else◌
  version_1_image h e =
      let few : L.distants ≤ most_distants_of L.version = leb-true _ _ (every_at _ (every_at _ h 0) 7) in
      let none : most_distants_of L.version ≡ 0 = ap most_distants_of e in
      without_distants (omega (arith, few, none))
