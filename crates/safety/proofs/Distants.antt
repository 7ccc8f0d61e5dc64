-- Each distant tells of the one signal that it announces: exactness says what it shows by the numbers of signals, and each number is one signal's (L2).
use Prim.Native.Nat.{ℕ, ◌-◌, ◌<◌}
use mathlib.Core.Path.{◌≡◌, refl, sym, ap, ◌∙◌}
use mathlib.Core.Logic.{◌⊎◌, inl, inr}
use native.Mathlib.Omega.{arith}
use Rattle.laws.specs.Choice.{when◌then◌else◌}
use Rattle.laws.proofs.Choice.{if_lt}
use Rattle.track.specs.Signal.{Signal}
use Rattle.track.specs.SignalNumbers.{signal_of}
use Rattle.track.proofs.SignalNumbers.{number_stands, one_number}
use Rattle.signals.specs.Aspects.{dark}
use Rattle.signals.specs.Shows.{number_shows}
use Rattle.signals.specs.Distants.{warning, Warns}
use Rattle.signals.proofs.DistantLaws.{unless_carried}
use Rattle.layout.specs.declared.Layout.{Layout}
use Rattle.layout.specs.Layout.{signals_in, carrier_of, announced_by}
use Rattle.layout_facts.specs.Plain.{CarriedBy, Sound}
use Rattle.layout_facts.proofs.Sound.{sound_says}
use Rattle.fitted.proofs.InUse.{in_use_sound}
use Rattle.panel.specs.Distants.{number_read}
use Rattle.panel.proofs.DistantLaws.{shows_warn}
use Rattle.safety.specs.History.{History, shown, history}
use Rattle.safety.specs.Exact.{Exact}
use Rattle.safety.specs.Distants.{HasNumber, Announces, MayLight, TellsOf, Distant, DistantsTell}
use Rattle.safety.proofs.Exact.{exact_run}

module _ (L : Layout) (h : History) where
  -- what shows of the signal of each number
  abbrev numbered : ℕ → ℕ
  numbered = number_read L (shown L h)

  -- where signal x has number k, that number shows what the signal shows
  number_shows_law : (x : Signal) (k : ℕ) → HasNumber L x k → numbered k ≡ (shown L h).signal x
  unfolding number_shows
  number_shows_law x k n =
      let one = one_number L.signals L.lines L.line x n.0 in
      ap numbered n.1 ∙ sym (if_lt _ _ _ _ _ one.below (ap (shown L h).signal (sym one.named)))

  -- every number of a signal is that of one signal
  signal_there : (k : ℕ) → k < signals_in L → HasNumber L (signal_of L.signals L.lines L.line k) k
  unfolding signals_in
  signal_there k b = let stands = number_stands L.signals L.lines L.line k b in (stands, (one_number _ _ _ _ stands).only k b refl)

  -- two signals of one number are one
  signal_one : (x y : Signal) (k : ℕ) → HasNumber L x k → HasNumber L y k → x ≡ y
  signal_one x y k n m =
      sym (one_number _ _ _ x n.0).named ∙ ap (signal_of L.signals L.lines L.line) (sym n.1 ∙ m.1) ∙ (one_number _ _ _ y m.0).named

  module _ (S : Sound L) (X : Exact L h) (d : ℕ) (b : d < L.distants) where
    -- what it shows warns as a driver may trust it
    warns : Warns numbered (carrier_of L d) (announced_by L d) ((shown L h).distant d)
    warns = shows_warn L (shown L h) X.distants d b

    -- unless a mast's signal keeps it dark it shows the warning of the signal announced
    unkept : MayLight L h d → (shown L h).distant d ≡ warning (numbered (announced_by L d))
    unfolding CarriedBy
    unkept free =
        X.distants d b
        ∙ unless_carried numbered (carrier_of L d) (announced_by L d) (λ k e c.
        let there = signal_there k ((S.ranges.distants d b).carrier k e) in
        free (signal_of L.signals L.lines L.line k) (k, e, there) (rw (number_shows_law _ k there) at c))

    -- of the signal that it announces
    tells_of : (x : Signal) → Announces L d x → TellsOf L h d x
    unfolding CarriedBy warning when◌then◌else◌
    tells_of x n =
        let same : numbered (announced_by L d) ≡ (shown L h).signal x = number_shows_law x (announced_by L d) n in
        record {
          stops = λ free e. unkept free ∙ ap warning (same ∙ e);
          diverges = λ free e. unkept free ∙ ap warning (same ∙ e);
          proceeds = λ free e. unkept free ∙ ap warning (same ∙ e);
          darkens = λ e. dark_of (same ∙ e) warns.only;
          carried = λ y m c. warns.carried m.0 m.1 (rw (← number_shows_law y m.0 m.2) at c);
          only_stop = λ e. sym same ∙ warns.of_stop e;
          only_diverging = λ e. sym same ∙ warns.of_diverging e;
          only_proceed = λ e. sym same ∙ warns.of_proceed e;
          only = warns.only;
        }
      where
        dark_of : numbered (announced_by L d) ≡ dark → ((shown L h).distant d ≡ dark) ⊎ ((shown L h).distant d ≡ 23) ⊎ ((shown L h).distant d ≡ 24) ⊎ ((shown L h).distant d ≡ 25)
            → (shown L h).distant d ≡ dark
        dark_of e (inl z) = z
        dark_of e (inr (inl z)) = absurd (let s = warns.of_stop z in omega arith)
        dark_of e (inr (inr (inl z))) = absurd (let s = warns.of_diverging z in omega arith)
        dark_of e (inr (inr (inr z))) = absurd (let s = warns.of_proceed z in omega arith)

    -- there is one, and it tells of that
    pub distant_tells : Distant L h d
    distant_tells =
        let there = signal_there (announced_by L d) (S.ranges.distants d b).announced in
        record {
          announced = signal_of L.signals L.lines L.line (announced_by L d);
          announces = there;
          one = λ x n. signal_one x _ (announced_by L d) n there;
          tells = tells_of _ there;
        }

-- on every layout in use, after every list of events
pub distants_tell : DistantsTell
distants_tell L u es d b = distant_tells L (history L es) (sound_says L (in_use_sound u)) (exact_run L (in_use_sound u) es) d b
