-- Demand 3 holds: the invariant says what is demanded.
use Prim.Native.Nat.{ℕ, ◌<◌}
use mathlib.Core.Path.{◌≡◌, sym, ap, ◌∙◌}
use mathlib.Core.Logic.{inr}
use mathlib.Core.Bool.{true}
use mathlib.Core.List.{List}
use Rattle.track.specs.Signal.{Signal, main}
use Rattle.track.proofs.Ways.{leaving_some}
use Rattle.layout.specs.declared.Layout.{Layout}
use Rattle.layout.specs.Layout.{route_in}
use Rattle.layout.specs.Sound.{sound}
use Rattle.layout_facts.specs.Plain.{Sound}
use Rattle.layout_facts.proofs.Sound.{sound_says}
use Rattle.fitted.proofs.InUse.{in_use_sound}
use Rattle.interlocking.specs.declared.State.{State}
use Rattle.step_facts.specs.Run.{Event}
use Rattle.panel.specs.Shown.{Panel}
use Rattle.safety.specs.History.{History, shown, history}
use Rattle.safety.specs.Cleared.{Proceeds}
use Rattle.safety.specs.Lights.{AtProceed}
use Rattle.safety.specs.Demand3.{Enters, Guarded, Safe, Demand3}
use Rattle.panel.proofs.Image.{shows_line}
use Rattle.step_facts.proofs.Entries.{direction}
use Rattle.safety.proofs.Invariant.{Inv}
use Rattle.safety.proofs.SignalBytes.{proceed_means, main_for}
use Rattle.safety.proofs.Alone.{enters_open, alone, enters_some_way}
use Rattle.safety.proofs.Kept.{run_has}

module _ (L : Layout) (S : Sound L) (s : State) (h : History) (I : Inv L s h) where
  -- a main signal at proceed has a route in phase 1, and that is at proceed
  backed : (x : ℕ) → Proceeds (shown L h) (main x) → (r : ℕ) × (r < L.routes) × ((route_in L r).entry ≡ x) × AtProceed L r h
  backed x p = let (r, there, one, starts) = main_for L s h I x p in (r, there, starts, (proceed_means L s h I r there).0 one)

  -- what a line shows
  line_shown : (l : ℕ) → l < L.lines → (shown L h).line l ≡ direction s l
  line_shown l b = ap (λ (p : Panel). p.line l) I.seen ∙ shows_line L s l b

  -- a signal at proceed into a block has its line secured and its block open; an open block reads free and was cleared
  guarded : (x : Signal) (l i w : ℕ) → Enters L h x l i w → Guarded L h x l i w
  guarded x l i w E =
      let (way, open_now) = enters_open L S s h I x l i w E in
      let o = (I.blocks l i E.of_line E.of_block).opens.0 open_now in
      record {
        secured = (I.lines l E.of_line w (enters_some_way L S s h I x l i w E)).0 way;
        shows_secured = line_shown l E.of_line ∙ way;
        alone = λ y k j v g F p q. alone L S s h I x _ l i w _ _ _ g E F p q;
        is_free = o.is_free;
        cleared = o.cleared;
      }

  -- together
  pub safe : Safe L h
  safe = record {
    apart = λ r q b c t x y. I.apart r q b c t ((I.routes r b).locks.1 x) ((I.routes q c).locks.1 y);
    exits = λ r b k x.
        (I.lines (route_in L r).line ((S.ranges.routes r b).line (inr k)).0 _ (leaving_some (route_in L r).end)).0 (I.exits r b k ((I.routes r b).locks.1 x));
    directions = λ l w b d q. (I.lines l b w d).0 (sym (line_shown l b) ∙ q);
    backed = backed;
    guarded = guarded;
  }

-- on any sound layout
pub safe_run : (L : Layout) → sound L ≡ true → (es : List Event) → Safe L (history L es)
safe_run L ok es = safe L (sound_says L ok) _ _ (run_has L ok es)

-- on any layout file that loads with 0
pub demand3 : Demand3
demand3 L u es = safe_run L (in_use_sound u) es
