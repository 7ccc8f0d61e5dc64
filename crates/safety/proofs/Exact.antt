-- All that shows is what the history tells: the invariant says so of every byte.
use Prim.Native.Nat.{ℕ, ◌<◌, ◌≤◌}
use mathlib.Core.Path.{◌≡◌, sym, ap, ◌∙◌}
use mathlib.Core.Logic.{◌≢◌, ◌↔◌}
use mathlib.Core.Bool.{true}
use mathlib.Core.List.{List}
use native.Mathlib.Decide.{ℕ_discrete}
use native.Mathlib.Omega.{arith}
use borrow.Author.Tests.{eqb-true, eq-eqb, ne_eqb}
use lib.Dec.{eqb}
use Rattle.laws.proofs.Choice.{if_both, chosen, passed_over}
use Rattle.layout.specs.declared.Layout.{Layout}
use Rattle.layout.specs.Layout.{line_in}
use Rattle.layout.specs.Sound.{sound}
use Rattle.layout_facts.specs.Plain.{Sound}
use Rattle.layout_facts.proofs.Sound.{sound_says}
use Rattle.fitted.proofs.InUse.{in_use_sound}
use Rattle.interlocking.specs.declared.State.{State}
use Rattle.panel.specs.Panel.{route_byte}
use Rattle.step_facts.specs.Run.{Event}
use Rattle.step_facts.proofs.Range.{in_range_means, read_within}
use Rattle.panel.specs.Shown.{Panel}
use Rattle.safety.specs.History.{History, shown, history}
use Rattle.safety.specs.Locked.{Cancelled, Locked}
use Rattle.safety.specs.Exact.{BlockExact, LineExact, RouteExact, Exact, ShowsExactly}
use Rattle.step_facts.proofs.Entries.{phase, direction, stage}
use Rattle.panel.proofs.Image.{shows_section, shows_point, shows_route, shows_line, shows_block}
use Rattle.panel.proofs.DistantLaws.{distants_show}
use Rattle.safety.proofs.Invariant.{Inv}
use Rattle.safety.proofs.Through.{few_stages}
use Rattle.safety.proofs.SignalBytes.{main_exact, block_signal_exact}
use Rattle.safety.proofs.Kept.{run_has}

-- ---- the byte of a route by its phase

pub byte_idle : (p : ℕ) → route_byte p ≡ 0 ↔ p ≡ 0
unfolding route_byte
byte_idle p = (
  if_both (λ n. n ≡ 0 → p ≡ 0) (eqb p 0) (λ t z. eqb-true p 0 t) (λ f. if_both (λ n. n ≡ 0 → p ≡ 0) _ (λ t z. absurd (omega arith)) (λ t z. absurd (omega arith))),
  λ z. chosen _ _ _ (eq-eqb p 0 z),
)

byte_cancelling : (p : ℕ) → route_byte p ≡ 2 ↔ p ≡ 3
unfolding route_byte
byte_cancelling p = (
  if_both (λ n. n ≡ 2 → p ≡ 3) (eqb p 0) (λ t z. absurd (omega arith)) (λ f. if_both (λ n. n ≡ 2 → p ≡ 3) (eqb p 3) (λ t z. eqb-true p 3 t) (λ t z. absurd (omega arith))),
  λ z. passed_over _ _ _ (ne_eqb p 0 (omega arith)) ∙ chosen _ _ _ (eq-eqb p 3 z),
)

byte_locked : (p : ℕ) → p ≢ 0 → p ≢ 3 → route_byte p ≡ 1
unfolding route_byte
byte_locked p d c = passed_over _ _ _ (ne_eqb p 0 d) ∙ passed_over _ _ _ (ne_eqb p 3 c)

byte_most : (p : ℕ) → route_byte p ≤ 2
unfolding route_byte
byte_most p = if_both (λ n. n ≤ 2) _ (λ t. omega arith) (λ f. if_both (λ n. n ≤ 2) _ (λ t. omega arith) (λ t. omega arith))

-- ---- what shows

module _ (L : Layout) (S : Sound L) (s : State) (h : History) (I : Inv L s h) where
  -- a block
  block_exact : (l i : ℕ) → l < L.lines → i < (line_in L l).blocks → BlockExact L h l i
  block_exact l i b c =
      let byte : (shown L h).block l i ≡ stage s l i = ap (λ (p : Panel). p.block l i) I.seen ∙ shows_block L s l i b c in
      let told = I.blocks l i b c in
      record {
        opens = rw byte told.opens;
        enters = rw byte told.enters;
        passes = rw byte (λ z. (direction s l, (told.passes z).1), λ p. (told.waits p.0 p.1).0);
        waits = rw byte (λ z. (direction s l, (told.holds z).1), λ p. (told.held p.0 p.1).0);
        most = rw byte (few_stages s I.ranged l i);
      }

  -- a line
  line_exact : (l : ℕ) → l < L.lines → LineExact L h l
  line_exact l b =
      let byte : (shown L h).line l ≡ direction s l = ap (λ (p : Panel). p.line l) I.seen ∙ shows_line L s l b in
      record { secured = rw byte (I.lines l b); most = rw byte (read_within ((in_range_means s).0 I.ranged).direction 0 l (omega arith)).1 }

  -- a route
  route_exact : (r : ℕ) → r < L.routes → RouteExact L h r
  route_exact r b = record { idles = idles; locks = locks; cancels = cancels; most = rw byte (byte_most (phase s r)) }
    where
      byte : (shown L h).route r ≡ route_byte (phase s r)
      byte = ap (λ (p : Panel). p.route r) I.seen ∙ shows_route L s r b

      idles : (shown L h).route r ≡ 0 ↔ ¬ Locked L r h
      idles = (
        λ z x. (I.routes r b).locks.1 x ((byte_idle _).0 (sym byte ∙ z)),
        λ n. byte ∙ (byte_idle _).1 (go n (ℕ_discrete (phase s r) 0)),
      )
        where
          go : ¬ Locked L r h → Dec (phase s r ≡ 0) → phase s r ≡ 0
          go n (yes z) = z
          go n (no d) = absurd (n ((I.routes r b).locks.0 d))

      cancels : (shown L h).route r ≡ 2 ↔ (Locked L r h × Cancelled r h)
      cancels = (
        λ z. let three = (byte_cancelling _).0 (sym byte ∙ z) in
            let d : phase s r ≢ 0 = λ q. omega arith in
            ((I.routes r b).locks.0 d, ((I.routes r b).cancels d).0 three),
        λ x. byte ∙ (byte_cancelling _).1 (((I.routes r b).cancels ((I.routes r b).locks.1 x.0)).1 x.1),
      )

      locks : (shown L h).route r ≡ 1 ↔ (Locked L r h × ¬ Cancelled r h)
      locks = (
        λ z. let d : phase s r ≢ 0 = λ q. let y = (byte_idle (phase s r)).1 q in omega (arith, byte) in
            ((I.routes r b).locks.0 d, λ c. let y = (byte_cancelling (phase s r)).1 (((I.routes r b).cancels d).1 c) in omega (arith, byte)),
        λ x. let d = (I.routes r b).locks.1 x.0 in byte ∙ byte_locked (phase s r) d (λ q. x.1 (((I.routes r b).cancels d).0 q)),
      )

  -- all of it
  pub exact : Exact L h
  exact = record {
    sections = λ g b. ap (λ (p : Panel). p.section g) I.seen ∙ shows_section L s g b ∙ I.reads g b;
    points = λ p b. ap (λ (q : Panel). q.point p) I.seen ∙ shows_point L s p b ∙ I.points p b;
    blocks = block_exact;
    lines = line_exact;
    routes = route_exact;
    mains = main_exact L s h I S;
    block_signals = block_signal_exact L S s h I;
    distants = rw I.seen (distants_show L s);
  }

-- on any sound layout
pub exact_run : (L : Layout) → sound L ≡ true → (es : List Event) → Exact L (history L es)
exact_run L ok es = exact L (sound_says L ok) _ _ (run_has L ok es)

-- on any layout file that loads with 0
pub shows_exactly : ShowsExactly
shows_exactly L u es = exact_run L (in_use_sound u) es
