-- What the invariant says of signals at proceed: their line is secured, their block open, and no two lead into one block.
use Prim.Native.Nat.{ℕ, ◌+◌, ◌-◌, ◌<◌, ◌≤◌}
use mathlib.Core.Path.{◌≡◌, sym, ap, ap₂, ◌∙◌}
use mathlib.Core.Logic.{◌≢◌, inr, ⊎_elim}
use mathlib.Core.Bool.{true}
use native.Mathlib.Decide.{ℕ_discrete}
use native.Mathlib.Omega.{arith}
use borrow.Author.Tests.{eqb-true, eq-eqb, ne_eqb, ltb-true}
use lib.Dec.{ltb}
use Rattle.laws.proofs.Tests.{implied, every_at}
use Rattle.track.specs.Codes.{leaving}
use Rattle.track.specs.Objects.{nearest}
use Rattle.track.specs.Signal.{Signal, main, into, has_signal}
use Rattle.track.proofs.Ways.{leaving_some, leaving_once}
use Rattle.tables.specs.Blocks.{is_open}
use Rattle.signals.specs.Signals.{enterable_by, enterable, lets_out, clear}
use Rattle.layout.specs.declared.Layout.{Layout}
use Rattle.layout.specs.Layout.{line_in, route_in, conflict}
use Rattle.layout_facts.specs.Plain.{InBlock, nearest_block, Sound, same_entry}
use Rattle.layout_facts.proofs.Uses.{same_exit}
use Rattle.interlocking.specs.declared.State.{State}
use Rattle.safety.specs.History.{History}
use Rattle.safety.specs.Demand3.{Enters}
use Rattle.laws.proofs.Choice.{chosen, passed_over}
use Rattle.step_facts.proofs.Entries.{phase, direction, stage}
use Rattle.panel.specs.Panel.{image}
use Rattle.panel.proofs.Image.{present_into}
use Rattle.safety.proofs.Signals.{into_shown}
use Rattle.safety.proofs.SignalBytes.{main_for}
use Rattle.safety.proofs.Invariant.{Inv}

-- no exit signal and block signal lead into one block the same way: a block signal stands behind another block
not_both_kinds : (L : Layout) (l w i e : ℕ) → 1 ≤ (line_in L l).blocks → nearest_block L l e ≡ i → leaving e ≡ w → has_signal (line_in L l).blocks i w ≡ true → ⊥
unfolding has_signal nearest_block nearest leaving
not_both_kinds L l w i e some at way t = go (ℕ_discrete e 0)
  where
    go : Dec (e ≡ 0) → ⊥
    go (yes q) =
        let first : 0 ≡ i = sym (chosen _ _ _ (eq-eqb e 0 q)) ∙ at in
        let behind : ltb 0 i ≡ true = sym (chosen _ _ _ (eq-eqb w 1 (sym way ∙ chosen _ _ _ (eq-eqb e 0 q)))) ∙ t in
        let z = ltb-true 0 i behind in
        omega arith
    go (no q) =
        let last : (line_in L l).blocks - 1 ≡ i = sym (passed_over _ _ _ (ne_eqb e 0 q)) ∙ at in
        let behind : ltb (i + 1) (line_in L l).blocks ≡ true = sym (passed_over _ _ _ (ne_eqb w 1 (let z : w ≡ 2 = sym way ∙ passed_over _ _ _ (ne_eqb e 0 q) in omega arith))) ∙ t in
        let z = ltb-true (i + 1) (line_in L l).blocks behind in
        omega arith

module _ (L : Layout) (S : Sound L) (s : State) (h : History) (I : Inv L s h) where
  -- two locked routes that would conflict if they differed are one
  one_route : (r q : ℕ) → r < L.routes → q < L.routes → (r ≢ q → conflict L r q ≡ true) → phase s r ≢ 0 → phase s q ≢ 0 → r ≡ q
  one_route r q b c clash x y = go (ℕ_discrete r q)
    where
      go : Dec (r ≡ q) → r ≡ q
      go (yes z) = z
      go (no z) = absurd (I.apart r q b c (clash z) x y)

  -- a signal that shows proceed into a block: the line is secured its way, and the block is open. By rule 6 two locked routes that start at
  -- one signal are one
  pub enters_open : (x : Signal) (l i w : ℕ) → Enters L h x l i w → (direction s l ≡ w) × (stage s l i ≡ 0)
  unfolding clear lets_out enterable enterable_by is_open nearest nearest_block line_in
  enters_open (main x) l i w E =
      let (r, out) = E.leads in
      let (q, there, one, starts) = main_for L s h I x E.proceeds in
      let locked = (I.routes r out.there).locks.1 out.locked in
      let same = one_route q r there out.there (λ z. S.rule6.listed q r there out.there z (same_entry (starts ∙ sym out.starts))) (omega arith) locked in
      let c = I.lights r out.there (rw same at one) in
      let let_in = implied _ _ (every_at _ c 3) (eq-eqb _ 2 out.is_exit) in (
        ap (direction s) (sym out.of_line) ∙ I.exits r out.there out.is_exit locked ∙ out.way,
        ap₂ (stage s) (sym out.of_line) (sym out.enters) ∙ eqb-true _ 0 (every_at _ let_in 0),
      )
  enters_open (into k j v) l i w E =
      let (a, b, c) = into_shown L s k j v (rw I.seen at E.proceeds) in
      let q = E.leads in
      (ap (direction s) (sym q.0) ∙ b ∙ q.2, ap₂ (stage s) (sym q.0) (sym q.1) ∙ eqb-true _ 0 (every_at _ c 0))

  -- its direction is not neutral: an end is left in one of two ways, and a block signal stands for one of two
  pub enters_some_way : (x : Signal) (l i w : ℕ) → Enters L h x l i w → w ≢ 0
  enters_some_way (main x) l i w E z = let (r, out) = E.leads in leaving_some _ (out.way ∙ z)
  enters_some_way (into k j v) l i w E z =
      ⊎_elim (λ q. let u = E.leads.2 in omega arith) (λ q. let u = E.leads.2 in omega arith)
      (present_into L (image L s) k j v (rw I.seen at E.proceeds)).2

  -- never one of each kind
  either : (x k j v l i w : ℕ) → Enters L h (main x) l i w → Enters L h (into k j v) l i w → ⊥
  either x k j v l i w E F =
      let (r, out) = E.leads in
      let q = F.leads in
      not_both_kinds L k v j (route_in L r).end (rw q.0 (S.ranges.lines l E.of_line).block_count.0)
      (ap (λ n. nearest_block L n (route_in L r).end) (q.0 ∙ sym out.of_line) ∙ out.enters ∙ sym q.1) (out.way ∙ sym q.2)
      (into_shown L s k j v (rw I.seen at F.proceeds)).0

  -- at most one signal shows proceed into a block in one direction. By rules 5 and 6 two locked exit routes by one end of a line are one
  one_signal : (x y : Signal) (l i w : ℕ) → Enters L h x l i w → Enters L h y l i w → y ≡ x
  one_signal (main x) (main y) l i w E F =
      let (r, out) = E.leads in
      let (q, off) = F.leads in
      let ends = leaving_once (route_in L q).end (route_in L r).end ((S.ranges.routes q off.there).line (inr off.is_exit)).1
      ((S.ranges.routes r out.there).line (inr out.is_exit)).1 (off.way ∙ sym out.way) in
      let same = one_route q r off.there out.there
      (λ z. same_exit L S q r off.there out.there z off.is_exit out.is_exit (off.of_line ∙ sym out.of_line) ends)
      ((I.routes q off.there).locks.1 off.locked) ((I.routes r out.there).locks.1 out.locked) in
      ap main (sym off.starts ∙ ap (λ k. (route_in L k).entry) same ∙ out.starts)
  one_signal (main x) (into k j v) l i w E F = absurd (either x k j v l i w E F)
  one_signal (into k j v) (main y) l i w E F = absurd (either y k j v l i w F E)
  one_signal (into k j v) (into m n u) l i w E F =
      let p = E.leads in
      let q = F.leads in
      rw (p.0, p.1, p.2, q.0, q.1, q.2)

  -- rule 1: so at most one shows proceed into a section, whatever lines and blocks have it
  pub alone : (x y : Signal) (l i w k j v g : ℕ) → Enters L h x l i w → Enters L h y k j v → InBlock L k j g → InBlock L l i g → y ≡ x
  alone x y l i w k j v g E F p q =
      let (line, number) = S.rule1.once k j l i g F.of_line F.of_block E.of_line E.of_block p q in
      let way : v ≡ w = sym (enters_open y k j v F).0 ∙ ap (direction s) line ∙ (enters_open x l i w E).0 in
      one_signal x y l i w E (rw (line, number, way) at F)
