-- What follows from a sound layout, as the safety of the box needs it.
use Prim.Native.Nat.{ℕ, ◌-◌, ◌<◌, ◌≤◌}
use mathlib.Core.Path.{◌≡◌, sym, ap₂, ◌∙◌}
use mathlib.Core.Bool.{true}
use mathlib.Core.Logic.{◌≢◌, inl, inr}
use native.Mathlib.Omega.{arith}
use native.Mathlib.Decide.{ℕ_discrete}
use Rattle.laws.proofs.Choice.{if_both}
use Rattle.track.specs.Objects.{nearest}
use Rattle.layout.specs.declared.Layout.{Layout}
use Rattle.layout.specs.Layout.{line_in, route_in, conflict}
use Rattle.layout_facts.specs.Plain.{inner_section, entrance_signal, path, nearest_block, Sound, common_path}
use Rattle.layout_facts.proofs.Order.{one_of}

module _ (L : Layout) (S : Sound L) where
  -- the block nearest an end is there
  pub nearest_there : (l e : ℕ) → l < L.lines → nearest_block L l e < (line_in L l).blocks
  unfolding nearest_block nearest
  nearest_there l e hl = let few = (S.ranges.lines l hl).block_count in if_both (λ i. i < (line_in L l).blocks) _ (λ a. omega arith) (λ b. omega arith)

  -- and so is the block that an exit route enters
  pub entered_block : (r : ℕ) → r < L.routes → (route_in L r).kind ≡ 2
      → nearest_block L (route_in L r).line (route_in L r).end < (line_in L (route_in L r).line).blocks
  entered_block r hr k = nearest_there (route_in L r).line (route_in L r).end ((S.ranges.routes r hr).line (inr k)).0

  -- rules 2 and 5: whoever starts at an entrance signal is an entrance route by that end of that line
  entrance_route : (r l e : ℕ) → r < L.routes → l < L.lines → e ≤ 1 → (route_in L r).entry ≡ entrance_signal L l e
      → ((route_in L r).kind ≡ 1) × ((route_in L r).line ≡ l) × ((route_in L r).end ≡ e)
  entrance_route r l e hr hl he q = go (ℕ_discrete (route_in L r).kind 1)
    where
      go : Dec ((route_in L r).kind ≡ 1) → ((route_in L r).kind ≡ 1) × ((route_in L r).line ≡ l) × ((route_in L r).end ≡ e)
      go (no d) = absurd (S.rule5.no_entrance r l e hr (one_of _ 0 2 (omega (arith, (S.ranges.routes r hr).kind))) hl he q)
      go (yes k) =
          let there = (S.ranges.routes r hr).line (inl k) in
          let same = S.rule2.entrances (route_in L r).line (route_in L r).end l e there.0 there.1 hl he (sym (S.rule5.start r hr k) ∙ q) in
          (k, same.0, same.1)

  -- and goes by that end's inner section first
  pub entrance_path : (r l e : ℕ) → r < L.routes → l < L.lines → e ≤ 1 → (route_in L r).entry ≡ entrance_signal L l e → path L r 0 ≡ inner_section L l e
  entrance_path r l e hr hl he q =
      let own = entrance_route r l e hr hl he q in
      S.rule5.first r hr own.0 ∙ ap₂ (inner_section L) own.1 own.2

  -- rules 5 and 6: two exit routes by one end of a line conflict
  pub same_exit : (r q : ℕ) → r < L.routes → q < L.routes → r ≢ q → (route_in L r).kind ≡ 2 → (route_in L q).kind ≡ 2
      → (route_in L r).line ≡ (route_in L q).line → (route_in L r).end ≡ (route_in L q).end → conflict L r q ≡ true
  same_exit r q hr hq d kr kq line end =
      let pr = (S.ranges.routes r hr).path_count in
      let pq = (S.ranges.routes q hq).path_count in
      S.rule6.listed r q hr hq d (common_path ((route_in L r).paths - 1) ((route_in L q).paths - 1) (omega arith) (omega arith)
      (S.rule5.last r hr kr ∙ ap₂ (inner_section L) line end ∙ sym (S.rule5.last q hq kq)))
