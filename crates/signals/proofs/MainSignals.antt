-- What each main signal shows, as the routes from the last one down say it.
use Prim.Native.Nat.{ℕ, suc, ◌+◌, ◌-◌, ◌<◌, ◌≤◌}
use mathlib.Core.Path.{◌≡◌, refl, sym, ap, ◌∙◌}
use mathlib.Core.Bool.{Bool, true, false, ◌&&◌}
use mathlib.Core.List.{List}
use native.Mathlib.Numerals.{add-one}
use native.Mathlib.Omega.{arith}
use native.Mathlib.Decide.{ℕ_discrete}
use borrow.Author.Rules.{rules}
use borrow.Author.Tests.{eq-eqb, ne_eqb, lt-ltb, le-ltb}
use lib.Dec.{eqb}
use lib.ListN.{length, get_or, set, replicate, length-set, get_or-replicate, length-replicate}
use lib.Seq.{get_or-set_same, get_or-set_other, ext_get_or}
use Rattle.laws.specs.Choice.{when◌then◌else◌}
use Rattle.laws.specs.Tests.{◌and◌, lowest_from, lowest}
use Rattle.laws.specs.Tables.{table, read}
use Rattle.laws.proofs.Choice.{if_lt, if_ge}
use Rattle.laws.proofs.Searches.{from_here, from_next, from_none}
use Rattle.laws.proofs.Tables.{length_table, table_at}
use Rattle.track.specs.declared.Route.{Route}
use Rattle.track.specs.Codes.{at_proceed}
use Rattle.track.specs.Sizes.{most_signals, most_routes}
use Rattle.track.specs.Objects.{route}
use Rattle.tables.specs.Locks.{phase}
use Rattle.signals.specs.Aspects.{stop}
use Rattle.signals.specs.Signals.{route_proceeds}
use Rattle.signals.specs.MainSignals.{proceed_shown, shown_by, shown_for, main_shows}

-- a test and one that fails do not both hold
and_none : (b : Bool) → b && false ≡ false
and_none true = refl
and_none false = refl

-- ---- what the routes from r on say

module _ (n : ℕ) (rs : List Route) (phases : List ℕ) where
  -- route r puts signal x to proceed
  abbrev pub starts : ℕ → ℕ → Bool
  starts x r = route_proceeds phases r (route rs r) x

  -- what signal x shows by the routes from r on
  unfoldable pub from : ℕ → ℕ → ℕ
  from r x = shown_for n rs (lowest_from (n - r) r (starts x))

  -- by the routes from n on it shows 20
  from_last : (x : ℕ) → from n x ≡ stop
  unfolding from shown_for
  from_last x =
      let none : n - n ≡ 0 = omega arith in
      ap (λ k. shown_for n rs (lowest_from k n (starts x))) none ∙ ap (shown_for n rs) (from_none n (starts x)) ∙ sym (if_ge n n _ _ stop (omega arith) refl)

  -- where route r does not put it to proceed, it shows what the later ones say
  from_later : (r x : ℕ) → r < n → starts x r ≡ false → from r x ≡ from (r + 1) x
  unfolding from
  from_later r x b e =
      let left : n - r ≡ suc (n - (r + 1)) = omega arith in
      ap (shown_for n rs) (ap (λ k. lowest_from k r (starts x)) left ∙ from_next (n - (r + 1)) r (starts x) e
      ∙ ap (λ k. lowest_from (n - (r + 1)) k (starts x)) (sym (add-one r)))

  -- where it does, it shows what the route says
  from_now : (r x : ℕ) → r < n → starts x r ≡ true → from r x ≡ proceed_shown (route rs r)
  unfolding from shown_for
  from_now r x b e =
      let left : n - r ≡ suc (n - (r + 1)) = omega arith in
      ap (shown_for n rs) (ap (λ k. lowest_from k r (starts x)) left ∙ from_here (n - (r + 1)) r (starts x) e)
      ∙ sym (if_lt r n _ _ (proceed_shown (route rs r)) b refl)

  -- ---- the loop

  -- each main signal shows what the routes from r on say
  unfoldable pub Lit : List ℕ → ℕ → Type 0
  Lit shown r = (length shown ≡ most_signals) × ((x : ℕ) → x < most_signals → get_or shown x 0 ≡ from r x)

  -- at first each shows 20: from n on there is no route
  pub lit_start : Lit (replicate most_signals stop) n
  unfolding Lit
  lit_start = (length-replicate {A = ℕ} most_signals stop, λ x b. get_or-replicate {A = ℕ} most_signals x stop 0 b ∙ sym (from_last x))

  -- a route past the table is idle, and puts no signal to proceed
  past_table : (r x : ℕ) → most_routes ≤ r → starts x r ≡ false
  unfolding route_proceeds ◌and◌ read when◌then◌else◌
  past_table r x b = rw (le-ltb r most_routes b)

  -- nor does a route that is not at proceed
  not_in_phase : (r x : ℕ) → r < most_routes → (get_or phases r 0 ≡ at_proceed → ⊥) → starts x r ≡ false
  unfolding route_proceeds ◌and◌ read when◌then◌else◌
  not_in_phase r x b e = rw (lt-ltb r most_routes b, ne_eqb (get_or phases r 0) at_proceed e)

  -- a route that starts at another signal does not put signal x to proceed
  not_there : (r x : ℕ) → ((route rs r).entry ≡ x → ⊥) → starts x r ≡ false
  unfolding route_proceeds ◌and◌
  not_there r x e = rw (ne_eqb (route rs r).entry x e) (and_none (eqb (phase phases r) at_proceed))

  -- a route at proceed that starts at signal x does
  there : (r x : ℕ) → r < most_routes → get_or phases r 0 ≡ at_proceed → (route rs r).entry ≡ x → starts x r ≡ true
  unfolding route_proceeds ◌and◌ read when◌then◌else◌
  there r x b e q = rw (lt-ltb r most_routes b, eq-eqb (get_or phases r 0) at_proceed e, eq-eqb (route rs r).entry x q)

  module _ (shown : List ℕ) (r : ℕ) (h : Lit shown r) (some : 0 < r) (last : r ≤ n) where
    -- a signal that route r - 1 does not put to proceed already shows what the routes from there on say
    kept : (x : ℕ) → x < most_signals → starts x (r - 1) ≡ false → get_or shown x 0 ≡ from (r - 1) x
    unfolding Lit
    kept x b e =
        let back : r ≡ r - 1 + 1 = omega arith in
        h.1 x b ∙ ap (λ k. from k x) back ∙ sym (from_later (r - 1) x (omega arith) e)

    -- a route past the table lights nothing
    pub lit_past : most_routes ≤ r - 1 → Lit shown (r - 1)
    unfolding Lit
    lit_past e = (h.0, λ x b. kept x b (past_table (r - 1) x e))

    -- nor does one that is not at proceed
    pub lit_idle : r - 1 < most_routes → (get_or phases (r - 1) 0 ≡ at_proceed → ⊥) → Lit shown (r - 1)
    unfolding Lit
    lit_idle c e = (h.0, λ x b. kept x b (not_in_phase (r - 1) x c e))

    module _ (a : Route) (same : a ≡ route rs (r - 1)) where
      -- nor does one that starts at a signal that there cannot be
      pub lit_nowhere : most_signals ≤ a.entry → Lit shown (r - 1)
      unfolding Lit
      lit_nowhere e =
          (h.0, λ x b. kept x b (not_there (r - 1) x (λ z. let y : a.entry ≡ x = ap (λ (m : Route). m.entry) same ∙ z in omega arith)))

      -- a route at proceed lights the signal that it starts at
      pub lit_on : (v : ℕ) → r - 1 < most_routes → get_or phases (r - 1) 0 ≡ at_proceed → a.entry < most_signals → v ≡ proceed_shown a
          → Lit (set shown a.entry v) (r - 1)
      unfolding Lit
      lit_on v c e b f = (length-set shown a.entry v ∙ h.0, λ x g. go x (ℕ_discrete x a.entry) g)
        where
          -- that signal shows what the route says, and each other what it showed
          go : (x : ℕ) → Dec (x ≡ a.entry) → x < most_signals → get_or (set shown a.entry v) x 0 ≡ from (r - 1) x
          go x (yes z) g =
              ap (λ k. get_or (set shown a.entry v) k 0) z ∙ get_or-set_same shown a.entry v 0 (omega (arith, h.0)) ∙ f ∙ ap proceed_shown same
              ∙ sym (from_now (r - 1) x (omega arith) (there (r - 1) x c e (ap (λ (m : Route). m.entry) (sym same) ∙ sym z)))
          go x (no z) g =
              get_or-set_other shown a.entry x v 0 z ∙ kept x g (not_there (r - 1) x (λ w. z (sym w ∙ ap (λ (m : Route). m.entry) (sym same))))

  -- from the first route on it is the table of what the signals show: signal by signal
  pub lit_end : (shown : List ℕ) (r : ℕ) → Lit shown r → r ≤ 0 → shown ≡ table most_signals (main_shows n rs phases)
  unfolding Lit from main_shows shown_by lowest
  lit_end shown r h z =
      ext_get_or 0 shown (table most_signals (main_shows n rs phases)) (h.0 ∙ sym (length_table most_signals _)) (λ x b.
      let l : length shown ≡ most_signals = h.0 in
      let first : r ≡ 0 = omega arith in
      let whole : n - 0 ≡ n = omega arith in
      h.1 x (omega arith) ∙ ap (λ k. shown_for n rs (lowest_from (n - k) k (starts x))) first
      ∙ ap (λ k. shown_for n rs (lowest_from k 0 (starts x))) whole ∙ sym (table_at most_signals (main_shows n rs phases) 0 x (omega arith)))

-- for the loop over the routes
pub ruleset lights = (rules, lit_start, lit_past, lit_idle, lit_nowhere, lit_on, lit_end)
