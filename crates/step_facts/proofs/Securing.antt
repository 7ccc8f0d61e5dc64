-- Which event secures a line: an order to secure it, or (L5) to set an exit route of it while it is neutral. And what direction a line then has, as far as the
-- event itself goes.
use Prim.Native.Nat.{ℕ, ◌<◌, ◌≤◌}
use mathlib.Core.Path.{◌≡◌, refl, sym, ap, ◌∙◌}
use mathlib.Core.Logic.{◌⊎◌, inl, inr, ⊎_elim}
use mathlib.Core.Bool.{true}
use mathlib.Core.List.{List}
use native.Mathlib.Decide.{ℕ_discrete}
use native.Mathlib.Omega.{arith}
use borrow.Author.Tests.{eqb-true, eq-eqb}
use Rattle.laws.specs.Tests.{◌and◌}
use Rattle.laws.specs.Tables.{read, put}
use Rattle.laws.proofs.Choice.{if_both, chosen}
use Rattle.laws.proofs.Tests.{and_left, and_right, and_both}
use Rattle.track.specs.declared.Route.{Route}
use Rattle.track.specs.Codes.{leaving}
use Rattle.track.specs.Sizes.{most_lines}
use Rattle.tables.specs.Locks.{departs}
use Rattle.layout.specs.declared.Layout.{Layout}
use Rattle.layout.specs.Layout.{route_in}
use Rattle.layout.specs.Sound.{sound}
use Rattle.interlocking.specs.declared.State.{State}
use Rattle.interlocking.specs.State.{in_range, with_sections, with_routes, with_lines, with_axles}
use Rattle.interlocking.specs.Own.{own_section, own_lock, own_cancel, own_secure, own_manual}
use Rattle.interlocking.specs.Step.{refusal}
use Rattle.interlocking.proofs.Departure.{first_directions}
use Rattle.step_facts.specs.Run.{Event}
use Rattle.step_facts.proofs.Entries.{direction, put_here, put_elsewhere}
use Rattle.step_facts.proofs.Passed.{secure_neutral, set_way}
use Rattle.step_facts.proofs.Tells.{tells_no_order}
use Rattle.step_facts.proofs.Within.{On, done, Done, reads, sets, cancels, secures, opens, leaves, is_done}

-- ---- which event secures a line

-- it sets an exit route of line l, which is neutral (L5)
pub record Departs (L : Layout) (s : State) (e : Event) (l : ℕ) : Type 0 where
  pub is_set : e.kind ≡ 4
  pub is_exit : (route_in L e.first).kind ≡ 2
  pub of_line : (route_in L e.first).line ≡ l
  pub is_neutral : direction s l ≡ 0

-- it secures line l: by its own order, or by setting such a route
abbrev pub Secures : Layout → State → Event → ℕ → Type 0
Secures L s e l = On 6 e l ⊎ Departs L s e l

module _ (L : Layout) (s : State) (e : Event) (l : ℕ) where
  -- what the test of L5 says
  departs_told : e.kind ≡ 4 → departs s.direction (route_in L e.first) ≡ true → (route_in L e.first).line ≡ l → Departs L s e l
  unfolding departs
  departs_told k t q = record { is_set = k; is_exit = eqb-true _ 2 (and_left _ _ t); of_line = q; is_neutral = ap (direction s) (sym q) ∙ eqb-true _ 0 (and_right _ _ t) }

  departs_tested : Departs L s e l → departs s.direction (route_in L e.first) ≡ true
  unfolding departs
  departs_tested D = and_both _ _ (eq-eqb _ 2 D.is_exit) (eq-eqb _ 0 (ap (direction s) D.of_line ∙ D.is_neutral))

  -- it is told by four numbers
  pub departing : Dec (Departs L s e l)
  departing = go (ℕ_discrete e.kind 4) (ℕ_discrete (route_in L e.first).kind 2) (ℕ_discrete (route_in L e.first).line l) (ℕ_discrete (direction s l) 0)
    where
      go : Dec (e.kind ≡ 4) → Dec ((route_in L e.first).kind ≡ 2) → Dec ((route_in L e.first).line ≡ l) → Dec (direction s l ≡ 0) → Dec (Departs L s e l)
      go (yes k) (yes x) (yes q) (yes z) = yes (record { is_set = k; is_exit = x; of_line = q; is_neutral = z })
      go (no n) x q z = no (λ D. n D.is_set)
      go (yes k) (no n) q z = no (λ D. n D.is_exit)
      go (yes k) (yes x) (no n) z = no (λ D. n D.of_line)
      go (yes k) (yes x) (yes q) (no n) = no (λ D. n D.is_neutral)

-- ---- the directions in which a route locks

module _ (directions : List ℕ) (a : Route) (l : ℕ) (b : l < most_lines) where
  -- where it departs, its line has the route's way
  first_here : departs directions a ≡ true → a.line ≡ l → read most_lines 0 (first_directions directions a) l ≡ leaving a.end
  first_here t q = ap (λ (xs : List ℕ). read most_lines 0 xs l) (chosen _ _ _ t) ∙ put_here most_lines 0 directions a.line _ l b (sym q)

  -- any other line keeps its own
  first_elsewhere : (departs directions a ≡ true → a.line ≡ l → ⊥) → read most_lines 0 (first_directions directions a) l ≡ read most_lines 0 directions l
  first_elsewhere n =
      if_both (λ xs. read most_lines 0 xs l ≡ read most_lines 0 directions l) (departs directions a)
      (λ t. put_elsewhere most_lines 0 directions a.line _ l b (λ z. n t (sym z))) (λ f. refl)

-- ---- the direction of a line within one event

module _ (L : Layout) (few : L.lines ≤ most_lines) (s : State) (e : Event) (l : ℕ) (b : l < L.lines) where
  -- a line that the event neither secures nor releases by hand keeps its direction
  pub direction_same : ¬ Secures L s e l → ¬ On 7 e l → direction (done L s e) l ≡ direction s l
  unfolding own_section own_lock own_cancel own_secure own_manual with_sections with_routes with_lines with_axles
  direction_same n m = go (is_done L s e)
    where
      elsewhere : (v : ℕ) → (e.first ≡ l → ⊥) → read most_lines 0 (put most_lines s.direction e.first v) l ≡ direction s l
      elsewhere v d = put_elsewhere most_lines 0 s.direction e.first v l (omega arith) (λ z. d (sym z))

      go : {t : State} → Done L s e t → direction t l ≡ direction s l
      go (reads k) = refl
      go (sets k) = first_elsewhere s.direction (route_in L e.first) l (omega arith) (λ t q. n (inr (departs_told L s e l k t q)))
      go (cancels k) = refl
      go (secures k) = elsewhere _ (λ q. n (inl (k, q)))
      go (opens k) = elsewhere _ (λ q. m (k, q))
      go (leaves f u) = rw u.2 refl

  -- a neutral line of which an exit route is set has that route's way
  pub departs_way : Departs L s e l → direction (done L s e) l ≡ leaving (route_in L e.first).end
  unfolding own_lock with_routes with_lines
  departs_way D = go (is_done L s e)
    where
      go : {t : State} → Done L s e t → direction t l ≡ leaving (route_in L e.first).end
      go (reads t) = absurd (tells_no_order t (let k = D.is_set in omega arith))
      go (sets k) = first_here s.direction (route_in L e.first) l (omega arith) (departs_tested L s e l D) D.of_line
      go (cancels k) = absurd (let z = D.is_set in omega arith)
      go (secures k) = absurd (let z = D.is_set in omega arith)
      go (opens k) = absurd (let z = D.is_set in omega arith)
      go (leaves f u) = absurd (f.0 D.is_set)

module _ (L : Layout) (s : State) (e : Event) (pass : (refusal (sound L and in_range s) L s e.kind e.first e.second).number ≡ 0) (l : ℕ) where
  -- 12: a line that an accepted event secures was neutral
  pub secures_neutral : Secures L s e l → direction s l ≡ 0
  secures_neutral = ⊎_elim (λ u. ap (direction s) (sym u.1) ∙ secure_neutral L s e pass u.0) (λ D. D.is_neutral)

  -- 9: once an exit route of it is set, it has that route's way
  pub set_secures : L.lines ≤ most_lines → l < L.lines → e.kind ≡ 4 → (route_in L e.first).kind ≡ 2 → (route_in L e.first).line ≡ l
      → direction (done L s e) l ≡ leaving (route_in L e.first).end
  set_secures few b k x q = go (departing L s e l)
    where
      go : Dec (Departs L s e l) → direction (done L s e) l ≡ leaving (route_in L e.first).end
      go (yes D) = departs_way L few s e l b D
      go (no n) =
          direction_same L few s e l b (⊎_elim (λ u. let z = u.0 in absurd (omega arith)) n) (λ u. let z = u.0 in absurd (omega arith))
          ∙ ap (direction s) (sym q) ∙ set_way L s e pass k x (λ z. n (record { is_set = k; is_exit = x; of_line = q; is_neutral = ap (direction s) (sym q) ∙ z }))
