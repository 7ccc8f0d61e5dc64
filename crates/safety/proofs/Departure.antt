-- One order for departure (L5): on a neutral line it is granted just where the two orders are, and leaves the state that they leave; so whatever a run reaches,
-- one reaches in which each line was secured before. The refusals of set look at the direction of the line in one place only, and nothing follows from
-- securing a line (`Settled`).
use Prim.Native.Nat.{ℕ, ◌<◌}
use mathlib.Core.Path.{◌≡◌, refl, sym, ap, ap₂, subst, ◌∙◌}
use mathlib.Core.Logic.{◌≢◌, inr}
use mathlib.Core.Bool.{true, false, not}
use mathlib.Core.List.{List, [], ◌∷◌}
use native.Mathlib.Decide.{ℕ_discrete}
use native.Mathlib.Omega.{arith}
use borrow.Author.Tests.{eqb-true, eq-eqb, ne_eqb, lt-leb, not-false}
use Rattle.laws.specs.Choice.{when◌then◌else◌}
use Rattle.laws.specs.Tests.{◌and◌}
use Rattle.laws.proofs.Choice.{Is, holds, fails, which, chosen, passed_over}
use Rattle.laws.proofs.Tests.{and_left, and_right, second_fails}
use Rattle.track.specs.Codes.{leaving}
use Rattle.track.specs.Sizes.{most_lines}
use Rattle.track.proofs.Ways.{leaving_two, leaving_some}
use Rattle.tables.specs.Tables.{Tables}
use Rattle.tables.specs.Locks.{departs}
use Rattle.tables.specs.Locks as locks
use Rattle.layout.specs.declared.Layout.{Layout}
use Rattle.layout.specs.Layout.{route_in}
use Rattle.layout.specs.Sound.{sound}
use Rattle.layout_facts.specs.Plain.{Sound}
use Rattle.layout_facts.proofs.Sound.{sound_says}
use Rattle.fitted.proofs.InUse.{in_use_sound}
use Rattle.reasons.specs.Refusal.{Refusal, refused, no_refusal}
use Rattle.refusals.specs.Orders.{secure_refusal, way_refusal, exit_refusal, route_refusal, set_refusal}
use Rattle.refusals.proofs.Granted.{granted_at, granted_second}
use Rattle.interlocking.specs.declared.State.{State}
use Rattle.interlocking.specs.declared.Answer.{Answer}
use Rattle.interlocking.specs.State.{cold, in_range, tables_of, with_routes, with_lines}
use Rattle.interlocking.specs.Own.{own_secure, own_lock, secure_first, own_set}
use Rattle.interlocking.specs.Settle.{settle}
use Rattle.interlocking.specs.Rows.{nothing, set_row, secure_row, row_with, row_of}
use Rattle.interlocking.specs.Step.{row_refusal, refusal, own, gives, after}
use Rattle.step_facts.specs.Run.{Event, event, box, state_after, from_cold}
use Rattle.step_facts.proofs.Entries.{direction, put_here}
use Rattle.step_facts.proofs.Granted.{first_none, last_none, when_none, granted}
use Rattle.step_facts.proofs.Passed.{set_there, set_first}
use Rattle.step_facts.proofs.Step.{not_refused, refusal_keeps}
use Rattle.step_facts.proofs.Within.{end}
use Rattle.safety.specs.History.{History}
use Rattle.safety.specs.Departure.{secure_it, set_it, secured_first, OneOrder, OneOrderIsTwo, SecuredBefore, NothingNew}
use Rattle.safety.proofs.Invariant.{Inv, cold_has}
use Rattle.safety.proofs.Kept.{kept, run_has}
use Rattle.safety.proofs.OneMore.{box_grants}
use Rattle.safety.proofs.Orders.{two_means}
use Rattle.safety.proofs.Trim.{Trim, trim_next, cold_trim, cold_run_trim}
use Rattle.safety.proofs.Settled.{secured_settled, before_same}

-- ---- what is refused

-- the tables of a state, with other directions
abbrev tables_with : State → List ℕ → Tables
tables_with s directions = record { section = s.section; point = s.point; phase = s.phase; direction = directions; stage = s.stage; bar = s.bar; lamp = s.lamp }

-- of set only the line's way looks at directions: where that is not refused either way, nothing else is refused by others
other_directions : (L : Layout) (s : State) (r : ℕ) (xs ys : List ℕ) → (route_in L r).kind ≡ 2 → (way_refusal L (tables_with s ys) (route_in L r)).number ≡ 0
    → (set_refusal L (tables_with s xs) r).number ≡ 0 → (set_refusal L (tables_with s ys) r).number ≡ 0
unfolding set_refusal route_refusal exit_refusal route_in
other_directions L s r xs ys exit way z =
    let route = granted_at _ z 2 in
    let out : (exit_refusal L (tables_with s xs) (route_in L r)).number ≡ 0 = ap (λ (x : Refusal). x.number) (sym (chosen _ _ _ (eq-eqb _ 2 exit))) ∙ granted_at _ route 2 in
    first_none _ _ _ (granted_at _ z 0) (first_none _ _ _ (granted_at _ z 1) (last_none _
    (first_none _ _ _ (granted_at _ route 0) (first_none _ _ _ (granted_at _ route 1) (last_none _
    (ap (λ (x : Refusal). x.number) (chosen _ _ _ (eq-eqb _ 2 exit))
    ∙ first_none _ _ _ way (first_none _ _ _ (granted_at _ out 1) (first_none _ _ _ (granted_at _ out 2) (last_none _ (granted_at _ out 3))))))))))

-- an event that is answered by 0 is refused by nothing; one that is not leaves the state as it was
accepted : (L : Layout) (s : State) (e : Event) → (box L s e).number ≡ 0 → (refusal (sound L and in_range s) L s e.kind e.first e.second).number ≡ 0
unfolding box
accepted L s e = not_refused L s e.kind e.first e.second

refused_stays : (L : Layout) (s : State) (e : Event) → (box L s e).number ≢ 0 → (box L s e).next ≡ s
unfolding box
refused_stays L s e = refusal_keeps L s e.kind e.first e.second

-- one that nothing refuses is answered by 0, and leads to its end
number : (L : Layout) (s : State) (e : Event) → (refusal (sound L and in_range s) L s e.kind e.first e.second).number ≡ 0 → (box L s e).number ≡ 0
number L s e p = ap (λ (x : Answer). x.number) (box_grants L s e p)

next : (L : Layout) (s : State) (e : Event) → (refusal (sound L and in_range s) L s e.kind e.first e.second).number ≡ 0 → (box L s e).next ≡ end L s e
next L s e p = ap (λ (x : Answer). x.next) (box_grants L s e p)

-- ---- the two orders, from a state in which the line is neutral

module _ (L : Layout) (ok : sound L ≡ true) (S : Sound L) (s : State) (h : History) (I : Inv L s h) (T : Trim L s) (r : ℕ)
    (d : departs s.direction (route_in L r) ≡ true) where
  -- its line, and its way
  abbrev l : ℕ
  l = (route_in L r).line

  abbrev w : ℕ
  w = leaving (route_in L r).end

  -- the state with that line secured
  abbrev t : State
  t = own_secure s l w

  -- it is an exit route, and its line is neutral
  exit : (route_in L r).kind ≡ 2
  unfolding departs
  exit = eqb-true _ 2 (and_left _ _ d)

  is_neutral : direction s l ≡ 0
  unfolding departs
  is_neutral = eqb-true _ 0 (and_right _ _ d)

  module _ (b : r < L.routes) where
    -- its line is there
    there : l < L.lines
    there = ((S.ranges.routes r b).line (inr exit)).0

    -- the line then has the route's way
    way_now : locks.direction t.direction l ≡ w
    unfolding own_secure with_lines
    way_now = put_here most_lines 0 s.direction l w l (omega (arith, there, S.ranges.line_count)) refl

    -- so the route does not secure it again
    not_again : departs t.direction (route_in L r) ≡ false
    unfolding departs
    not_again = second_fails _ _ (ne_eqb _ 0 (λ z. leaving_some (route_in L r).end (sym way_now ∙ z)))

    -- and 9 is not given
    way_then : (way_refusal L (tables_of t) (route_in L r)).number ≡ 0
    unfolding way_refusal
    way_then = ap (λ (x : Refusal). x.number) (passed_over _ _ _ not_again) ∙ when_none _ 9 _ (ap not (eq-eqb _ _ way_now))

    -- what is refused of the line's way before is what is refused of secure
    way_first : (secure_refusal L (tables_of s) l w).number ≡ 0 → (way_refusal L (tables_of s) (route_in L r)).number ≡ 0
    unfolding way_refusal
    way_first z = ap (λ (x : Refusal). x.number) (chosen _ _ _ d) ∙ z

    -- secure is granted where its own reasons are not given
    secure_passes : (secure_refusal L (tables_of s) l w).number ≡ 0 → (refusal (sound L and in_range s) L s 6 l w).number ≡ 0
    unfolding row_of row_with secure_row when◌then◌else◌ no_refusal refused
    secure_passes z = granted L s ok I.ranged 6 l w (lt-leb _ l there) refl ((two_means w).1 (leaving_two _)) z

    module _ (pass : (refusal (sound L and in_range s) L s 6 l w).number ≡ 0) where
      -- it leaves the line secured, and nothing follows
      secured_is : secured_first L s r ≡ t
      unfolding after own gives row_of row_with secure_row when◌then◌else◌
      secured_is = next L s (secure_it L r) pass ∙ secured_settled L ok S s h I T l w there pass

      -- the state is in range
      in_range_law : in_range t ≡ true
      in_range_law = rw secured_is at (kept L ok S s h I (secure_it L r)).ranged

      -- set is granted then just where it is granted at once
      set_then : (refusal (sound L and in_range s) L s 4 r 0).number ≡ 0 → (refusal (sound L and in_range t) L t 4 r 0).number ≡ 0
      unfolding row_of row_with set_row when◌then◌else◌ no_refusal refused own_secure with_lines refusal row_refusal
      set_then z = granted L t ok in_range_law 4 r 0 (lt-leb _ r b) refl refl (other_directions L s r _ _ exit way_then (granted_at _ z 1))

      set_first_too : (refusal (sound L and in_range t) L t 4 r 0).number ≡ 0 → (refusal (sound L and in_range s) L s 4 r 0).number ≡ 0
      unfolding row_of row_with set_row secure_row when◌then◌else◌ no_refusal refused own_secure with_lines refusal row_refusal
      set_first_too z = granted L s ok I.ranged 4 r 0 (lt-leb _ r b) refl refl (other_directions L s r _ _ exit (way_first (granted_at _ pass 1)) (granted_at _ z 1))

      -- and leaves the same
      same_end : end L s (set_it r) ≡ end L t (set_it r)
      unfolding after own gives row_of row_with set_row when◌then◌else◌ own_set secure_first route_in own_lock with_routes own_secure with_lines
      same_end =
          ap (λ (x : State). settle L s (own_lock x r) nothing) (chosen _ _ _ d)
          ∙ before_same L ok S s h I T l w there pass (own_lock t r) nothing refl
          ∙ ap (λ (x : State). settle L t (own_lock x r) nothing) (sym (passed_over _ _ _ not_again))

      -- from there the route secures nothing
      secured_not_again : departs (secured_first L s r).direction (route_in L r) ≡ false
      secured_not_again = ap (λ (x : State). departs x.direction (route_in L r)) secured_is ∙ not_again

  -- so the one order stands for the two
  pub one_order : OneOrder L s r
  one_order = record {
    both_halves = (
      λ z.
          let p = accepted L s (set_it r) z in
          let b = set_there L s (set_it r) p refl in
          let first = secure_passes b (set_first L s (set_it r) p refl exit is_neutral) in
          (number L s (secure_it L r) first, rw (secured_is b first) (number L t (set_it r) (set_then b first p))),
      λ (x, y).
          let first = accepted L s (secure_it L r) x in
          number L s (set_it r) (back first y),
    );
    same_state = λ z.
        let p = accepted L s (set_it r) z in
        let b = set_there L s (set_it r) p refl in
        let first = secure_passes b (set_first L s (set_it r) p refl exit is_neutral) in
        next L s (set_it r) p ∙ same_end b first ∙ sym (rw (secured_is b first) (next L t (set_it r) (set_then b first p)));
  }
    where
      back : (refusal (sound L and in_range s) L s 6 l w).number ≡ 0 → (box L (secured_first L s r) (set_it r)).number ≡ 0 → (refusal (sound L and in_range s) L s 4 r 0).number ≡ 0
      back first y =
          let q = accepted L (secured_first L s r) (set_it r) y in
          let b = set_there L (secured_first L s r) (set_it r) q refl in
          set_first_too b first (rw (secured_is b first) at q)

-- in every state that a run can reach
pub one_order_is_two : OneOrderIsTwo
one_order_is_two L u es r d = let ok = in_use_sound u in let S = sound_says L ok in one_order L ok S _ _ (run_has L ok es) (cold_run_trim L S es) r d

-- ---- nothing new

-- an accepted order to set a route has no second number
is_set_it : (L : Layout) (s : State) (e : Event) → e.kind ≡ 4 → (refusal (sound L and in_range s) L s e.kind e.first e.second).number ≡ 0 → e ≡ set_it e.first
unfolding refusal row_refusal row_of row_with set_row when◌then◌else◌
is_set_it L s e k p =
    let second : e.second ≡ 0 = eqb-true _ 0 (not-false _ (granted_second _ _ _ _ _ (granted_at _ (rw k at p) 0))) in
    ap₂ (λ x y. event x e.first y) k second

-- what the run of a list of events from s reaches, one reaches in which each line was secured before
abbrev Reached : Layout → State → List Event → Type 0
Reached L s es = (fs : List Event) × SecuredBefore L s fs × (state_after (box L) s fs ≡ state_after (box L) s es)

-- one event more: the one order becomes the two where it is granted, and is left out where it is refused
module _ (L : Layout) (ok : sound L ≡ true) (S : Sound L) (s : State) (h : History) (I : Inv L s h) (T : Trim L s) (e : Event) (es : List Event)
    (on : Reached L (box L s e).next es) (still : Reached L s es) where
  -- it is no such order
  as_it_is : (e.kind ≡ 4 → departs s.direction (route_in L e.first) ≡ false) → Reached L s (e ∷ es)
  unfolding SecuredBefore state_after
  as_it_is n = let (fs, q, p) = on in (e ∷ fs, (n, q), p)

  -- it is, and is refused
  without : (box L s e).number ≢ 0 → Reached L s (e ∷ es)
  unfolding state_after
  without n = let (fs, q, p) = still in (fs, q, p ∙ ap (λ (x : State). state_after (box L) x es) (sym (refused_stays L s e n)))

  -- it is, and is granted
  by_two : e.kind ≡ 4 → departs s.direction (route_in L e.first) ≡ true → (box L s e).number ≡ 0 → Reached L s (e ∷ es)
  unfolding SecuredBefore state_after
  by_two k d z =
      let (fs, q, p) = on in (
        secure_it L r ∷ set_it r ∷ fs,
        (λ x. absurd (omega arith), (λ x. secured_not_again L ok S s h I T r d b first, subst (λ x. SecuredBefore L x fs) same q)),
        ap (λ (x : State). state_after (box L) x fs) (sym same) ∙ p,
      )
    where
      r : ℕ
      r = e.first

      pass : (refusal (sound L and in_range s) L s e.kind e.first e.second).number ≡ 0
      pass = accepted L s e z

      b : r < L.routes
      b = set_there L s e pass k

      is : e ≡ set_it r
      is = is_set_it L s e k pass

      now : (box L s (set_it r)).number ≡ 0
      now = ap (λ (x : Event). (box L s x).number) (sym is) ∙ z

      one : OneOrder L s r
      one = one_order L ok S s h I T r d

      first : (refusal (sound L and in_range s) L s 6 (route_in L r).line (leaving (route_in L r).end)).number ≡ 0
      first = accepted L s (secure_it L r) (one.both_halves.0 now).0

      same : (box L s e).next ≡ (box L (secured_first L s r) (set_it r)).next
      same = ap (λ (x : Event). (box L s x).next) is ∙ one.same_state now

  -- one or the other
  one_more : Reached L s (e ∷ es)
  one_more = go (ℕ_discrete e.kind 4) (which (departs s.direction (route_in L e.first))) (ℕ_discrete (box L s e).number 0)
    where
      go : Dec (e.kind ≡ 4) → Is (departs s.direction (route_in L e.first)) → Dec ((box L s e).number ≡ 0) → Reached L s (e ∷ es)
      go (no n) x y = as_it_is (λ k. absurd (n k))
      go (yes k) (fails f) y = as_it_is (λ z. f)
      go (yes k) (holds d) (yes z) = by_two k d z
      go (yes k) (holds d) (no n) = without n

-- so of every list
in_two : (L : Layout) → sound L ≡ true → Sound L → (s : State) (h : History) → Inv L s h → Trim L s → (es : List Event) → Reached L s es
unfolding SecuredBefore
in_two L ok S s h I T [] = ([], tt, refl)
in_two L ok S s h I T (e ∷ es) =
    one_more L ok S s h I T e es (in_two L ok S (box L s e).next _ (kept L ok S s h I e) (trim_next L S T e) es) (in_two L ok S s h I T es)

-- from the cold start
pub nothing_new : NothingNew
unfolding from_cold
nothing_new L u es = let ok = in_use_sound u in let S = sound_says L ok in in_two L ok S cold [] (cold_has L S) (cold_trim L S) es
