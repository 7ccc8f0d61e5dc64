-- The cases of a reading, each from the facts that choose it; and a fault met, which every further reading keeps.
use Prim.Native.Nat.{ℕ, zero, suc, ◌+◌, ◌-◌, ◌<◌, ◌≤◌}
use mathlib.Core.Path.{◌≡◌, refl, sym, ap, subst, ◌∙◌}
use mathlib.Core.Bool.{Bool, true, false}
use mathlib.Core.List.{List}
use native.Mathlib.Omega.{arith}
use native.Mathlib.Numerals.{unary_clauses}
use Rattle.std.specs.Prelude.{Result, Ok, Err}
use lib.Dec.{ltb}
use Rattle.laws.specs.Choice.{when◌then◌else◌}
use Rattle.laws.specs.Tables.{iter}
use Rattle.laws.proofs.Choice.{if_eq, if_ne, if_lt, if_ge}
use Rattle.numbers.specs.declared.Fault.{Fault}
use Rattle.numbers.specs.declared.Given.{Given}
use Rattle.numbers.specs.Given.{number_of, detail_of, given}
use Rattle.numbers.specs.Number.{Number, Value, Fault as Failed, number_at, number_told}
use Rattle.numbers.proofs.Readings.{fault_place}
use Rattle.numbers.proofs.Cases.{number_same}
use Rattle.numbers.proofs.Same.{not_none, fault_same}
use Rattle.fields.specs.declared.Cursor.{Cursor}
use Rattle.fields.specs.Fields.{failed, judge, field, code, reference, none_or_reference}
use Rattle.fields.specs.Reading.{Stands, Met, Reads, NumberRead}

-- ---- what stands at the place, judged

module _ {n : Number} {v next : ℕ} (low limit fault at : ℕ) (e : Value v next ≡ n) where
  -- a number below the range
  judge_low : v < low → judge n at low limit fault ≡ failed at fault
  unfolding judge
  judge_low h = rw (← e) (sym (if_lt _ _ _ _ _ h refl))

  -- a number above the range
  judge_high : low ≤ v → limit ≤ v → judge n at low limit fault ≡ failed at fault
  unfolding judge
  judge_high h l = rw (← e) (sym (if_ge _ _ _ _ _ h (if_ge _ _ _ _ _ l refl)))

  -- a number in the range
  judge_in : low ≤ v → v < limit → judge n at low limit fault ≡ record { at = next; fault = 0; value = v }
  unfolding judge
  judge_in h l = rw (← e) (sym (if_ge _ _ _ _ _ h (if_lt _ _ _ _ _ l refl)))

-- ---- the next number, where no fault was met

-- a number in the range
pub field_value : (s : List ℕ) (c : Cursor) (low limit fault : ℕ) {at v next : ℕ} → Stands c at → Value v next ≡ number_at s at → low ≤ v → v < limit
    → field s c low limit fault ≡ record { at = next; fault = 0; value = v }
unfolding field
field_value s c low limit fault h e l m = sym (if_eq _ _ _ _ _ h.none (rw h.place (sym (judge_in low limit fault _ e l m))))

-- a fault of the number form is told of the place that was read
pub bad_place : (s : List ℕ) (f : Fault) {at : ℕ} → number_told (given (Err f)) ≡ number_told (number_at s at) → at ≡ detail_of f
bad_place s f e = sym (fault_place s _ (number_same _ _ e) refl)

module _ (s : List ℕ) (c : Cursor) {at : ℕ} (low limit : ℕ) (outside : Fault) (h : Stands c at) where
  -- what stands at the place is judged
  field_judged : field s c low limit (number_of outside) ≡ judge (number_at s at) at low limit (number_of outside)
  unfolding field
  field_judged = sym (if_eq _ _ _ _ _ h.none (rw h.place))

  -- a fault of the number form
  pub next_bad : {f : Fault} → number_told (given (Err f)) ≡ number_told (number_at s at) → Met (field s c low limit (number_of outside)) f
  unfolding judge failed
  next_bad {f} e =
      let j : judge (number_at s at) at low limit (number_of outside) ≡ failed (detail_of f) (number_of f) = rw (← number_same _ _ e) in
      rw (field_judged, j) (record { number = refl; place = refl })

  module _ (n : Given) (e : number_told (given (Ok n)) ≡ number_told (number_at s at)) where
    -- a number out of the range
    pub next_low : detail_of outside ≡ at → n.value < low → Met (field s c low limit (number_of outside)) outside
    unfolding failed
    next_low p l = rw (field_judged, judge_low low limit (number_of outside) at (number_same _ _ e) l) (record { number = refl; place = sym p })

    pub next_high : detail_of outside ≡ at → low ≤ n.value → limit ≤ n.value → Met (field s c low limit (number_of outside)) outside
    unfolding failed
    next_high p l m = rw (field_judged, judge_high low limit (number_of outside) at (number_same _ _ e) l m) (record { number = refl; place = sym p })

    -- a number in the range
    pub next_in : low ≤ n.value → n.value < limit → NumberRead (Ok n.value) n.next (field s c low limit (number_of outside))
    next_in l m = rw (field_judged, judge_in low limit (number_of outside) at (number_same _ _ e) l m) (record { none = refl; place = refl }, refl)

-- ---- the cursor that a reading ends at

-- where a number was out of the range, or was none, there is no number
judge_empty : (n : Number) (at low limit fault : ℕ) → ((judge n at low limit fault).fault ≡ 0 → ⊥) → (judge n at low limit fault).value ≡ 0
unfolding judge failed when◌then◌else◌
judge_empty (Failed m place) at low limit fault h = refl
judge_empty (Value v next) at low limit fault h = go (ltb v low) (ltb v limit) h
  where
    of : Bool → Bool → Cursor
    of t u = when t then failed at fault else when u then record { at = next; fault = 0; value = v } else failed at fault

    go : (t u : Bool) → ((of t u).fault ≡ 0 → ⊥) → (of t u).value ≡ 0
    go true u h = refl
    go false true h = absurd (h refl)
    go false false h = refl

-- at the fault that is met, where none was met before
pub met_end : (s : List ℕ) (c : Cursor) (low limit fault : ℕ) {f : Fault} → c.fault ≡ 0 → Met (field s c low limit fault) f
    → record { at = detail_of f; fault = number_of f; value = 0 } ≡ field s c low limit fault
unfolding field
met_end s c low limit fault {f} e h =
    let d : Cursor = judge (number_at s c.at) c.at low limit fault in
    let j : d ≡ field s c low limit fault = if_eq _ _ _ _ _ e refl in
    let m : Met d f = rw j h in
    let v : d.value ≡ 0 = judge_empty (number_at s c.at) c.at low limit fault (λ z. not_none f (sym m.number ∙ z)) in
    rw (← j, ← m.place, ← m.number, ← v) refl

-- ---- a fault that was met stays, whatever its number

module _ (s : List ℕ) (c : Cursor) (h : c.fault ≡ 0 → ⊥) where
  -- the next number is not read: the fault and its place stay, with no number
  pub field_stays : (low limit fault : ℕ) → failed c.at c.fault ≡ field s c low limit fault
  unfolding field
  field_stays low limit fault = if_ne _ _ _ _ _ h refl

  pub code_stays : (low high : ℕ) → failed c.at c.fault ≡ code s c low high
  unfolding code
  code_stays low high = field_stays low (high + 1) 23

  pub reference_stays : (objects : ℕ) → failed c.at c.fault ≡ reference s c objects
  unfolding reference
  reference_stays objects = field_stays 0 objects 24

  pub none_or_reference_stays : (objects : ℕ) → failed c.at c.fault ≡ none_or_reference s c objects
  unfolding none_or_reference
  none_or_reference_stays objects = reference_stays (objects + 1)

-- ---- so one of the faults of a file

module _ (s : List ℕ) (c : Cursor) (f : Fault) (h : Met c f) where
  pub field_met : (low limit fault : ℕ) → Met (field s c low limit fault) f
  unfolding failed
  field_met low limit fault =
      let e : failed c.at c.fault ≡ field s c low limit fault = field_stays s c (λ z. not_none f (sym h.number ∙ z)) low limit fault in
      rw (← e) (record { number = h.number; place = h.place })

  pub code_met : (low high : ℕ) → Met (code s c low high) f
  unfolding code
  code_met low high = field_met low (high + 1) 23

  pub reference_met : (objects : ℕ) → Met (reference s c objects) f
  unfolding reference
  reference_met objects = field_met 0 objects 24

  pub none_or_reference_met : (objects : ℕ) → Met (none_or_reference s c objects) f
  unfolding none_or_reference
  none_or_reference_met objects = reference_met (objects + 1)

-- ---- turns

module _ {A : Type 0} (P : A → Type 0) (f : ℕ → A → A) (a : A) (s : (i : ℕ) (b : A) → P b → P (f i b)) where
  -- what each turn keeps holds from the turn i on
  further : (i d : ℕ) → P (iter f i a) → P (iter f (i + d) a)
  unfolding iter
  further i zero p = simp unary_clauses p
  further i (suc d) p = simp unary_clauses (s (i + d) (iter f (i + d) a) (further i d p))

  -- and so after the last of n turns
  pub after_turns : (i n : ℕ) → i ≤ n → P (iter f i a) → P (iter f n a)
  after_turns i n l p = let e : i + (n - i) ≡ n = omega arith in subst (λ k. P (iter f k a)) e (further i (n - i) p)

-- ---- two readings from one place give the same

-- a cursor that stands at a place
pub begun : (at : ℕ) → Stands (record { at = at; fault = 0; value = 0 }) at
begun at = record { none = refl; place = refl }

-- two readings that end at one cursor, and the places after them
pub one_reading : {A : Type 0} (c : Cursor) (Gives : A → Type 0) → ((a b : A) → Gives a → Gives b → a ≡ b) → (r q : Result A Fault) {at to : ℕ}
    → Reads r at c Gives → Reads q to c Gives → (r ≡ q) × (at ≡ to)
one_reading c Gives one (Ok a) (Ok b) p o = (ap Ok (one a b p.1 o.1), sym p.0.place ∙ o.0.place)
one_reading c Gives one (Ok a) (Err g) p o = absurd (not_none g (sym o.0.number ∙ p.0.none))
one_reading c Gives one (Err f) (Ok b) p o = absurd (not_none f (sym p.0.number ∙ o.0.none))
one_reading c Gives one (Err f) (Err g) p o =
    let e : detail_of f ≡ detail_of g = sym p.0.place ∙ o.0.place in (ap Err (fault_same f g (sym p.0.number ∙ o.0.number) e), p.1 ∙ e ∙ sym o.1)
