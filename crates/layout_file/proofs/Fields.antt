-- One number of the file: with no fault it stands there in its form; and where a number in range stands, it is read with no fault.
use Prim.Native.Nat.{ℕ, ◌+◌, ◌<◌, ◌≤◌}
use mathlib.Core.Path.{◌≡◌, refl, sym, ap, subst, ◌∙◌}
use mathlib.Core.List.{List, [], ◌∷◌, flat_map, append-nil}
use native.Mathlib.Omega.{arith}
use borrow.Author.Tests.{eqb-true, eqb-false}
use lib.Dec.{ltb, eqb}
use lib.ListN.{length, drop}
use Rattle.laws.proofs.Choice.{if_both}
use Rattle.numbers.specs.Number.{Number}
use Rattle.numbers.specs.Number.{Value, Fault}
use Rattle.numbers.specs.Number.{largest, number_at}
use Rattle.numbers.specs.Form.{encode, Bytes}
use Rattle.numbers.proofs.Forms.{accepts, exact}
use Rattle.fields.specs.declared.Cursor.{Cursor}
use Rattle.fields.specs.Fields.{failed, judge, field, code, reference}
use Rattle.fields.proofs.Ranges.{form_bad}
use Rattle.fields.proofs.Laws.{field_value}
use Rattle.layout_file.specs.Written.{forms}
use Rattle.layout_file.proofs.Stands.{Stand}

-- one number's form
form_one : (v : ℕ) → forms (v ∷ []) ≡ encode v
unfolding forms flat_map
form_one v = append-nil (encode v)

-- ---- a number that was read stands there

module _ (s : List ℕ) (b : Bytes s) where
  -- what is said of a number that was read from a place on
  abbrev Read : ℕ → Cursor → Type 0
  Read at d = d.fault ≡ 0 → Stand s at (d.value ∷ []) d.at

  -- what was judged to be in its range
  judge_stands : (at low limit fault : ℕ) → (fault ≡ 0 → ⊥) → (n : Number) → n ≡ number_at s at → Read at (judge n at low limit fault)
  unfolding judge failed
  judge_stands at low limit fault bad (Value v next) e =
      if_both (Read at) (ltb v low) (λ t f. absurd (bad f)) (λ t. if_both (Read at) (ltb v limit) (λ u f. stands) (λ u f. absurd (bad f)))
    where
      stands : Stand s at (v ∷ []) next
      stands = let x = exact s at v next b (sym e) in record { text = rw (form_one v) x.2; place = rw (form_one v) x.1 }
  judge_stands at low limit fault bad (Fault number place) e = λ f. let bad = form_bad s at number place e in absurd (omega arith)

  -- the next number
  field_stands : (c : Cursor) (low limit fault : ℕ) → (fault ≡ 0 → ⊥) → (field s c low limit fault).fault ≡ 0
      → (c.fault ≡ 0) × Stand s c.at ((field s c low limit fault).value ∷ []) (field s c low limit fault).at
  unfolding field failed
  field_stands c low limit fault bad =
      if_both (λ (d : Cursor). d.fault ≡ 0 → (c.fault ≡ 0) × Stand s c.at (d.value ∷ []) d.at) (eqb c.fault 0)
      (λ t e. (eqb-true c.fault 0 t, judge_stands c.at low limit fault bad (number_at s c.at) refl e))
      (λ t e. absurd (eqb-false c.fault 0 t e))

  -- a version, count or code
  pub code_stands : (c : Cursor) (low high : ℕ) → (code s c low high).fault ≡ 0
      → (c.fault ≡ 0) × Stand s c.at ((code s c low high).value ∷ []) (code s c low high).at
  unfolding code
  code_stands c low high = field_stands c low (high + 1) 23 (λ e. omega arith)

  -- a reference
  pub reference_stands : (c : Cursor) (objects : ℕ) → (reference s c objects).fault ≡ 0
      → (c.fault ≡ 0) × Stand s c.at ((reference s c objects).value ∷ []) (reference s c objects).at
  unfolding reference
  reference_stands c objects = field_stands c 0 objects 24 (λ e. omega arith)

-- ---- a number that stands there is read

-- a cursor at a place, with no fault met
pub record Clear (c : Cursor) (at : ℕ) : Type 0 where
  pub none : c.fault ≡ 0
  pub here : c.at ≡ at

-- and with the number read last
pub record Gave (c : Cursor) (at v : ℕ) : Type 0 where
  pub clear : Clear c at
  pub value : c.value ≡ v

module _ (s : List ℕ) where
  -- a number in its range
  field_gives : (c : Cursor) (low limit fault at v next : ℕ) → Clear c at → Stand s at (v ∷ []) next → low ≤ v → v < limit → limit ≤ largest
      → Gave (field s c low limit fault) next v
  field_gives c low limit fault at v next k p l h m =
      let text = p.text in
      let place = p.place in
      let x : number_at s at ≡ Value v (at + length (encode v)) = accepts s at v (drop next s) (omega arith) (rw (form_one v) at text) in
      let n : next ≡ at + length (encode v) = rw (form_one v) at place in
      let e : field s c low limit fault ≡ record { at = next; fault = 0; value = v } =
      field_value s c low limit fault (record { none = k.none; place = k.here }) (ap (λ m. Value v m) n ∙ sym x) l h in
      rw e (record { clear = record { none = refl; here = refl }; value = refl })

  -- a version, count or code
  pub code_gives : (c : Cursor) (low high at v next : ℕ) → Clear c at → Stand s at (v ∷ []) next → low ≤ v → v ≤ high → high < largest
      → Gave (code s c low high) next v
  unfolding code
  code_gives c low high at v next k p l h m = field_gives c low (high + 1) 23 at v next k p l (omega arith) (omega arith)

  -- a reference
  pub reference_gives : (c : Cursor) (objects at v next : ℕ) → Clear c at → Stand s at (v ∷ []) next → v < objects → objects ≤ largest
      → Gave (reference s c objects) next v
  unfolding reference
  reference_gives c objects at v next k p h m = field_gives c 0 objects 24 at v next k p (omega arith) h m
