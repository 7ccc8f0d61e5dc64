-- How far reading goes: two files that read alike up to a place give the same up to there, in so many bytes at most. Numbers and lists.
use Prim.Native.Nat.{ℕ, zero, suc, ◌+◌, ◌*◌, ◌<◌, ◌≤◌}
use mathlib.Core.Path.{◌≡◌, refl, sym, ap, ◌∙◌}
use mathlib.Core.List.{List}
use native.Mathlib.Nat.{suc-mul, mul-le-mul_right}
use native.Mathlib.Omega.{arith}
use borrow.Author.Tests.{ltb-true}
use lib.Dec.{ltb, eqb}
use lib.ListN.{length, replicate}
use Rattle.laws.specs.Tables.{iter}
use Rattle.laws.proofs.Choice.{if_both}
use Rattle.numbers.specs.Number.{Number}
use Rattle.numbers.specs.Number.{Value, Fault}
use Rattle.numbers.specs.Number.{number_at}
use Rattle.numbers.specs.Form.{encode, Bytes}
use Rattle.numbers.proofs.Readings.{fault_place}
use Rattle.numbers.proofs.Forms.{exact}
use Rattle.track.specs.Sizes.{most_points, most_conflicts, most_listed}
use Rattle.fields.specs.declared.Cursor.{Cursor}
use Rattle.fields.specs.declared.Items.{Items}
use Rattle.fields.specs.declared.Points.{Points}
use Rattle.fields.specs.Fields.{failed, judge, field, code, reference}
use Rattle.fields.specs.Lists.{item_turn, items, point_turn, points}
use Rattle.fields.proofs.Ranges.{code_most}
use Rattle.file_objects.specs.declared.Owned.{Owned}
use Rattle.file_objects.specs.Sections.{no_sections, section_turn, sections}
use Rattle.layout_file.specs.Lengths.{items_span, points_span}
use Rattle.layout_file.proofs.Sizes.{size_short, size_two}

-- the same cursor
abbrev pub own : Cursor → Cursor
own c = c

-- two files that read alike up to the place k
pub record Alike (s s' : List ℕ) (k : ℕ) : Type 0 where
  pub bytes : Bytes s
  pub numbers : (at : ℕ) → at ≤ k → number_at s' at ≡ number_at s at

module _ {s s' : List ℕ} {k : ℕ} (A : Alike s s' k) where
  -- what is read from a cursor on is the same of both, and ends at most so many places further
  pub record Near {T : Type 0} (cur : T → Cursor) (c : Cursor) (span : ℕ) (read : List ℕ → T) : Type 0 where
    pub same : read s' ≡ read s
    pub moved : (cur (read s)).at ≤ c.at + span

  -- ---- one number

  -- what was judged: a number in range ends after its form, and a fault stays at its place
  judge_moved : (at low limit fault span : ℕ) → ((v : ℕ) → v < limit → length (encode v) ≤ span) → (n : Number) → n ≡ number_at s at
      → (judge n at low limit fault).at ≤ at + span
  unfolding judge failed
  judge_moved at low limit fault span form (Value v next) e =
      if_both (λ (d : Cursor). d.at ≤ at + span) (ltb v low) (λ t. omega arith)
      (λ t. if_both (λ (d : Cursor). d.at ≤ at + span) (ltb v limit)
      (λ u. omega (arith, (exact s at v next A.bytes (sym e)).1, form v (ltb-true v limit u))) (λ u. omega arith))
  judge_moved at low limit fault span form (Fault number place) e = omega (arith, fault_place s at e refl)

  -- the next number, whose forms have at most so many bytes
  field_near : (c : Cursor) (low limit fault span : ℕ) → ((v : ℕ) → v < limit → length (encode v) ≤ span) → c.at + span ≤ k
      → Near own c span (λ f. field f c low limit fault)
  unfolding field failed
  field_near c low limit fault span form h = record {
    same = rw (A.numbers c.at (omega arith));
    moved = if_both (λ (d : Cursor). d.at ≤ c.at + span) (eqb c.fault 0)
        (λ t. judge_moved c.at low limit fault span form (number_at s c.at) refl) (λ t. omega arith);
  }

  -- a version, count or code below 128 has one byte
  pub code_near : (c : Cursor) (low high : ℕ) → high < 128 → c.at + 1 ≤ k → Near own c 1 (λ f. code f c low high)
  unfolding code
  code_near c low high few = field_near c low (high + 1) 23 1 (λ v l. omega (arith, size_short v (omega arith)))

  -- the number of conflicts has one or two
  pub count_near : (c : Cursor) → c.at + 2 ≤ k → Near own c 2 (λ f. code f c 0 most_conflicts)
  unfolding code
  count_near c = field_near c 0 (most_conflicts + 1) 23 2 (λ v l. size_two v (omega arith))

  -- a reference to one of at most 128 objects has one byte
  pub reference_near : (c : Cursor) (objects : ℕ) → objects ≤ 128 → c.at + 1 ≤ k → Near own c 1 (λ f. reference f c objects)
  unfolding reference
  reference_near c objects few = field_near c 0 objects 24 1 (λ v l. omega (arith, size_short v (omega arith)))

  -- one of at most 256 has one or two
  pub reference_two_near : (c : Cursor) (objects : ℕ) → objects ≤ 256 → c.at + 2 ≤ k → Near own c 2 (λ f. reference f c objects)
  unfolding reference
  reference_two_near c objects few = field_near c 0 objects 24 2 (λ v l. size_two v (omega arith))

  -- ---- in turns

  module _ {T : Type 0} (cur : T → Cursor) (turn : List ℕ → ℕ → T → T) (m : ℕ)
      (one : (i : ℕ) (t : T) → (cur t).at + m ≤ k → Near cur (cur t) m (λ f. turn f i t)) where
    -- where each turn goes at most m places further, n turns go at most n times as far
    turns_near : (n : ℕ) (a : T) → (cur a).at + n * m ≤ k → Near cur (cur a) (n * m) (λ f. iter (turn f) n a)
    unfolding iter
    turns_near zero a h = record { same = refl; moved = omega arith }
    turns_near (suc n) a h =
        let e = suc-mul n m in
        let p = turns_near n a (omega arith) in
        let q = one n (iter (turn s) n a) (omega arith) in
        record { same = ap (turn s' n) p.same ∙ q.same; moved = omega arith }

    -- a count of at most so many is read, then as many turns are done
    pub list_near : (c : Cursor) (first high : ℕ) (count : List ℕ → Cursor) (begin : Cursor → T) → ((d : Cursor) → (cur (begin d)).at ≡ d.at)
        → (count s).value ≤ high → Near own c first count → c.at + (first + high * m) ≤ k
        → Near cur c (first + high * m) (λ f. iter (turn f) (count f).value (begin (count f)))
    list_near c first high count begin here few d h =
        let l = mul-le-mul_right m few in
        let o = d.moved in
        let e = here (count s) in
        let p = turns_near (count s).value (begin (count s)) (omega arith) in
        record { same = ap (λ (x : Cursor). iter (turn s') x.value (begin x)) d.same ∙ p.same; moved = omega arith }

  -- ---- lists

  -- a list of numbers of objects
  pub items_near : (c : Cursor) (low high objects : ℕ) → high < 128 → objects ≤ 128 → c.at + items_span high ≤ k
      → Near (λ (t : Items). t.cur) c (items_span high) (λ f. items f c low high objects)
  unfolding items item_turn
  items_near c low high objects few most h =
      let p = list_near (λ (t : Items). t.cur) (λ f. item_turn f objects) 1
      (λ i t o. let r = reference_near t.cur objects most o in record { same = rw r.same; moved = r.moved })
      c 1 high (λ f. code f c low high) (λ d. record { cur = d; count = d.value; item = replicate most_listed 0 }) (λ d. refl)
      (code_most s c low high refl) (code_near c low high few (omega arith)) (omega arith) in
      record { same = p.same; moved = omega arith }

  -- points with positions
  pub points_near : (c : Cursor) (objects : ℕ) → objects ≤ 128 → c.at + points_span ≤ k → Near (λ (t : Points). t.cur) c points_span (λ f. points f c objects)
  unfolding points point_turn
  points_near c objects most h =
      list_near (λ (t : Points). t.cur) (λ f. point_turn f objects) 2
      (λ i t o.
      let p = reference_near t.cur objects most (omega arith) in
      let w = code_near (reference s t.cur objects) 1 2 (omega arith) (omega arith) in
      record { same = rw (p.same, w.same); moved = omega arith })
      c 1 most_listed (λ f. code f c 0 most_listed)
      (λ d. record { cur = d; count = d.value; point = replicate most_listed 0; position = replicate most_listed 0 }) (λ d. refl)
      (code_most s c 0 most_listed refl) (code_near c 0 most_listed (omega arith) (omega arith)) h

  -- points, each with its own section
  pub sections_near : (c : Cursor) (objects : ℕ) → objects ≤ 128 → c.at + items_span most_points ≤ k
      → Near (λ (t : Owned). t.cur) c (items_span most_points) (λ f. sections f c objects)
  unfolding sections section_turn
  sections_near c objects most h =
      list_near (λ (t : Owned). t.cur) (λ f. section_turn f objects) 1
      (λ i t o. let r = reference_near t.cur objects most o in record { same = rw r.same; moved = r.moved })
      c 1 most_points (λ f. code f c 0 most_points) (λ d. record { cur = d; count = d.value; section = no_sections }) (λ d. refl)
      (code_most s c 0 most_points refl) (code_near c 0 most_points (omega arith) (omega arith)) h
