-- A list of the file, one entry in each turn: with no fault the entries that were stored stand in the file; and entries that stand there are stored.
use Prim.Native.Nat.{ℕ, suc, ◌<◌, ◌≤◌}
use mathlib.Core.Path.{◌≡◌, sym, ap, ap₂, ◌∙◌}
use mathlib.Core.List.{List, [], ◌∷◌}
use native.Mathlib.Nat.{not-suc-le-zero}
use native.Mathlib.Decide.{dec_lt}
use native.Mathlib.Omega.{arith}
use lib.ListN.{length, get_or, set, replicate, length-set, length-replicate}
use lib.Seq.{get_or-set_same, get_or-set_other, ext_get_or}
use Rattle.laws.specs.Tables.{join, iter}
use Rattle.laws.proofs.Loops.{iter_keeps}
use Rattle.laws.proofs.Joins.{join_same}
use Rattle.laws.proofs.Arrays.{nothing_at}
use Rattle.fields.specs.declared.Cursor.{Cursor}
use Rattle.layout_file.proofs.Stands.{Stand, stand_none, stand_then}

-- ---- what was read stands there

module _ (s : List ℕ) {T : Type 0} (cur : T → Cursor) where
  -- that a cursor with no fault came from one with none, over these numbers
  abbrev pub Over : T → List ℕ → T → Type 0
  Over a ns b = ((cur b).fault ≡ 0) → ((cur a).fault ≡ 0) × Stand s (cur a).at ns (cur b).at

  -- where turn i reads the numbers of its entry and leaves those before it, the n turns read those of all
  pub turns_read : (turn : ℕ → T → T) (Kept : T → Type 0) (part : T → ℕ → List ℕ) (n : ℕ) (a : T)
      → Kept a → ((i : ℕ) (t : T) → i < n → Kept t → Kept (turn i t))
      → ((i : ℕ) (t : T) → i < n → Kept t → (k : ℕ) → k < i → part t k ≡ part (turn i t) k)
      → ((i : ℕ) (t : T) → i < n → Kept t → Over t (part (turn i t) i) (turn i t))
      → Over a (join n (part (iter turn n a))) (iter turn n a)
  unfolding join
  turns_read turn Kept part n a k₀ keeps same reads =
      (iter_keeps (λ i t. Kept t × Over a (join i (part t)) t) turn n a
      (k₀, λ w. (w, stand_none s (cur a).at))
      (λ i t l p. (
        keeps i t l p.0,
        λ w.
            let r = reads i t l p.0 w in
            let q = p.1 r.0 in
            (q.0, rw (← join_same i (part t) (part (turn i t)) (same i t l p.0)) (stand_then s q.1 r.1)),
      ))).1

-- where turn i stores one entry at i, the list keeps its length
pub entries_long : {T B : Type 0} (list : T → List B) (value : T → B) (turn : ℕ → T → T) → ((i : ℕ) (t : T) → list (turn i t) ≡ set (list t) i (value t))
    → (size n : ℕ) (a : T) → length (list a) ≡ size → length (list (iter turn n a)) ≡ size
entries_long list value turn stores size n a long =
    iter_keeps (λ i t. length (list t) ≡ size) turn n a long (λ i t l e. rw (stores i t) (length-set (list t) i (value t) ∙ e))

-- and where it reads the numbers of what it stores, with no fault those of all entries stand in the file
module _ (s : List ℕ) {T B : Type 0} (cur : T → Cursor) (list : T → List B) (value : T → B) (none : B) (each : B → List ℕ) (turn : ℕ → T → T)
    (stores : (i : ℕ) (t : T) → list (turn i t) ≡ set (list t) i (value t)) (size : ℕ) where
  pub entries_read : (n : ℕ) (a : T) → length (list a) ≡ size → n ≤ size → ((i : ℕ) (t : T) → Over s cur t (each (value t)) (turn i t))
      → Over s cur a (join n (λ k. each (get_or (list (iter turn n a)) k none))) (iter turn n a)
  entries_read n a long few reads =
      turns_read s cur turn (λ t. length (list t) ≡ size) (λ t k. each (get_or (list t) k none)) n a long
      (λ i t l e. rw (stores i t) (length-set (list t) i (value t) ∙ e))
      (λ i t l e k h. rw (stores i t) (ap each (sym (get_or-set_other (list t) i k (value t) none (λ z. let d : k ≡ i = z in omega arith)))))
      (λ i t l e. rw (stores i t, get_or-set_same (list t) i (value t) none (let d : length (list t) ≡ size = e in omega arith)) (reads i t))

-- so where it stores one number each in two lists and reads both, with no fault the numbers of both lists stand in the file, by turns
module _ (s : List ℕ) {T : Type 0} (cur : T → Cursor) (first second : T → List ℕ) (a b : T → ℕ) (turn : ℕ → T → T)
    (stores : (i : ℕ) (t : T) → (first (turn i t) ≡ set (first t) i (a t)) × (second (turn i t) ≡ set (second t) i (b t))) (size : ℕ) where
  pub both_read : (n : ℕ) (begun : T) → (length (first begun) ≡ size) × (length (second begun) ≡ size) → n ≤ size
      → ((i : ℕ) (t : T) → Over s cur t (a t ∷ b t ∷ []) (turn i t))
      → Over s cur begun (join n (λ k. get_or (first (iter turn n begun)) k 0 ∷ get_or (second (iter turn n begun)) k 0 ∷ [])) (iter turn n begun)
  both_read n begun long few reads =
      turns_read s cur turn (λ t. (length (first t) ≡ size) × (length (second t) ≡ size)) (λ t k. get_or (first t) k 0 ∷ get_or (second t) k 0 ∷ []) n begun long
      (λ i t l q. rw ((stores i t).0, (stores i t).1) (length-set (first t) i (a t) ∙ q.0, length-set (second t) i (b t) ∙ q.1))
      (λ i t l q k h.
      let d : k ≡ i → ⊥ = λ z. (let z' : k ≡ i = z in omega arith) in
      rw ((stores i t).0, (stores i t).1)
      (ap₂ (λ x y. x ∷ y ∷ []) (sym (get_or-set_other (first t) i k (a t) 0 d)) (sym (get_or-set_other (second t) i k (b t) 0 d))))
      (λ i t l q.
      let here : i < size = omega arith in
      rw ((stores i t).0, (stores i t).1, get_or-set_same (first t) i (a t) 0 (omega (arith, q.0)), get_or-set_same (second t) i (b t) 0 (omega (arith, q.1))) (reads i t))

-- ---- what stands there is read

module _ {B : Type 0} (size : ℕ) (none : B) (want : List B) where
  -- a list of so many entries that has the first i of those wanted, and nothing past them
  pub record Copied (i : ℕ) (list : List B) : Type 0 where
    pub long : length list ≡ size
    pub first : (k : ℕ) → k < i → get_or list k none ≡ get_or want k none
    pub rest : (k : ℕ) → i ≤ k → get_or list k none ≡ none

  -- before the first, a list of nothing
  pub copied_start : Copied 0 (replicate size none)
  copied_start = record { long = length-replicate {A = B} size none; first = λ k l. absurd (not-suc-le-zero l); rest = λ k l. nothing_at size none k }

  -- with one more
  pub copied_on : (i : ℕ) (list : List B) (v : B) → i < size → v ≡ get_or want i none → Copied i list → Copied (suc i) (set list i v)
  copied_on i list v h e c = record {
    long = length-set list i v ∙ c.long;
    first = stored_first;
    rest = λ k l. get_or-set_other list i k v none (λ z. let d : k ≡ i = z in omega arith) ∙ c.rest k (omega arith);
  }
    where
      inside : i < length list
      inside = omega (arith, c.long)

      stored_first : (k : ℕ) → k < suc i → get_or (set list i v) k none ≡ get_or want k none
      stored_first k l = one (dec_lt k i)
        where
          one : Dec (k < i) → get_or (set list i v) k none ≡ get_or want k none
          one (yes d) = get_or-set_other list i k v none (λ z. let d' : k ≡ i = z in omega arith) ∙ c.first k d
          one (no d) = let z : k ≡ i = omega arith in rw z (get_or-set_same list i v none inside ∙ e)

  -- where there is nothing past the n wanted, the list with n of them is the list wanted
  pub copied_all : (n : ℕ) (list : List B) → length want ≡ size → ((k : ℕ) → n ≤ k → get_or want k none ≡ none) → Copied n list → list ≡ want
  copied_all n list long past c = ext_get_or none list want (c.long ∙ sym long) (λ k l. one k (dec_lt k n))
    where
      one : (k : ℕ) → Dec (k < n) → get_or list k none ≡ get_or want k none
      one k (yes d) = c.first k d
      one k (no d) = c.rest k (omega arith) ∙ sym (past k (omega arith))
