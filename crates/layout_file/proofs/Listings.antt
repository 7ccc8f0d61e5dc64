-- A count and the entries after it, both ways.
use Prim.Native.Nat.{ℕ, suc, ◌<◌, ◌≤◌}
use mathlib.Core.Path.{◌≡◌, sym, subst, ◌∙◌}
use mathlib.Core.List.{List, [], ◌∷◌}
use native.Mathlib.Omega.{arith}
use lib.ListN.{length, get_or, set, replicate}
use Rattle.laws.specs.Tables.{join, iter}
use Rattle.numbers.specs.Number.{largest}
use Rattle.numbers.specs.Form.{Bytes}
use Rattle.fields.specs.declared.Cursor.{Cursor}
use Rattle.fields.specs.Fields.{code}
use Rattle.layout_file.specs.Written.{listing}
use Rattle.layout_file.proofs.Stands.{Stand, stand_then, stand_first, stand_rest, turns_stand}
use Rattle.layout_file.proofs.Fields.{code_stands, Clear, code_gives}
use Rattle.layout_file.proofs.Turns.{Copied, copied_start, copied_on, copied_all}

module _ (s : List ℕ) (c : Cursor) (low high : ℕ) where
  -- entries that stand after the count that was read are a list of the file
  pub listing_stands : Bytes s → (n next : ℕ) (each : ℕ → List ℕ) → n ≡ (code s c low high).value
      → ((code s c low high).fault ≡ 0) × Stand s (code s c low high).at (join (code s c low high).value each) next
      → (c.fault ≡ 0) × Stand s c.at (listing n each) next
  unfolding listing
  listing_stands b n next each e r = let d = code_stands s b c low high r.0 in (d.0, rw e (stand_then s d.1 r.1))

  -- where a list of the file stands and its count is in range, as many turns are made as it says, each over its own entry
  pub listing_gives : {T : Type 0} (turn : ℕ → T → T) (begun : ℕ → T) (Done : ℕ → ℕ → T → Type 0) (each : ℕ → List ℕ) (at n next : ℕ)
      → Clear c at → low ≤ n → n ≤ high → high < largest → ((mid : ℕ) → Clear (code s c low high) mid → Done 0 mid (begun n))
      → ((i a b : ℕ) (t : T) → i < n → Stand s a (each i) b → Done i a t → Done (suc i) b (turn i t)) → Stand s at (listing n each) next
      → Done n next (iter turn (code s c low high).value (begun (code s c low high).value))
  unfolding listing
  listing_gives turn begun Done each at n next k l h m first step p =
      let d = code_gives s c low high at n _ k (stand_first s at next (n ∷ []) (join n each) p) l h m in
      subst (λ v. Done n next (iter turn v (begun v))) (sym d.value)
      (turns_stand s turn Done each n step _ next (begun n) (stand_rest s at next (n ∷ []) (join n each) p) (first _ d.clear))

-- where turn i stores one entry at i, and stores the entry wanted where that one's numbers stand: the list that stands in the file is stored whole
module _ (s : List ℕ) (c : Cursor) (low high : ℕ) {T B : Type 0} (cur : T → Cursor) (count : T → ℕ) (list : T → List B) (value : T → B) (none : B)
    (each : B → List ℕ) (turn : ℕ → T → T) (stores : (i : ℕ) (t : T) → list (turn i t) ≡ set (list t) i (value t)) (counts : (i : ℕ) (t : T) → count (turn i t) ≡ count t)
    (size : ℕ) (begun : ℕ → T) (begins : (v : ℕ) → (cur (begun v) ≡ code s c low high) × (count (begun v) ≡ v) × (list (begun v) ≡ replicate size none)) where
  pub entries_give : (want : List B) (at n next : ℕ) → Clear c at → low ≤ n → n ≤ high → high < largest → n ≤ size → length want ≡ size
      → ((k : ℕ) → n ≤ k → get_or want k none ≡ none)
      → ((i a b : ℕ) (t : T) → i < n → Clear (cur t) a → Stand s a (each (get_or want i none)) b → Clear (cur (turn i t)) b × (value t ≡ get_or want i none))
      → Stand s at (listing n (λ k. each (get_or want k none))) next
      → Clear (cur (iter turn (code s c low high).value (begun (code s c low high).value))) next
      × (count (iter turn (code s c low high).value (begun (code s c low high).value)) ≡ n)
      × (list (iter turn (code s c low high).value (begun (code s c low high).value)) ≡ want)
  entries_give want at n next k l h m few long past gives p =
      let r =
      listing_gives s c low high turn begun Done (λ k. each (get_or want k none)) at n next k l h m
      (λ mid d. (subst (λ x. Clear x mid) (sym (begins n).0) d, (begins n).1, rw (begins n).2 (copied_start size none want))) step p in
      (r.0, r.1, copied_all size none want n _ long past r.2)
    where
      -- after i turns
      Done : ℕ → ℕ → T → Type 0
      Done i a t = Clear (cur t) a × (count t ≡ n) × Copied size none want i (list t)

      -- one turn more
      step : (i a b : ℕ) (t : T) → i < n → Stand s a (each (get_or want i none)) b → Done i a t → Done (suc i) b (turn i t)
      step i a b t j q e =
          let g = gives i a b t j e.0 q in
          (g.0, counts i t ∙ e.1, rw (stores i t) (copied_on size none want i (list t) (value t) (omega arith) g.1 e.2))

-- and where it stores one number each in two lists: so are the two lists that stand in the file by turns
module _ (s : List ℕ) (c : Cursor) (low high : ℕ) {T : Type 0} (cur : T → Cursor) (count : T → ℕ) (first second : T → List ℕ) (a b : T → ℕ) (turn : ℕ → T → T)
    (stores : (i : ℕ) (t : T) → (first (turn i t) ≡ set (first t) i (a t)) × (second (turn i t) ≡ set (second t) i (b t)))
    (counts : (i : ℕ) (t : T) → count (turn i t) ≡ count t) (size : ℕ) (begun : ℕ → T)
    (begins : (v : ℕ) → (cur (begun v) ≡ code s c low high) × (count (begun v) ≡ v) × (first (begun v) ≡ replicate size 0) × (second (begun v) ≡ replicate size 0)) where
  pub both_give : (xs ys : List ℕ) (at n next : ℕ) → Clear c at → low ≤ n → n ≤ high → high < largest → n ≤ size → (length xs ≡ size) × (length ys ≡ size)
      → ((k : ℕ) → n ≤ k → (get_or xs k 0 ≡ 0) × (get_or ys k 0 ≡ 0))
      → ((i x y : ℕ) (t : T) → i < n → Clear (cur t) x → Stand s x (get_or xs i 0 ∷ get_or ys i 0 ∷ []) y
      → Clear (cur (turn i t)) y × (a t ≡ get_or xs i 0) × (b t ≡ get_or ys i 0))
      → Stand s at (listing n (λ k. get_or xs k 0 ∷ get_or ys k 0 ∷ [])) next
      → Clear (cur (iter turn (code s c low high).value (begun (code s c low high).value))) next
      × (count (iter turn (code s c low high).value (begun (code s c low high).value)) ≡ n)
      × (first (iter turn (code s c low high).value (begun (code s c low high).value)) ≡ xs)
      × (second (iter turn (code s c low high).value (begun (code s c low high).value)) ≡ ys)
  both_give xs ys at n next k l h m few long past gives p =
      let r =
      listing_gives s c low high turn begun Done (λ k. get_or xs k 0 ∷ get_or ys k 0 ∷ []) at n next k l h m
      (λ mid d. (
        subst (λ x. Clear x mid) (sym (begins n).0) d,
        (begins n).1,
        rw (begins n).2 (copied_start size 0 xs),
        rw (begins n).3 (copied_start size 0 ys),
      )) step p in
      (r.0, r.1, copied_all size 0 xs n _ long.0 (λ i l. (past i l).0) r.2, copied_all size 0 ys n _ long.1 (λ i l. (past i l).1) r.3)
    where
      -- after i turns
      Done : ℕ → ℕ → T → Type 0
      Done i x t = Clear (cur t) x × (count t ≡ n) × Copied size 0 xs i (first t) × Copied size 0 ys i (second t)

      -- one turn more
      step : (i x y : ℕ) (t : T) → i < n → Stand s x (get_or xs i 0 ∷ get_or ys i 0 ∷ []) y → Done i x t → Done (suc i) y (turn i t)
      step i x y t j q e =
          let g = gives i x y t j e.0 q in (
            g.0,
            counts i t ∙ e.1,
            rw (stores i t).0 (copied_on size 0 xs i (first t) (a t) (omega arith) g.1 e.2),
            rw (stores i t).1 (copied_on size 0 ys i (second t) (b t) (omega arith) g.2 e.3),
          )
