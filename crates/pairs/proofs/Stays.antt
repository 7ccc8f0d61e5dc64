-- After a fault that was met before, whatever its number, no conflict is read: the fault and its place stay, with a table of none.
use Prim.Native.Nat.{ℕ}
use mathlib.Core.Path.{◌≡◌}
use mathlib.Core.List.{List}
use Rattle.laws.specs.Tables.{iter}
use Rattle.fields.specs.declared.Cursor.{Cursor}
use Rattle.fields.specs.Fields.{failed}
use Rattle.fields.proofs.Laws.{code_stays}
use Rattle.track.specs.Sizes.{most_conflicts}
use Rattle.pairs.specs.Pairs.{no_pairs, counted, pair_count, no_pair, pairs_from, pairs}

module _ (s : List ℕ) (c : Cursor) (h : c.fault ≡ 0 → ⊥) where
  pub count_stays : record { cur = failed c.at c.fault; pairs = 0 } ≡ pair_count s c
  unfolding pair_count counted failed
  count_stays = rw (← code_stays s c h 0 most_conflicts)

  pub pairs_stay : (routes : ℕ) → record { cur = failed c.at c.fault; last = no_pair; conflict = no_pairs } ≡ pairs s routes c
  unfolding pairs pairs_from iter
  pairs_stay routes = rw (← count_stays)
