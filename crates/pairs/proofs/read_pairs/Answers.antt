-- Both places of a pair lie in the table, whatever was read.
use mathlib.Core.Path.{ap}
use Rattle.pairs.specs.declared.PairRead.{PairRead}
use Rattle.pairs.proofs.Laws.{few_is, named_few, pair_place, pair_mirror}
use Rattle.pairs.proofs.read_pairs.Goals as goal

pub bounds-t-place_of : goal.bounds-t-place_of
bounds-t-place_of c =
    pair_place _ _ _ _ (named_few c.args.routes (few_is c.args.routes c.min-few.ensures)) (ap (λ (t : PairRead). t.pair) c.one_pair-one.ensures) c.place_of.ensures

pub bounds-t-place_of-in-loop-i : goal.bounds-t-place_of-in-loop-i
bounds-t-place_of-in-loop-i c =
    pair_mirror _ _ _ _ (named_few c.args.routes (few_is c.args.routes c.min-few.ensures)) (ap (λ (t : PairRead). t.pair) c.one_pair-one.ensures)
    c.place_of-in-loop-i.ensures
