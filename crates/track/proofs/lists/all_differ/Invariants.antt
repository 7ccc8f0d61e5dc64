-- Each entry is held against the set of those before it; one that no set can hold sends the list to a search.
use Rattle.track.proofs.Differ.{Apart}
use Rattle.track.proofs.lists.all_differ.Given as goal

-- the first i differ and are in the set
abbrev pub invariant-loop-i : goal.invariant-loop-i
invariant-loop-i l = Apart l.n l.xs l.set l.i
