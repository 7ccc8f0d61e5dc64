-- A store where there is room, else the table as it was.
use borrow.Author.Rules.{rules}
use Rattle.interlocking.proofs.Laws.{put_inside, put_past}
use Rattle.interlocking.proofs.stores.store.Statement.{statement}
use Rattle.interlocking.proofs.stores.store.Tie as tie

pub store_spec : {M : Type 1} → statement M
store_spec = tie.close (tie.spec (λ c. search rules) (λ c. search rules) (λ c. search (rules, put_past, put_inside)) (λ c. search (rules, put_past, put_inside)))
