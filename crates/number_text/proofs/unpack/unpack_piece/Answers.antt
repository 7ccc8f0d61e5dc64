-- Numbers are read one after the other, as many as the buffer surely has room for, seven bytes of text for each.
use native.Mathlib.Omega.{arith}
use borrow.Author.Rules.{rules}
use Rattle.number_text.proofs.Turns.{run_start, run_on, run_done}
use Rattle.number_text.proofs.unpack.unpack_piece.Goals as goal

pub loop-init : goal.loop-init
loop-init c = (omega arith, search (rules, run_start))

pub turn-p-requires : goal.turn-p-requires
turn-p-requires c = omega arith

pub loop-preserved : goal.loop-preserved
loop-preserved c = (omega arith, run_on _ _ _ _ _ _ _ _ _ c.loop.counter c.loop.invariant.1 c.turn-p.ensures)

pub returns : goal.returns
returns c = search (rules, run_done)
