-- Bytes are read one after the other, as many as the buffer surely has room for, three bytes for each.
use native.Mathlib.Omega.{arith}
use borrow.Author.Rules.{rules}
use lib.ListN.{take}
use Rattle.number_text.proofs.Packing.{reader_start, pack_start, reader_on, pack_on, pack_done, few_items}
use Rattle.number_text.proofs.pack.pack_piece.Goals as goal

-- before the first byte nothing is written
pub loop-byte-init : goal.loop-byte-init
loop-byte-init c = (omega arith, reader_start _ (take c.min-read.result c.args.bytes.now) c.args.out.now, pack_start _ (take c.min-read.result c.args.bytes.now) _)

-- a number has three bytes at most, for which there is room
pub put_given-written-requires : goal.put_given-written-requires
put_given-written-requires c =
    omega (arith, few_items c.args.bytes.now c.args.out.now _ c.min-read.ensures, c.loop-byte.invariant.2.near, c.loop-byte.invariant.2.long)

-- one byte more is read, and the number that it ends is written after those before it
pub loop-byte-preserved : goal.loop-byte-preserved
loop-byte-preserved c =
    let here = c.loop-byte in
    let items = take c.min-read.result c.args.bytes.now in (
      omega arith,
      reader_on _ items c.args.out.now here.byte-index _ _ (omega arith) here.invariant.1 c.take-reader.ensures,
      pack_on _ items _ _ _ here.byte-index _ _ _ (omega arith) here.invariant.1 here.invariant.2 c.put_given-written.ensures,
    )

-- all of them are read
pub returns : goal.returns
returns c = search (rules, pack_done)
