use native.Mathlib.Omega.{arith}
use lib.ListN.{get_or, length-set}
use Rattle.distributor.proofs.PackingLaws.{four_put}
use Rattle.distributor.proofs.packing.put_four.Goals as goal

pub bounds-out-at-2 : goal.bounds-out-at-2
bounds-out-at-2 c = simp length-set (omega arith)

pub bounds-out-at-3 : goal.bounds-out-at-3
bounds-out-at-3 c = simp length-set (omega arith)

pub bounds-out-at-4 : goal.bounds-out-at-4
bounds-out-at-4 c = simp length-set (omega arith)

pub returns : goal.returns
returns c =
    let r = c.to_be_bytes.result in
    four_put c.args.out.now c.args.at (get_or r 0 0) (get_or r 1 0) (get_or r 2 0) (get_or r 3 0) c.requires c.args.n
    (rw c.to_be_bytes.ensures (omega (arith, c.ranges.n)))
