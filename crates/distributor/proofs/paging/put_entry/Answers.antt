use native.Mathlib.Omega.{arith}
use Rattle.distributor.proofs.EntryLaws.{head_below, entry_puts}
use Rattle.distributor.proofs.paging.put_entry.Goals as goal

pub put-v-requires : goal.put-v-requires
put-v-requires c =
    let e = c.args.entry in
    let p = c.requires in
    (record { few = p.0.few; room = omega (arith, p.0.room) }, omega arith, rw c.head.ensures (head_below e.place e.keyed p.1))

pub returns : goal.returns
returns c =
    let e = c.args.entry in
    let f = c.put-v.ensures in
    let g = c.put.ensures in
    let h = c.head.ensures in (
      record { few = g.0.few; width = omega (arith, f.0.width, g.0.width) },
      entry_puts e.place e.keyed e.endpoint h f.1 g.1,
    )
