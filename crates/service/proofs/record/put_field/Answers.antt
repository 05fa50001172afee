use Prim.Native.Nat.{◌≤◌}
use native.Mathlib.Omega.{arith}
use lib.ListN.{length}
use borrow.Author.Rules.{rules}
use Rattle.service.proofs.RecordLaws.{front_short, field_done}
use Rattle.service.proofs.record.put_field.Goals as goal

pub overflow_cast-s : goal.overflow_cast-s
overflow_cast-s g c =
    let f = c.args.field.now in
    let n : length c.part-s.result.now ≤ f.length = rw c.part-s.ensures.octets (front_short f.octets f.length) in
    omega arith

pub returns : goal.returns
returns g c =
    let a = c.args in
    let f = a.field.now in
    field_done a.out.now a.at _ f.octets f.length (search rules) (search rules) c.part-s.ensures.octets c.put_octets.ensures c.put_octet-behind.ensures c.put_octets-2.ensures
