use mathlib.Core.Path.{◌≡◌, refl}
use native.Mathlib.Omega.{arith}
use borrow.Author.Rules.{rules}
use Rattle.octets.specs.Number.{octets_of_32}
use Rattle.service.proofs.RecordLaws.{front_done}
use Rattle.service.proofs.record.put_front.Goals as goal

pub returns : goal.returns
returns c =
    let a = c.args in
    let e : c.to_be_bytes.result ≡ octets_of_32 a.endpoint = grind arith in
    front_done a.out.now a.state a.identifier.now (octets_of_32 a.endpoint) (search rules) refl e (search rules) c.put_head.ensures
    c.put_octet-a.ensures c.put_octets-b.ensures c.put_octets.ensures
