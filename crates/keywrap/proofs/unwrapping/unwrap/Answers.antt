use Rattle.keywrap.specs.Calls.{answer_of}
use Rattle.keywrap.proofs.CallLaws.{unwraps}
use Rattle.keywrap.proofs.unwrapping.unwrap.Goals as goal

pub returns : goal.returns
returns c =
    let a = c.args in
    let e = c.unwrap_lent.ensures in
    (e, unwraps a.key.now a.ciphertext.now a.out.now _ (answer_of c.unwrap_lent.result) c.holds_octets.ensures c.holds_octets-2.ensures e)
