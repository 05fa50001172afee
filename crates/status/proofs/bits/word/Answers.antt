use native.Mathlib.Omega.{arith}
use Rattle.std.proofs.lemmas.Grind.{common_steps}
use Rattle.std.proofs.lemmas.List.{get_or-take}
use Rattle.octets.specs.Number.{Octets}
use Rattle.octets.proofs.InPart.{octet_in}
use Rattle.status.proofs.WordLaws.{word_value}
use Rattle.status.proofs.bits.word.Goals as goal

pub returns-in-Some : goal.returns-in-Some
returns-in-Some c =
    let a = c.args in
    let o : Octets a.s.now = λ at. omega (arith, c.type_inv.s at) in
    word_value a.s.now o a.at c.in-Some.eight.now
    (λ i h. rw (c.in-Some.ensures.cases.same, get_or-take 8 c.part.result.now i 0 h, c.part.ensures.octets, octet_in a.s.now a.at 8 i h))
    c.from_be_bytes.ensures

pub returns-in-None : goal.returns-in-None
returns-in-None c =
    let a = c.args in
    let o : Octets a.s.now = λ at. omega (arith, c.type_inv.s at) in
    word_value a.s.now o a.at c.from_fn.result (λ i h. grind (arith, common_steps)) c.from_be_bytes-in-None.ensures
