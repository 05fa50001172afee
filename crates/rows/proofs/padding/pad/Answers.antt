use mathlib.Core.Path.{ap, ◌∙◌}
use native.Mathlib.Omega.{arith}
use lib.ListN.{length, length-take}
use Rattle.octets.proofs.PartLaws.{part_front}
use Rattle.rows.proofs.PadLaws.{padded_over}
use Rattle.rows.proofs.padding.pad.Goals as goal

pub put_short-requires : goal.put_short-requires
put_short-requires c =
    let a = c.args in
    let p = ap length (c.part.ensures.octets ∙ part_front a.s.now a.n) ∙ length-take a.n a.s.now in
    omega (arith, c.requires)

pub returns : goal.returns
returns c =
    let a = c.args in
    c.put_short.ensures
    ∙ padded_over a.out.now _ _ a.s.now a.at a.n c.requires c.put_zeros.ensures c.part.ensures.octets
