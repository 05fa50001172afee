use native.Mathlib.Omega.{arith}
use Prim.Native.Nat.{◌-◌}
use mathlib.Core.List.{[], ◌∷◌}
use Rattle.octets.proofs.WriteLaws.{wrote_none, wrote_more}
use Rattle.octets.specs.Number.{octets16}
use Rattle.message.specs.Limits.{header}
use Rattle.writers.proofs.putting.put_header.Goals as goal

pub returns : goal.returns
returns c =
    let a = c.args in
    let w = wrote_more (c.from.result ∷ []) (wrote_none a.out.now) (omega (arith, c.requires)) c.put_octet-at.ensures.0 c.put_octet-at.ensures.1 in
    let v = wrote_more (octets16 (a.count - header)) w (omega (arith, c.requires)) c.put_number16.ensures.0 c.put_number16.ensures.1 in
    rw (← c.from.ensures) (v.offset, v.output)
