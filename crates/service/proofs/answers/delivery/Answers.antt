use Prim.Native.Nat.{ℕ, ◌+◌}
use mathlib.Core.Path.{◌≡◌, ap, ◌∙◌}
use mathlib.Core.List.{[], ◌∷◌, ◌++◌}
use lib.ListN.{length}
use native.Mathlib.Omega.{arith}
use Rattle.octets.specs.Number.{octets16, octets_of_32}
use Rattle.octets.specs.Write.{over}
use Rattle.service.proofs.FrameLaws.{headed_twice}
use Rattle.service.proofs.answers.delivery.Goals as goal

pub returns : goal.returns
returns c =
    let a = c.args in
    let front = octets16 a.taken ++ octets_of_32 a.endpoint in
    let n : 6 + length a.dtls.now ≡ length (front ++ a.dtls.now) = omega arith in
    headed_twice a.out.now 7 front a.dtls.now c.named-front.ensures (omega arith)
    (c.put_head.ensures ∙ ap (λ (k : ℕ). over a.out.now 0 (octets16 (1 + k) ++ 7 ∷ [])) n) c.put_octets-at.ensures c.put_octets.ensures
