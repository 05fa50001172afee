use Prim.Native.Nat.{◌+◌, ◌-◌}
use mathlib.Core.Path.{◌≡◌, refl, ap, ◌∙◌}
use native.Mathlib.Omega.{arith}
use Rattle.aes.specs.Cipher.{round, rounds, cipher}
use Rattle.aes.proofs.ScheduleLaws.{rounds_more}
use Rattle.aes.proofs.cipher.encrypt_block.Goals as goal

pub loop-n-init : goal.loop-n-init
unfolding rounds
loop-n-init c = refl

pub loop-n-preserved : goal.loop-n-preserved
loop-n-preserved c =
    let n = c.loop-n.n in
    let w = c.args.w.now in
    let e : n + 1 - 1 ≡ n = omega arith in
    rw e (c.one_round-next.ensures ∙ ap (round w n) c.loop-n.invariant ∙ rounds_more w n c.add_round_key-t.result (omega arith))

pub returns : goal.returns
unfolding cipher
returns c =
    let l = c.loop-n in
    let e : l.n - 1 ≡ 9 = omega arith in
    let i = rw e at l.invariant in
    rw (c.add_round_key.ensures, c.shift_rows.ensures.forward refl, c.sub_bytes.ensures, i, c.add_round_key-t.ensures) refl
