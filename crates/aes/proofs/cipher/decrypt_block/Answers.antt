use Prim.Native.Nat.{◌-◌}
use mathlib.Core.Path.{◌≡◌, refl, sym, ap, ◌∙◌}
use native.Mathlib.Omega.{arith}
use Rattle.aes.specs.Cipher.{inv_rounds, inv_cipher}
use Rattle.aes.proofs.ScheduleLaws.{inv_rounds_less}
use Rattle.aes.proofs.cipher.decrypt_block.Goals as goal

pub loop-n-preserved : goal.loop-n-preserved
loop-n-preserved c =
    let l = c.loop-n in
    let w = c.args.w.now in
    ap (inv_rounds w (l.n - 1 - 1)) c.inv_round-next.ensures ∙ sym (inv_rounds_less w (l.n - 1) l.t (omega arith)) ∙ l.invariant

pub returns : goal.returns
unfolding inv_cipher inv_rounds
returns c =
    let l = c.loop-n in
    let e : l.n - 1 ≡ 0 = omega arith in
    let w = c.args.w.now in
    let f : l.t ≡ inv_rounds w 9 c.add_round_key-t.result = rw e at l.invariant in
    rw (c.add_round_key.ensures, c.inv_sub_bytes.ensures, c.shift_rows.ensures.back refl, f, c.add_round_key-t.ensures) refl
