use Prim.Native.Nat.{ℕ, ◌-◌}
use mathlib.Core.Path.{◌≡◌, refl, sym, ap, ◌∙◌}
use mathlib.Core.List.{List}
use native.Mathlib.Omega.{arith}
use Rattle.aes.specs.Cipher.{inv_cipher}
use Rattle.keywrap.specs.KeyWrap.{xor_count, unwrap_step, unwrap_steps}
use Rattle.keywrap.proofs.CodeLaws.{stepped, unwrap_less}
use Rattle.keywrap.proofs.process.unwrap_steps.Goals as goal

pub loop-t-init : goal.loop-t-init
loop-t-init c = refl

pub loop-t-preserved : goal.loop-t-preserved
unfolding unwrap_step
loop-t-preserved c =
    let l = c.loop-t in
    let t = l.t-counter in
    let w = c.args.w.now in
    let s = c.step.ensures in
    ap (unwrap_steps w (t - 1)) (stepped t (λ (b : List ℕ). inv_cipher w (xor_count t b)) l.x c.step.new.x s.0 s.1.1 s.2) ∙ sym (unwrap_less w t l.x (omega arith)) ∙ l.invariant

pub returns : goal.returns
unfolding unwrap_steps
returns c =
    let l = c.loop-t in
    let e : l.t-counter ≡ 0 = omega arith in
    rw e at l.invariant
