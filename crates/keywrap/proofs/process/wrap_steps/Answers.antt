use Prim.Native.Nat.{ℕ, ◌+◌, ◌-◌}
use mathlib.Core.Path.{◌≡◌, refl, ap, ◌∙◌}
use mathlib.Core.List.{List}
use native.Mathlib.Omega.{arith}
use Rattle.aes.specs.Cipher.{cipher}
use Rattle.keywrap.specs.KeyWrap.{xor_count, wrap_step, wrap_steps}
use Rattle.keywrap.proofs.CodeLaws.{stepped, wrap_more}
use Rattle.keywrap.proofs.process.wrap_steps.Goals as goal

pub loop-t-init : goal.loop-t-init
unfolding wrap_steps
loop-t-init c = (omega arith, refl)

pub loop-t-preserved : goal.loop-t-preserved
unfolding wrap_step
loop-t-preserved c =
    let l = c.loop-t in
    let t = l.t-counter in
    let w = c.args.w.now in
    let s = c.step.ensures in
    let e : t + 1 - 1 ≡ t = omega arith in
    (omega arith, rw e (stepped t (λ (b : List ℕ). xor_count t (cipher w b)) l.x c.step.new.x s.0 s.1.1 s.2 ∙ ap (wrap_step w t) l.invariant.1 ∙ wrap_more w t c.args.x.now (omega arith)))

pub returns : goal.returns
returns c =
    let l = c.loop-t in
    let e : l.t-counter - 1 ≡ c.args.steps = omega arith in
    rw e at l.invariant.1

pub returns-2 : goal.returns-2
unfolding wrap_step
returns-2 c =
    let l = c.loop-t in
    let t = l.t-counter in
    let w = c.args.w.now in
    let s = c.step.ensures in
    let e : c.args.steps ≡ t = omega arith in
    rw e (stepped t (λ (b : List ℕ). xor_count t (cipher w b)) l.x c.step.new.x s.0 s.1.1 s.2 ∙ ap (wrap_step w t) l.invariant.1 ∙ wrap_more w t c.args.x.now (omega arith))
