use Prim.Native.Nat.{ℕ}
use mathlib.Core.Path.{sym, ap, ◌∙◌}
use mathlib.Core.Bool.{Bool, ◌&&◌, and-true}
use lib.Bits.{bit_or}
use lib.Dec.{eqb}
use lib.Seq.{drop-nil}
use Rattle.keywrap.specs.Padding.{zeros}
use Rattle.keywrap.proofs.CodeLaws.{zeros_step}
use Rattle.keywrap.proofs.checks.zeros_from.Goals as goal

pub loop-i-init : goal.loop-i-init
unfolding zeros
loop-i-init c = sym (ap (λ (z : Bool). eqb c.args.found 0 && z) (ap zeros (drop-nil c.args.from)) ∙ and-true (eqb c.args.found 0))

pub loop-i-preserved : goal.loop-i-preserved
loop-i-preserved c =
    let l = c.loop-i in
    let a = c.args in
    ap (λ (v : ℕ). eqb (bit_or l.bad v) 0) c.masked-bad.ensures ∙ zeros_step (eqb a.found 0) a.x.now a.from l.i l.bad c.loop-i-test.true l.invariant
