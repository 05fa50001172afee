use native.Mathlib.Omega.{arith}
use Prim.Native.Nat.{◌-◌}
use mathlib.Core.Path.{refl, ◌∙◌}
use lib.ListN.{length-set}
use Rattle.distributor.proofs.PackingLaws.{last_turn, finished}
use Rattle.distributor.proofs.packing.finish.Goals as goal

pub loop-left-preserved : goal.loop-left-preserved
loop-left-preserved c =
    let l = c.loop-left in
    let end = c.args.end in
    let p = c.requires in (
      length-set l.out (end - (l.left - 1)) _ ∙ l.invariant.0,
      λ first number h. last_turn first number l.out end _ (l.left - 1) (omega arith) (omega (arith, p.all)) (omega (arith, p.room)) (l.invariant.1 first number h),
    )

pub returns : goal.returns
returns c =
    let l = c.loop-left in
    let a = c.args in
    finished a.out.now a.w a.end c.requires _ refl l.out (l.left - 1) (omega arith) l.invariant.0 l.invariant.1
