use Prim.Native.Nat.{ℕ, ◌+◌}
use mathlib.Core.Path.{◌≡◌, sym, ap, ◌∙◌}
use native.Mathlib.Omega.{arith}
use borrow.Author.Rules.{rules}
use lib.ListN.{length, drop, replicate, length-append, length-set}
use lib.Seq.{take-append-le, take_all}
use Rattle.aes.specs.KeyExpansion.{schedule, key_expansion}
use Rattle.aes.proofs.ScheduleLaws.{one_longer}
use Rattle.aes.proofs.schedule.expand.Goals as goal

pub loop-i-init : goal.loop-i-init
unfolding schedule
loop-i-init c =
    let key = c.args.key in
    let n : length key ≡ 16 = search rules in
    let v = c.copy_from_slice.new.self in
    let m : length v ≡ 16 = ap length c.copy_from_slice.ensures.after ∙ n in (
      length-append v (drop 16 (replicate 176 0)) ∙ ap (λ (k : ℕ). k + 160) m,
      rw c.copy_from_slice.ensures.after (take-append-le 16 key _ (omega arith) ∙ take_all 16 key (omega arith)),
    )

pub loop-i-preserved : goal.loop-i-preserved
loop-i-preserved c =
    let l = c.loop-i in
    let k = l.invariant.0 in (
      simp length-set k,
      one_longer c.args.key l.w c.next_word-v.result l.i k (omega arith) (omega arith) l.invariant.1 c.next_word-v.ensures,
    )

pub returns : goal.returns
unfolding key_expansion
returns c =
    let l = c.loop-i in
    let e : l.i ≡ 44 = omega arith in
    let k = l.invariant.0 in
    sym (take_all 176 l.w (omega arith)) ∙ (rw e at l.invariant.1)
