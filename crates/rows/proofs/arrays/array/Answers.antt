use Prim.Native.Nat.{ℕ, ◌+◌, ◌-◌, ◌*◌, ◌/◌, ◌≤◌}
use mathlib.Core.Path.{◌≡◌, ap, ◌∙◌}
use mathlib.Core.List.{List}
use native.Mathlib.Omega.{arith}
use lib.ListN.{replicate, length-replicate, take}
use Rattle.octets.specs.Write.{over}
use Rattle.rows.proofs.ArrayLaws.{none_put, more_put, all_put}
use Rattle.rows.proofs.arrays.array.Goals as goal

pub loop-k-init : goal.loop-k-init
loop-k-init g c = none_put (replicate g.row.N 0) c.part-tail.result.now

pub loop-k-preserved : goal.loop-k-preserved
loop-k-preserved g c =
    let n = g.row.N in
    let t = c.part-tail.result.now in
    let z : List ℕ = replicate n 0 in
    let l = length-replicate {A = ℕ} n 0 in
    let w = more_put z t c.loop-k.a (8 * c.loop-k.k) 8 (omega arith) c.loop-k.invariant _ _ c.part.ensures.octets c.put_octets.ensures.1 in
    let j : 8 * c.loop-k.k + 8 ≡ 8 * (c.loop-k.k + 1) = omega arith in
    w ∙ ap (λ (m : ℕ). over z 0 (take m t)) j

pub returns : goal.returns
returns g c =
    let n = g.row.N in
    let a = c.args in
    let t = c.part-tail.result.now in
    let z : List ℕ = replicate n 0 in
    let l = length-replicate {A = ℕ} n 0 in
    let i : 8 * c.loop-k.k ≡ n / 8 * 8 = omega arith in
    let d : n / 8 * 8 ≤ n = omega arith in
    let e = c.loop-k.invariant ∙ ap (λ (m : ℕ). over z 0 (take m t)) i in
    let s : n / 8 * 8 + (n - n / 8 * 8) ≡ n = omega arith in
    let w = more_put z t c.loop-k.a (n / 8 * 8) (n - n / 8 * 8) (omega arith) e _ _ (rw s c.part-2.ensures.octets) c.put_octets-2.ensures.1 in
    all_put n a.s.now t _ a.at c.part-tail.ensures.octets (w ∙ ap (λ (m : ℕ). over z 0 (take m t)) s)
