use Prim.Native.Nat.{ℕ, suc, ◌+◌, ◌-◌, ◌/◌, ◌<◌}
use mathlib.Core.Path.{◌≡◌, refl, sym, ap, ◌∙◌}
use mathlib.Core.List.{List}
use native.Mathlib.Omega.{arith}
use Rattle.rules.specs.Halving.{halved, nearer}
use Rattle.rules.specs.Limits.{rounds}
use Rattle.rules.specs.Index.{index_endpoint}
use Rattle.rules.proofs.HalvingLaws.{halved_none, halved_more, nearer_within}
use Rattle.block.proofs.lookup.halve.Goals as goal

-- a round more
again : (s : List ℕ) (e x lo left looked seen next : ℕ) → looked < rounds - 1 → x ≡ halved (rounds - 1 - looked) (index_endpoint s) e lo left
    → seen ≡ index_endpoint s (lo + left / 2) → next ≡ nearer seen e lo (lo + left / 2)
    → x ≡ halved (rounds - 1 - (looked + 1)) (index_endpoint s) e next (left - left / 2)
again s e x lo left looked seen next h i q r =
    let k : rounds - 1 - looked ≡ suc (rounds - 1 - (looked + 1)) = omega arith in
    rw (r, q) (i ∙ ap (λ (j : ℕ). halved j (index_endpoint s) e lo left) k ∙ halved_more (index_endpoint s) e lo left (rounds - 1 - (looked + 1)))

pub loop-turn-init : goal.loop-turn-init
loop-turn-init c = (omega arith, omega arith, refl, refl)

pub loop-turn-preserved : goal.loop-turn-preserved
loop-turn-preserved c =
    let l = c.loop-turn in
    let a = c.args in
    let w = nearer_within c.endpoint_at.result a.endpoint l.lo (l.lo + l.left / 2) (omega arith) in (
      omega (arith, c.nearer-lo.ensures, w, l.invariant.0),
      omega (arith, l.invariant.1),
      ap (λ (n : ℕ). n + 1) l.invariant.2,
      again _ a.endpoint _ l.lo l.left l._turn c.endpoint_at.result c.nearer-lo.result
          c.loop-turn-test.true l.invariant.3 c.endpoint_at.ensures c.nearer-lo.ensures,
    )

pub returns : goal.returns
returns c =
    let l = c.loop-turn in
    let a = c.args in
    let e : l._turn ≡ rounds - 1 = omega arith in
    let z : rounds - 1 - l._turn ≡ 0 = omega arith in
    (sym (l.invariant.3 ∙ ap (λ (j : ℕ). halved j (index_endpoint a.state.now) a.endpoint l.lo l.left) z ∙ halved_none _ a.endpoint l.lo l.left), l.invariant.2 ∙ e)
