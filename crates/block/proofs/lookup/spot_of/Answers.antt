use mathlib.Core.Path.{ap, ◌∙◌}
use native.Mathlib.Omega.{arith}
use Prim.Native.Nat.{ℕ}
use Rattle.rules.specs.Halving.{settled}
use Rattle.rules.proofs.IndexLaws.{count_within}
use Rattle.block.proofs.SpotLaws as Spots
use Rattle.block.proofs.lookup.spot_of.Goals as goal

pub returns-then-n-eq0 : goal.returns-then-n-eq0
returns-then-n-eq0 c =
    Spots.spot_none c.args.state.now c.args.endpoint _ c.count-n.ensures c.if-n-eq0.true

pub nearest-near-requires : goal.nearest-near-requires
nearest-near-requires c =
    (omega (arith, c.if-n-eq0.false), omega (arith, c.count-n.ensures, count_within c.args.state.now))

pub endpoint_at-requires : goal.endpoint_at-requires
endpoint_at-requires c =
    let n = c.count-n in
    (Spots.left_room c.args.state.now c.args.endpoint n.result _ n.ensures (omega (arith, c.if-n-eq0.false)) c.nearest-near.ensures.0)

pub settled-requires : goal.settled-requires
settled-requires c =
    let n = c.count-n in
    Spots.left_room c.args.state.now c.args.endpoint n.result _ n.ensures (omega (arith, c.if-n-eq0.false)) c.nearest-near.ensures.0

pub returns : goal.returns
returns c =
    let n = c.count-n in
    c.settled.ensures
    ∙ ap (λ (x : ℕ). settled x c.args.endpoint c.nearest-near.result.at) c.endpoint_at.ensures
    ∙ Spots.spot_some c.args.state.now c.args.endpoint n.result _ n.ensures (omega (arith, c.if-n-eq0.false)) c.nearest-near.ensures.0
