use mathlib.Core.Path.{refl, ap, ◌∙◌}
use native.Mathlib.Omega.{arith}
use Rattle.rules.specs.Limits.{places}
use Rattle.rules.specs.Index.{place_at_spot}
use Rattle.rules.specs.Table.{place_of_endpoint}
use Rattle.rules.proofs.IndexLaws.{count_within}
use Rattle.std.specs.Prelude.{Some, None}
use Rattle.block.specs.InTable.{found_at}
use Rattle.block.proofs.SpotLaws as Spots
use Rattle.block.proofs.lookup.place_of_endpoint.Goals as goal

pub returns-then-n-eq0 : goal.returns-then-n-eq0
returns-then-n-eq0 c =
    let s = c.args.state.now in
    let r = Spots.rounds_none s c.args.endpoint _ c.count-n.ensures c.if-n-eq0.true in
    (Spots.missing_place s c.args.endpoint 0 (Spots.spot_none s c.args.endpoint _ c.count-n.ensures c.if-n-eq0.true), r, Spots.rounds_few s 0 r, ap (found_at s) (Spots.spot_none s c.args.endpoint _ c.count-n.ensures c.if-n-eq0.true))

pub nearest-near-requires : goal.nearest-near-requires
nearest-near-requires c =
    (omega (arith, c.if-n-eq0.false), omega (arith, c.count-n.ensures, count_within c.args.state.now))

pub endpoint_at-requires : goal.endpoint_at-requires
endpoint_at-requires c =
    let n = c.count-n in
    (Spots.left_room c.args.state.now c.args.endpoint n.result _ n.ensures (omega (arith, c.if-n-eq0.false)) c.nearest-near.ensures.0)

pub place_at-requires : goal.place_at-requires
place_at-requires c =
    let n = c.count-n in
    (Spots.left_room c.args.state.now c.args.endpoint n.result _ n.ensures (omega (arith, c.if-n-eq0.false)) c.nearest-near.ensures.0)

pub returns-then-endpoint_at-endpoint : goal.returns-then-endpoint_at-endpoint
returns-then-endpoint_at-endpoint c =
    let n = c.count-n in
    let s = c.args.state.now in
    let r = Spots.rounds_some s c.args.endpoint n.result _ n.ensures (omega (arith, c.if-n-eq0.false)) c.nearest-near.ensures.1 in (
      c.place_at.ensures ∙ Spots.here_place s c.args.endpoint _
          (Spots.spot_here s c.args.endpoint n.result _ n.ensures (omega (arith, c.if-n-eq0.false)) c.nearest-near.ensures.0
          c.endpoint_at.result c.endpoint_at.ensures c.if-endpoint_at-endpoint.true),
      r,
      Spots.rounds_few s _ r,
      ap Some c.place_at.ensures ∙ ap (found_at s) (Spots.spot_here s c.args.endpoint n.result _ n.ensures (omega (arith, c.if-n-eq0.false)) c.nearest-near.ensures.0
          c.endpoint_at.result c.endpoint_at.ensures c.if-endpoint_at-endpoint.true),
    )

pub returns : goal.returns
unfolding place_of_endpoint
returns c =
    let n = c.count-n in
    let s = c.args.state.now in
    let r = Spots.rounds_some s c.args.endpoint n.result _ n.ensures (omega (arith, c.if-n-eq0.false)) c.nearest-near.ensures.1 in (
      Spots.spot_missing s c.args.endpoint n.result _ n.ensures (omega (arith, c.if-n-eq0.false)) c.nearest-near.ensures.0
          c.endpoint_at.result c.endpoint_at.ensures c.if-endpoint_at-endpoint.false (place_at_spot s) places (λ i. refl),
      r,
      Spots.rounds_few s _ r,
      Spots.spot_missing s c.args.endpoint n.result _ n.ensures (omega (arith, c.if-n-eq0.false)) c.nearest-near.ensures.0
          c.endpoint_at.result c.endpoint_at.ensures c.if-endpoint_at-endpoint.false (found_at s) None (λ i. refl),
    )
