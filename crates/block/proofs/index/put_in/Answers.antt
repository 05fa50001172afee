use mathlib.Core.Path.{◌∙◌}
use native.Mathlib.Omega.{arith}
use Rattle.block.proofs.SpotLaws as Spots
use Rattle.block.proofs.index.put_in.Goals as goal

pub insert_at-requires : goal.insert_at-requires
insert_at-requires c = (
  Spots.missing_below c.args.state.now c.args.endpoint _ c.in-Err.ensures,
  omega (arith, c.count.ensures, c.if-count-lt-PLACES.true),
)

pub returns-then-count-lt-PLACES : goal.returns-then-count-lt-PLACES
returns-then-count-lt-PLACES c =
    c.insert_at.ensures
    ∙ Spots.missing_in c.args.state.now c.args.endpoint _ c.in-Err.ensures c.args.place (omega (arith, c.count.ensures, c.if-count-lt-PLACES.true))

pub returns-else-count-lt-PLACES : goal.returns-else-count-lt-PLACES
returns-else-count-lt-PLACES c =
    Spots.missing_full c.args.state.now c.args.endpoint _ c.in-Err.ensures c.args.place
    (omega (arith, c.count.ensures, c.if-count-lt-PLACES.false))

pub returns-in_default : goal.returns-in_default
returns-in_default c = Spots.here_stays c.args.state.now c.args.endpoint _ c.in_default.ensures c.args.place
