use mathlib.Core.Path.{◌∙◌}
use Rattle.rules.proofs.IndexLaws.{count_within}
use Rattle.block.proofs.SpotLaws as Spots
use Rattle.block.proofs.index.take_out.Goals as goal

pub remove_at-requires : goal.remove_at-requires
remove_at-requires c = (Spots.here_below c.args.state.now c.args.endpoint _ c.in-Ok.ensures, count_within c.args.state.now)

pub returns-in-Ok : goal.returns-in-Ok
returns-in-Ok c = c.remove_at.ensures ∙ Spots.here_out c.args.state.now c.args.endpoint _ c.in-Ok.ensures

pub returns-in_default : goal.returns-in_default
returns-in_default c = Spots.missing_stays c.args.state.now c.args.endpoint _ c.in_default.ensures
