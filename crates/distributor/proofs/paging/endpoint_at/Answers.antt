use mathlib.Core.Path.{ap, ◌∙◌}
use Rattle.rules.specs.Layout as L
use Rattle.distributor.proofs.paging.endpoint_at.Goals as goal

pub returns : goal.returns
returns c = c.endpoint_of.ensures ∙ ap L.endpoint_of c.row_at.ensures.octets
