use mathlib.Core.Path.{ap, ◌∙◌}
use Rattle.rules.specs.Layout as L
use Rattle.distributor.proofs.paging.state_at.Goals as goal

pub returns : goal.returns
returns c = c.octet.ensures ∙ ap L.state_of c.row_at.ensures.octets
