use Rattle.rules.specs.Layout as L
use Rattle.rows.proofs.row.endpoint_of.Goals as goal

pub returns : goal.returns
unfolding L.endpoint_of
returns c = c.number32.ensures
