use Rattle.rules.specs.Layout as L
use Rattle.rows.proofs.row.identifier_of.Goals as goal

pub returns : goal.returns
unfolding L.identifier_of
returns c = c.part.ensures.octets
