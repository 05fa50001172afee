use Rattle.rules.specs.Layout as L
use Rattle.rows.proofs.row.is_live.Goals as goal

pub returns : goal.returns
unfolding L.live
returns c = rw (← c.octet.ensures)
