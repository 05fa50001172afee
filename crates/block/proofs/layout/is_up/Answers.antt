use Rattle.rules.specs.Layout as L
use Rattle.block.proofs.layout.is_up.Goals as goal

pub returns : goal.returns
unfolding L.up
returns c = rw (← c.octet.ensures)
