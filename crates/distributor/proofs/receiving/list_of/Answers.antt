use mathlib.Core.Path.{ap₂, ◌∙◌}
use lib.ListN.{take}
use Rattle.octets.proofs.PartLaws.{part_front}
use Rattle.rules.specs.Layout.{list_of}
use Rattle.distributor.proofs.receiving.list_of.Goals as goal

pub returns : goal.returns
unfolding list_of
returns c = c.part.ensures.octets ∙ part_front _ _ ∙ ap₂ take c.octet.ensures c.part-field.ensures.octets
