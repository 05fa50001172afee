use mathlib.Core.Path.{ap, ap₂, ◌∙◌}
use Rattle.rules.specs.Layout as L
use Rattle.rules.specs.Index as Index
use Rattle.distributor.proofs.storing.put_vacant.Goals as goal

pub returns : goal.returns
returns c =
    c.take_out.ensures ∙ ap₂ Index.without_entry c.put_vacant_row.ensures (c.endpoint_of-endpoint.ensures ∙ ap L.endpoint_of c.row_at.ensures.octets)
