use mathlib.Core.Path.{sym, ap, ◌∙◌}
use Rattle.distributor.specs.Outcomes.{received_of, accepted_of}
use Rattle.rules.specs.Table.{answer}
use Rattle.service.proofs.TunnelLaws.{delivery_fits}
use Rattle.service.proofs.receiving.tunnel_octets.Goals as goal

pub delivery-requires : goal.delivery-requires
unfolding answer
delivery-requires c =
    let a = c.args in
    let e = sym (ap accepted_of c.in-Ok-Delivery.field-0-is) ∙ sym (ap received_of c.in-Ok-Delivery.is) ∙ c.tunnel_octets.ensures.0 in
    let f = delivery_fits a.state.now a.body.now _ _ _ e c.requires in
    rw c.part_in.ensures.octets f
