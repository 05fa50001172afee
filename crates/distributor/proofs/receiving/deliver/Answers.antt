use mathlib.Core.Path.{ap, ◌∙◌}
use Rattle.rules.specs.Layout.{endpoint_of}
use Rattle.distributor.proofs.ReceivingLaws.{delivered, not_delivered}
use Rattle.distributor.proofs.receiving.deliver.Goals as goal

pub returns-in-Ok : goal.returns-in-Ok
returns-in-Ok c =
    let a = c.args in
    rw c.dtls_bounds.ensures
    (delivered a.state.now a.s.now _ a.taken c.identifier.ensures.octets a.dtls_length _ _ c.in-Ok.ensures (c.endpoint_of.ensures ∙ ap endpoint_of c.row_at.ensures.octets))

pub returns-in-Err : goal.returns-in-Err
returns-in-Err c =
    let a = c.args in
    not_delivered a.state.now a.s.now _ a.taken c.identifier.ensures.octets a.dtls_length _ c.in-Err.ensures
