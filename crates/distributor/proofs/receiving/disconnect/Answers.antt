use mathlib.Core.Path.{ap, ◌∙◌}
use borrow.Author.Tests.{ltb-true}
use Rattle.rules.specs.Layout.{endpoint_of}
use Rattle.distributor.proofs.ReceivingLaws.{disconnected, not_disconnected}
use Rattle.distributor.proofs.receiving.disconnect.Goals as goal

pub put_vacant-requires : goal.put_vacant-requires
put_vacant-requires c = let f = c.in-Ok.ensures in rw f.1 (ltb-true _ _ f.0)

pub returns-in-Ok : goal.returns-in-Ok
returns-in-Ok c =
    let a = c.args in
    disconnected a.state.now a.s.now _ a.taken c.identifier.ensures.octets _ _ c.in-Ok.ensures (c.endpoint_of-endpoint.ensures ∙ ap endpoint_of c.row_at.ensures.octets) c.put_vacant.ensures

pub returns-in-Err : goal.returns-in-Err
returns-in-Err c =
    let a = c.args in
    not_disconnected a.state.now a.s.now _ a.taken c.identifier.ensures.octets _ c.in-Err.ensures
