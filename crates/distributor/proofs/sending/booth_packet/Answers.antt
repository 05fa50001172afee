use Rattle.rules.specs.Table.{answer}
use Rattle.distributor.proofs.CheckLaws.{passed_on}
use Rattle.distributor.proofs.Sendable.{packet_sent, packet_refused}
use Rattle.distributor.proofs.sending.booth_packet.Goals as goal

pub returns-in_err-place : goal.returns-in_err-place
unfolding answer
returns-in_err-place c =
    let a = c.args in
    packet_refused a.state.now a.endpoint a.packet.now a.out.now _ (passed_on _ _ c.from_residual.ensures.1) c.in_err-place.ensures.1

pub returns : goal.returns
unfolding answer
returns c =
    let a = c.args in
    let k = c.in_ok-place.ensures in
    packet_sent a.state.now k.0 a.endpoint a.packet.now a.out.now _ k.1 _ _ _ _ c.write_tunneled_dtls.ensures c.array-identifier.ensures c.row_at.ensures.octets
