use Rattle.service.proofs.RequestLaws.{packet_keeps}
use Rattle.service.proofs.serving.serve_kind.Goals as goal

pub returns-in-BoothPacket : goal.returns-in-BoothPacket
returns-in-BoothPacket c = rw c.in-BoothPacket.is (c.booth_packet.ensures, packet_keeps c.args.state.now c.args.body.now)
