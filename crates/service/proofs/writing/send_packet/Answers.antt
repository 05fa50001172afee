use Rattle.rules.specs.Table.{answer}
use Rattle.service.proofs.WritingLaws.{packet_replied}
use borrow.Author.Rules.{rules}
use Rattle.service.proofs.writing.send_packet.Goals as goal

pub returns : goal.returns
unfolding answer
returns c =
    let a = c.args in
    packet_replied a.state.now a.out.now _ (search rules) c.booth_packet-sent.result a.endpoint a.packet.now c.booth_packet-sent.ensures c.sent.ensures
