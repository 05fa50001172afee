use Rattle.message.specs.Message as M
use Rattle.writers.proofs.Pieces.{first, piece, whole}
use Rattle.writers.proofs.putting.endpoint_disconnect.Goals as goal

pub returns : goal.returns
returns c =
    let a = c.args in
    let m = M.endpoint_disconnect a.identifier.now in
    whole m a.out.now c.requires (piece a.identifier.now (first m a.out.now c.requires c.put_header-a.ensures) (λ _. c.put_octets.ensures))
