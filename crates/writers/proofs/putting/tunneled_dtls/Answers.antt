use Rattle.message.specs.Message as M
use Rattle.writers.proofs.Pieces.{first, piece, whole}
use Rattle.writers.proofs.putting.tunneled_dtls.Goals as goal

pub returns : goal.returns
returns c =
    let a = c.args in
    let m = M.tunneled_dtls a.identifier.now a.dtls.now in
    let w = piece a.identifier.now (first m a.out.now c.requires c.put_header-a.ensures) (λ _. c.put_octets-b.ensures) in
    whole m a.out.now c.requires (piece (M.vector16 a.dtls.now) w c.put_vector16.ensures)
