use Rattle.octets.specs.Number.{octets16}
use Rattle.message.specs.Message as M
use Rattle.writers.specs.Keys.{media_keys}
use Rattle.writers.proofs.Pieces.{first, piece, whole}
use Rattle.writers.proofs.putting.media_keys.Goals as goal

pub returns : goal.returns
returns c =
    let a = c.args in
    let k = a.keys in
    let w = piece (octets16 a.profile) (piece a.identifier.now (first _ a.out.now c.requires c.put_header-a.ensures) (λ _. c.put_octets-b.ensures)) (λ _. c.put_number16-c.ensures) in
    whole (media_keys a.identifier.now a.profile k) a.out.now c.requires
    (piece (M.vector8 k.server_salt.now)
    (piece (M.vector8 k.client_salt.now)
    (piece (M.vector8 k.server_key.now)
    (piece (M.vector8 k.client_key.now)
    (piece (M.vector8 k.mki.now) w
    c.put_vector8-d.ensures) c.put_vector8-e.ensures) c.put_vector8-f.ensures) c.put_vector8-g.ensures) c.put_vector8.ensures)
