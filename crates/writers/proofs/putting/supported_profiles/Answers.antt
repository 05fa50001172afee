use mathlib.Core.List.{[], ◌∷◌}
use Rattle.message.specs.Message as M
use Rattle.writers.proofs.Pieces.{first, piece, whole}
use Rattle.writers.proofs.putting.supported_profiles.Goals as goal

pub returns : goal.returns
returns c =
    let a = c.args in
    let m = M.supported_profiles a.version a.list.now in
    let w = piece (a.version ∷ []) (first m a.out.now c.requires c.put_header-a.ensures) (λ _. c.put_octet-b.ensures) in
    whole m a.out.now c.requires (piece (M.vector16 a.list.now) w c.put_vector16.ensures)
