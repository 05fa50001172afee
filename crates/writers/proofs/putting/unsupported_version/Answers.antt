use mathlib.Core.List.{[], ◌∷◌}
use Rattle.message.specs.Message as M
use Rattle.writers.proofs.Pieces.{first, piece, whole}
use Rattle.writers.proofs.putting.unsupported_version.Goals as goal

pub returns : goal.returns
returns c =
    let a = c.args in
    let m = M.unsupported_version a.version in
    whole m a.out.now c.requires (piece (a.version ∷ []) (first m a.out.now c.requires c.put_header-a.ensures) (λ _. c.put_octet.ensures))
