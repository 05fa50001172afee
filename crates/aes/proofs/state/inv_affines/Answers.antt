use borrow.Author.Rules.{rules}
use Rattle.aes.proofs.Entries.{inv_affine_at, inv_affine_long}
use Rattle.aes.proofs.Made.{made}
use Rattle.aes.proofs.state.inv_affines.Goals as goal

pub returns : goal.returns
returns c = made c.from_fn.ensures.items (inv_affine_long c.args.s) (inv_affine_at c.args.s) (λ i x q h k. search rules)
