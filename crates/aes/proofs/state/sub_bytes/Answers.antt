use borrow.Author.Rules.{rules}
use Rattle.aes.proofs.Entries.{sub_at, sub_long}
use Rattle.aes.proofs.Made.{made}
use Rattle.aes.proofs.state.sub_bytes.Goals as goal

pub returns : goal.returns
returns c = made c.from_fn.ensures.items (sub_long c.args.s) (sub_at c.args.s) (λ i x q h k. search rules)
