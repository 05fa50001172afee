use borrow.Author.Rules.{rules}
use Rattle.aes.proofs.Entries.{next_at, next_long}
use Rattle.aes.proofs.Made.{made}
use Rattle.aes.proofs.state.next_rows.Goals as goal

pub returns : goal.returns
returns c = made c.from_fn.ensures.items (next_long c.args.s) (next_at c.args.s) (λ i x q h k. search rules)
