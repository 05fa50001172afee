use borrow.Author.Rules.{rules}
use Rattle.aes.proofs.Entries.{shift_at, shift_long, inv_shift_at, inv_shift_long}
use Rattle.aes.proofs.Made.{made}
use Rattle.aes.proofs.state.shift_rows.Goals as goal

pub returns-clause-forward : goal.returns-clause-forward
returns-clause-forward g c e = made c.from_fn.ensures.items (shift_long c.args.s) (rw (← e) at shift_at c.args.s) (λ i x q h k. search rules)

pub returns-clause-back : goal.returns-clause-back
returns-clause-back g c e = made c.from_fn.ensures.items (inv_shift_long c.args.s) (rw (← e) at inv_shift_at c.args.s) (λ i x q h k. search rules)
