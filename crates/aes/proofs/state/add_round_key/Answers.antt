use borrow.Author.Rules.{rules}
use Rattle.aes.specs.Field.{xor}
use Rattle.aes.specs.KeyExpansion.{round_key}
use Rattle.aes.proofs.Entries.{add_at, add_long}
use Rattle.aes.proofs.Made.{made}
use Rattle.aes.proofs.state.add_round_key.Goals as goal

pub returns : goal.returns
unfolding xor
returns c =
    let a = c.args in
    made c.from_fn.ensures.items (add_long a.s (round_key a.w.now a.n)) (λ i h. add_at a.s i h a.w.now a.n) (λ i x q h k. search rules)
