use borrow.Author.Rules.{rules}
use Rattle.aes.specs.Field.{xor}
use Rattle.aes.proofs.ScheduleLaws.{next_at, next_long}
use Rattle.aes.proofs.Made.{made}
use Rattle.aes.proofs.schedule.next_word.Goals as goal

pub returns : goal.returns
unfolding xor
returns c =
    let a = c.args in
    made c.from_fn.ensures.items (next_long a.w.now a.i) (λ k h. next_at a.w.now a.i c.temp_word-t.result c.temp_word-t.ensures k h) (λ k x q h r. search rules)
