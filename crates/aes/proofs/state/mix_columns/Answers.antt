use borrow.Author.Rules.{rules}
use Rattle.aes.specs.State.{mix_columns}
use Rattle.aes.proofs.Entries.{mixed_whole}
use Rattle.aes.proofs.state.mix_columns.Goals as goal

pub returns : goal.returns
unfolding mix_columns
returns c = mixed_whole 2 3 1 1 c.args.s c.mixed.result (search rules) c.mixed.ensures
