use borrow.Author.Rules.{rules}
use Rattle.aes.specs.State.{inv_mix_columns}
use Rattle.aes.proofs.Entries.{mixed_whole}
use Rattle.aes.proofs.state.inv_mix_columns.Goals as goal

pub returns : goal.returns
unfolding inv_mix_columns
returns c = mixed_whole 14 11 13 9 c.args.s c.mixed.result (search rules) c.mixed.ensures
