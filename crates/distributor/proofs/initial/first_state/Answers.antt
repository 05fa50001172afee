use mathlib.Core.Path.{refl}
use Rattle.rules.specs.Layout.{down_block}
use Rattle.distributor.proofs.initial.first_state.Goals as goal

pub returns : goal.returns
unfolding down_block
returns c = refl
