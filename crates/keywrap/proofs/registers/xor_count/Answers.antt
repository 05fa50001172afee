use borrow.Author.Rules.{rules}
use native.Mathlib.Omega.{arith}
use mathlib.Core.Path.{◌≡◌}
use lib.ListN.{length}
use Rattle.aes.specs.Field.{xor}
use Rattle.keywrap.proofs.CodeLaws.{count_last}
use Rattle.keywrap.proofs.registers.xor_count.Goals as goal

pub returns : goal.returns
unfolding xor
returns c =
    let l : length c.args.b ≡ 16 = search rules in
    count_last c.args.t c.args.b (search rules) (omega arith)
