use mathlib.Core.Path.{◌≡◌}
use native.Mathlib.Omega.{arith}
use borrow.Author.Rules.{rules}
use lib.ListN.{length}
use Rattle.rules.specs.Layout as Layout
use Rattle.block.proofs.WritingLaws as Writing
use Rattle.block.proofs.index.put_count.Goals as goal

pub returns : goal.returns
returns c =
    let l : length c.args.state.now ≡ Layout.block_length = search rules in
    Writing.count_is c.args.state.now _ Layout.index_at c.args.n (omega (arith, c.requires)) (omega arith) c.put_number16.ensures.1
