use mathlib.Core.Path.{◌≡◌, sym, ap, ◌∙◌}
use borrow.Author.Rules.{rules}
use native.Mathlib.Omega.{arith}
use mathlib.Core.List.{[]}
use Prim.Native.Nat.{ℕ}
use lib.ListN.{length, length-replicate}
use Rattle.rules.specs.Layout as L
use Rattle.octets.specs.Write.{over}
use Rattle.rows.proofs.PadLaws.{padded_none, padded_put, over_all}
use Rattle.rules.specs.Layout.{block_length}
use Rattle.distributor.proofs.storing.put_down.Goals as goal

pub returns : goal.returns
unfolding L.down_block
returns c =
    let a = c.args in
    let n : length a.state.now ≡ block_length = search rules in
    c.put_padded.ensures ∙ padded_put a.state.now [] 0 block_length (omega arith) ∙ ap (over a.state.now 0) (padded_none block_length) ∙ over_all a.state.now _ (length-replicate {A = ℕ} block_length 0 ∙ sym n)
