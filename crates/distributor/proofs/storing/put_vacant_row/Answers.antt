use borrow.Author.Rules.{rules}
use lib.ListN.{length}
use mathlib.Core.Path.{◌≡◌, ap, ◌∙◌}
use native.Mathlib.Omega.{arith}
use mathlib.Core.List.{[]}
use Prim.Native.Nat.{◌*◌}
use Rattle.rules.specs.Layout as L
use Rattle.octets.specs.Write.{over}
use Rattle.rows.proofs.PadLaws.{padded_none, padded_put}
use Rattle.rules.specs.Layout.{row_length}
use Rattle.distributor.proofs.storing.put_vacant_row.Goals as goal

pub returns : goal.returns
unfolding L.with_row L.vacant_row
returns c =
    let a = c.args in
    let size : length a.state.now ≡ L.block_length = search rules in
    c.put_padded.ensures ∙ padded_put a.state.now [] (a.place * row_length) row_length (omega (arith, c.requires)) ∙ ap (over a.state.now (a.place * row_length)) (padded_none row_length)
