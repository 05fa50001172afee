use borrow.Author.Rules.{rules}
use lib.ListN.{length}
use mathlib.Core.Path.{◌≡◌}
use native.Mathlib.Omega.{arith}
use Prim.Native.Nat.{◌*◌}
use Rattle.rules.specs.Layout as L
use Rattle.rules.proofs.RowLaws.{open_row_length}
use Rattle.rows.proofs.LentLaws.{lent_row}
use Rattle.distributor.proofs.storing.put_open_row.Goals as goal

pub returns : goal.returns
unfolding L.with_row
returns c =
    let a = c.args in
    let size : length a.state.now ≡ L.block_length = search rules in
    let p = c.requires in
    lent_row a.state.now _ _ (a.place * L.row_length) (omega (arith, p)) (open_row_length a.identifier.now a.endpoint) c.open_row.ensures
