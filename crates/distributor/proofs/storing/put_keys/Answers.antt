use mathlib.Core.Path.{◌≡◌, sym, ap, ◌∙◌}
use native.Mathlib.Omega.{arith}
use Prim.Native.Nat.{ℕ, ◌+◌, ◌*◌, ◌-◌}
use mathlib.Core.List.{List}
use borrow.Author.Rules.{rules}
use lib.ListN.{length, take, drop}
use Rattle.octets.specs.Part.{part}
use Rattle.rows.specs.ReadKeys.{keys_read}
use Rattle.rules.specs.Layout as L
use Rattle.rules.specs.Layout.{row_length}
use Rattle.rules.proofs.RowLaws.{keyed_row_length}
use Rattle.rules.proofs.RowsLaws.{row_part, row_length_lem}
use Rattle.rows.specs.Lent.{on_row}
use Rattle.rows.proofs.LentLaws.{lent_row}
use Rattle.distributor.proofs.storing.put_keys.Goals as goal

pub returns : goal.returns
unfolding L.with_row part
returns c =
    let a = c.args in
    let s = a.state.now in
    let p = c.requires in
    let size : length s ≡ L.block_length = search rules in
    let at = a.place * row_length in
    let k = keys_read a.keys in
    let row : take (at + row_length - at) (drop at s) ≡ L.row_of s a.place = sym (row_part s a.place p) in
    lent_row s (L.keyed_row k (L.row_of s a.place)) _ at (omega (arith, p, size)) (keyed_row_length k (L.row_of s a.place) (row_length_lem s record { size = size } a.place p))
    (c.key_row.ensures ∙ ap (λ (r : List ℕ). on_row (take (at + row_length - at) (drop at s)) (L.keyed_row k r)) row)
