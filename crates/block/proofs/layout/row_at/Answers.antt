use mathlib.Core.Path.{sym}
use mathlib.Core.List.{[]}
use lib.ListN.{get_or-eq_default}
use borrow.Author.Rules.{rules}
use borrow.Author.Tests.{lt-ltb, le-ltb}
use Rattle.octets.specs.Part.{part}
use Rattle.rules.specs.Layout.{rows, row_of}
use Rattle.rules.proofs.RowsLaws.{row_part, rows_length}
use Rattle.block.proofs.layout.row_at.Goals as goal

pub returns-then-place-lt-PLACES : goal.returns-then-place-lt-PLACES
unfolding part
returns-then-place-lt-PLACES c =
    let a = c.args in
    record {
      octets = sym (row_part a.state.now a.place c.if-place-lt-PLACES.true);
      begins = rw (lt-ltb _ _ c.if-place-lt-PLACES.true) (search rules);
    }

-- there is no such place
pub returns : goal.returns
unfolding row_of
returns c =
    let a = c.args in
    let s = a.state.now in
    record {
      octets = sym (get_or-eq_default (rows s) [] {n = a.place} (rw rows_length c.if-place-lt-PLACES.false));
      begins = rw (le-ltb _ _ c.if-place-lt-PLACES.false) (search rules);
    }
