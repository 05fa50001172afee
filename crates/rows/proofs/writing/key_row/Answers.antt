use mathlib.Core.Path.{sym, ◌∙◌}
use Rattle.rows.proofs.LentLaws.{on_row_lem, off_row}
use Rattle.rows.proofs.writing.key_row.Goals as goal

pub returns-then-row-eq-ROW : goal.returns-then-row-eq-ROW
returns-then-row-eq-ROW c = c.write_keys.ensures ∙ sym (on_row_lem c.args.row.now _ c.if-row-eq-ROW.true)

pub returns-else-row-eq-ROW : goal.returns-else-row-eq-ROW
returns-else-row-eq-ROW c = sym (off_row c.args.row.now _ c.if-row-eq-ROW.false)
