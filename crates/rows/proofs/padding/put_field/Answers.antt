use mathlib.Core.Path.{ap, ◌∙◌}
use native.Mathlib.Omega.{arith}
use lib.ListN.{length}
use Rattle.octets.proofs.WriteLaws.{over_length}
use Rattle.rules.specs.Layout.{field}
use Rattle.rules.proofs.FieldLaws.{field_length}
use Rattle.rows.proofs.PadLaws.{field_over}
use Rattle.rows.proofs.padding.put_field.Goals as goal

pub shape_of-out : goal.shape_of-out
shape_of-out c =
    let a = c.args in
    let s = a.s.now in
    ap length (field_over a.out.now _ s a.at a.limit (omega arith) c.pad.ensures)
    ∙ over_length a.out.now a.at (field a.limit s) (omega (arith, field_length a.limit s))

pub returns : goal.returns
returns c =
    let a = c.args in
    field_over a.out.now _ a.s.now a.at a.limit (omega arith) c.pad.ensures
