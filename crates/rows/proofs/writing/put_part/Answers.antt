use mathlib.Core.Path.{ap, sym, subst, ◌∙◌}
use mathlib.Core.List.{List}
use Prim.Native.Nat.{◌≤◌}
use lib.ListN.{length}
use Rattle.octets.specs.Write.{over}
use Rattle.rules.specs.Layout.{field}
use Rattle.rows.proofs.writing.put_part.Goals as goal

pub put_field-requires : goal.put_field-requires
put_field-requires c = (subst (λ (q : List _). length q ≤ 255) (sym c.part_in.ensures.octets) c.requires.0, c.requires.1)

pub returns : goal.returns
returns c = c.put_field.ensures ∙ ap (λ (q : List _). over c.args.row.now c.args.at (field c.args.limit q)) c.part_in.ensures.octets
