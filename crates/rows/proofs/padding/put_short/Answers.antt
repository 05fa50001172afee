use mathlib.Core.Path.{sym, ◌∙◌}
use Rattle.octets.proofs.RangeLaws.{within_true}
use Rattle.octets.proofs.WriteLaws.{put_whole}
use Rattle.rows.proofs.padding.put_short.Goals as goal

pub put_ends-requires : goal.put_ends-requires
put_ends-requires c =
    let w = within_true 16 32 _ (sym c.within.ensures ∙ c.if-within.true) in
    (c.requires, w.0, w.1)

pub put_ends-requires-then-within-2 : goal.put_ends-requires-then-within-2
put_ends-requires-then-within-2 c =
    let w = within_true 8 16 _ (sym c.within-else-within.ensures ∙ c.if-within-2.true) in
    (c.requires, w.0, w.1)

pub returns-else-within-2 : goal.returns-else-within-2
returns-else-within-2 c = c.put_octets.ensures.1 ∙ put_whole _ _ _ c.requires
