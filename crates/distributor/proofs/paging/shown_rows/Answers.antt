use mathlib.Core.Path.{sym, ◌∙◌}
use Rattle.distributor.proofs.paging.shown_rows.Goals as goal

pub returns-then-is_up : goal.returns-then-is_up
returns-then-is_up c = rw (sym c.is_up.ensures ∙ c.if-is_up.true)

pub returns : goal.returns
returns c = rw (sym c.is_up.ensures ∙ c.if-is_up.false)
