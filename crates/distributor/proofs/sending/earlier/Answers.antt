use mathlib.Core.Path.{refl, sym, ◌∙◌}
use Rattle.distributor.proofs.sending.earlier.Goals as goal

pub returns-then-is_served : goal.returns-then-is_served
returns-then-is_served c = rw (sym c.is_served.ensures ∙ c.if-is_served.true) refl

pub returns-else-is_served : goal.returns-else-is_served
returns-else-is_served c = rw (sym c.is_served.ensures ∙ c.if-is_served.false) refl
