use mathlib.Core.Path.{refl, sym, ◌∙◌}
use Rattle.octets.specs.declared.refusal.Refusal.{Refusal}
use Rattle.rules.specs.Table.{answer, step, start_verdict}
use Rattle.distributor.proofs.Sendable.{start_refused}
use Rattle.distributor.proofs.starting.start.Goals as goal

pub returns-then-is_up : goal.returns-then-is_up
unfolding answer step start_verdict
returns-then-is_up c =
    let a = c.args in
    start_refused a.state.now a.list.now a.out.now Refusal.TunnelUp refl (rw (sym c.is_up.ensures ∙ c.if-is_up.true) refl)
