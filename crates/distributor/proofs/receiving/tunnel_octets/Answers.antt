use mathlib.Core.Path.{sym, ◌∙◌}
use Rattle.rules.specs.Table.{answer, step}
use Rattle.distributor.proofs.ReceivingLaws.{of_receiving, receives_down}
use Rattle.distributor.proofs.receiving.tunnel_octets.Goals as goal

pub returns-then-not-is_up : goal.returns-then-not-is_up
unfolding answer step
returns-then-not-is_up c =
    let a = c.args in
    receives_down a.state.now a.s.now (sym c.is_up.ensures ∙ c.if-not-is_up.true)

pub returns : goal.returns
unfolding answer step
returns c =
    let a = c.args in
    of_receiving a.state.now a.s.now (sym c.is_up.ensures ∙ c.if-not-is_up.false) c.receive.ensures
