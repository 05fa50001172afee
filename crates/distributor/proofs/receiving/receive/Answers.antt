use mathlib.Core.Path.{sym}
use Rattle.distributor.proofs.ReceivingLaws.{of_reading, tunneled}
use Rattle.distributor.proofs.receiving.receive.Goals as goal

pub returns-in-Some : goal.returns-in-Some
returns-in-Some c =
    let a = c.args in
    of_reading a.state.now a.s.now (sym (tunneled a.s.now _ c.in-Some.ensures)) c.deliver.ensures
