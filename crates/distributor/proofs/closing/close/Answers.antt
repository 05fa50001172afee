use Rattle.rules.specs.Table.{answer, step}
use Rattle.distributor.proofs.CheckLaws.{passed_on}
use Rattle.distributor.proofs.Sendable.{close_place, close_done, close_refused, close_written}
use Rattle.distributor.proofs.closing.close.Goals as goal

pub returns-in_err-place : goal.returns-in_err-place
unfolding answer step
returns-in_err-place c =
    let a = c.args in
    close_refused a.state.now a.identifier.now a.out.now _ (passed_on _ _ c.from_residual.ensures.1) c.in_err-place.ensures

pub returns-in_err-count : goal.returns-in_err-count
returns-in_err-count c =
    let a = c.args in
    absurd (close_written a.state.now a.identifier.now a.out.now _ c.in_ok-place.ensures _ _ c.in_err-count.ensures)

pub put_vacant-requires : goal.put_vacant-requires
put_vacant-requires c =
    let a = c.args in
    close_place a.state.now a.identifier.now a.out.now _ c.in_ok-place.ensures

pub returns : goal.returns
unfolding answer step
returns c =
    let a = c.args in
    close_done a.state.now a.identifier.now a.out.now _ c.in_ok-place.ensures _ _ _ c.in_ok-count.ensures c.put_vacant.ensures
