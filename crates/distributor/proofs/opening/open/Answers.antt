use mathlib.Core.Path.{sym, ◌∙◌}
use borrow.Author.Tests.{ltb-true}
use Rattle.rules.specs.Table as Spec
use Rattle.rules.proofs.ViewVerdicts.{open_passed}
use Rattle.distributor.proofs.CheckLaws.{passed_on}
use Rattle.distributor.proofs.Sendable.{open_refused}
use Rattle.distributor.proofs.opening.open.Goals as goal

pub put_open-requires : goal.put_open-requires
put_open-requires c =
    let a = c.args in
    let v = c.in_ok-place.ensures in
    rw v.1 (ltb-true _ _ (open_passed a.state.now a.identifier.now a.endpoint (sym v.0)).room)

pub returns-in_err-place : goal.returns-in_err-place
unfolding Spec.answer Spec.step
returns-in_err-place c =
    let a = c.args in
    open_refused a.state.now a.identifier.now a.endpoint _ (passed_on _ _ c.from_residual.ensures.1) c.in_err-place.ensures

pub returns : goal.returns
unfolding Spec.answer Spec.step Spec.open_answer Spec.open_next
returns c =
    let v = c.in_ok-place.ensures in
    (rw (← v.0, v.1), c.put_open.ensures ∙ rw (← v.0, v.1))
