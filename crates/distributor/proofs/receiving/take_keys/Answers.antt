use mathlib.Core.Path.{sym, ap, ◌∙◌}
use borrow.Author.Tests.{ltb-true}
use Rattle.rules.specs.Layout.{endpoint_of}
use Rattle.rules.proofs.ViewVerdicts.{keys_passed}
use Rattle.distributor.proofs.ReceivingLaws.{keyed, not_keyed}
use Rattle.distributor.proofs.receiving.take_keys.Goals as goal

pub put_keys-requires : goal.put_keys-requires
put_keys-requires c =
    let k = c.args.keys in
    let v = c.in-Ok.ensures in
    rw v.1 (ltb-true _ _ (keys_passed c.args.state.now _ k.profile k.lengths (sym v.0)).known)

pub returns-in-Ok : goal.returns-in-Ok
returns-in-Ok c =
    let a = c.args in
    keyed a.state.now a.taken a.keys _ c.in-Ok.ensures _ (c.endpoint_of-endpoint.ensures ∙ ap endpoint_of c.row_at.ensures.octets) c.put_keys.ensures

pub returns-in-Err : goal.returns-in-Err
returns-in-Err c = not_keyed c.args.state.now c.args.taken c.args.keys _ c.in-Err.ensures
