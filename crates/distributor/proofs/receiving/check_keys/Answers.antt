use mathlib.Core.Path.{refl, sym, ap, ◌∙◌}
use Rattle.message.specs.Profiles.{in_list}
use Rattle.rules.specs.Table as Spec
use Rattle.std.specs.Prelude.{Ok, Err}
use Rattle.distributor.proofs.CheckLaws.{passed_on, refused_as}
use Rattle.distributor.proofs.ReceivingLaws.{named}
use Rattle.distributor.proofs.receiving.check_keys.Goals as goal

pub returns-in_err-place : goal.returns-in_err-place
unfolding Spec.keys_verdict
returns-in_err-place c =
    let f = named c.args.state.now c.args.keys.octets.now _ 0 c.identifier.ensures.octets (Err c.in_err-place.field-0.0) c.in_err-place.ensures in
    refused_as _ _ _ _ (passed_on _ _ c.from_residual.ensures.1) (rw (f.0, f.1) refl)

pub returns-then-not-in_list : goal.returns-then-not-in_list
unfolding Spec.keys_verdict
returns-then-not-in_list c =
    let f = named c.args.state.now c.args.keys.octets.now _ 0 c.identifier.ensures.octets (Ok c.in_ok-place.place) c.in_ok-place.ensures in
    rw (f.0, ap (in_list _) (sym c.list_of.ensures) ∙ sym c.in_list.ensures ∙ c.if-not-in_list.true) refl

pub returns-then-not-keys_fit : goal.returns-then-not-keys_fit
unfolding Spec.keys_verdict
returns-then-not-keys_fit c =
    let f = named c.args.state.now c.args.keys.octets.now _ 0 c.identifier.ensures.octets (Ok c.in_ok-place.place) c.in_ok-place.ensures in
    rw (f.0, ap (in_list _) (sym c.list_of.ensures) ∙ sym c.in_list.ensures ∙ c.if-not-in_list.false, sym c.keys_fit.ensures ∙ c.if-not-keys_fit.true) refl

pub returns-then-not-mki_and_salts_fit : goal.returns-then-not-mki_and_salts_fit
unfolding Spec.keys_verdict
returns-then-not-mki_and_salts_fit c =
    let f = named c.args.state.now c.args.keys.octets.now _ 0 c.identifier.ensures.octets (Ok c.in_ok-place.place) c.in_ok-place.ensures in
    rw (
      f.0,
      ap (in_list _) (sym c.list_of.ensures) ∙ sym c.in_list.ensures ∙ c.if-not-in_list.false,
      sym c.keys_fit.ensures ∙ c.if-not-keys_fit.false,
      sym c.mki_and_salts_fit.ensures ∙ c.if-not-mki_and_salts_fit.true,
    ) refl

pub returns : goal.returns
unfolding Spec.keys_verdict
returns c =
    let f = named c.args.state.now c.args.keys.octets.now _ 0 c.identifier.ensures.octets (Ok c.in_ok-place.place) c.in_ok-place.ensures in
    rw (
      f.0,
      ap (in_list _) (sym c.list_of.ensures) ∙ sym c.in_list.ensures ∙ c.if-not-in_list.false,
      sym c.keys_fit.ensures ∙ c.if-not-keys_fit.false,
      sym c.mki_and_salts_fit.ensures ∙ c.if-not-mki_and_salts_fit.false,
    ) (refl, f.1)
