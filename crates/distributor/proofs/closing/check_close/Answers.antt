use mathlib.Core.Path.{refl, sym, ap, ◌∙◌}
use borrow.Author.Tests.{lt-ltb, le-ltb, eq-eqb, ne_eqb}
use mathlib.Core.Bool.{not}
use Rattle.rules.specs.Table as Spec
use Rattle.distributor.proofs.CheckLaws.{passed_on, refused_as}
use Rattle.distributor.proofs.Sendable.{close_length}
use Rattle.distributor.proofs.closing.check_close.Goals as goal

pub returns-then-not-is_up : goal.returns-then-not-is_up
unfolding Spec.close_verdict
returns-then-not-is_up c = rw (ap not (sym c.is_up.ensures ∙ c.if-not-is_up.true)) refl

pub returns-then-identifier-ne-WIDTH : goal.returns-then-identifier-ne-WIDTH
unfolding Spec.close_verdict
returns-then-identifier-ne-WIDTH c = rw (ap not (sym c.is_up.ensures ∙ c.if-not-is_up.false), ne_eqb _ _ c.if-identifier-ne-WIDTH.true) refl

pub returns-in_err-place : goal.returns-in_err-place
unfolding Spec.close_verdict
returns-in_err-place c =
    let f = c.in_err-place.ensures in
    refused_as _ _ _ _ (passed_on _ _ c.from_residual.ensures.1) (rw (ap not (sym c.is_up.ensures ∙ c.if-not-is_up.false), eq-eqb _ _ c.if-identifier-ne-WIDTH.false, f.0, f.1) refl)

pub returns-then-room-lt-DISCONNECT_LENGTH : goal.returns-then-room-lt-DISCONNECT_LENGTH
unfolding Spec.close_verdict
returns-then-room-lt-DISCONNECT_LENGTH c = rw (ap not (sym c.is_up.ensures ∙ c.if-not-is_up.false), eq-eqb _ _ c.if-identifier-ne-WIDTH.false, c.in_ok-place.ensures.0, close_length c.args.identifier.now c.if-identifier-ne-WIDTH.false, lt-ltb _ _ c.if-room-lt-DISCONNECT_LENGTH.true) refl

pub returns : goal.returns
unfolding Spec.close_verdict
returns c = rw (ap not (sym c.is_up.ensures ∙ c.if-not-is_up.false), eq-eqb _ _ c.if-identifier-ne-WIDTH.false, c.in_ok-place.ensures.0, close_length c.args.identifier.now c.if-identifier-ne-WIDTH.false, le-ltb _ _ c.if-room-lt-DISCONNECT_LENGTH.false) (refl, c.in_ok-place.ensures.1)
