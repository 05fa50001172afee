use mathlib.Core.Path.{◌≡◌, refl, sym, ap, subst, ◌∙◌}
use mathlib.Core.Bool.{not, true}
use borrow.Author.Rules.{rules}
use lib.ListN.{length}
use Rattle.rules.specs.Layout.{up, block_length}
use Rattle.rules.specs.Table as Spec
use Rattle.rules.specs.Verdict.{Verdict}
use Rattle.distributor.specs.Outcomes.{Checks}
use Rattle.distributor.proofs.CheckLaws.{six_first, by_place}
use Rattle.distributor.proofs.Sendable.{packet_by_alone}
use Rattle.distributor.proofs.sending.check_packet.Goals as goal

pub returns-then-not-is_up : goal.returns-then-not-is_up
unfolding Spec.packet_verdict
returns-then-not-is_up c = (search rules, rw (ap not (sym c.is_up.ensures ∙ c.if-not-is_up.true)) refl)

pub returns-in-Ok : goal.returns-in-Ok
returns-in-Ok c =
    let a = c.args in
    let size : length a.state.now ≡ block_length = search rules in
    let u : up a.state.now ≡ true = sym c.is_up.ensures ∙ c.if-not-is_up.false in
    let e = packet_by_alone a.state.now size a.endpoint a.packet.now a.room u in (
      size,
      subst (λ (v : Verdict). Checks v (Spec.place_of_endpoint a.state.now a.endpoint) c.place_served.result) (sym e) (by_place _ _ _ c.place_served.ensures c.in-Ok.ensures.0),
    )

pub returns-in-Err : goal.returns-in-Err
returns-in-Err c =
    let a = c.args in
    let size : length a.state.now ≡ block_length = search rules in
    let u : up a.state.now ≡ true = sym c.is_up.ensures ∙ c.if-not-is_up.false in
    let e = packet_by_alone a.state.now size a.endpoint a.packet.now a.room u in
    (size, six_first (Spec.serves a.state.now a.endpoint) _ _ _ c.earlier.ensures (λ h. c.in-Err.ensures) ∙ sym e)
