use mathlib.Core.Path.{◌≡◌, refl, sym, ap}
use borrow.Author.Rules.{rules}
use denote.Enum.Bare.{same_true, same_false}
use Rattle.message.specs.Frame.{whole}
use Rattle.message.specs.declared.framing.Kind.{Kind}
use Rattle.message.specs.contracts.framing.Kind.{the_type}
use Rattle.rules.specs.Refusals.{received}
use Rattle.distributor.proofs.ReceivingLaws.{of_reading, received_read}
use Rattle.distributor.proofs.receiving.take_whole.Goals as goal

pub returns-then-eq : goal.returns-then-eq
returns-then-eq c =
    let a = c.args in
    let e : a.kind ≡ Kind.SupportedProfiles = same_true the_type (search rules) _ _ (sym c.if-eq.ensures) in
    of_reading a.state.now a.s.now (ap (λ (k : Kind). received a.s.now (whole k a.body_length)) (sym e)) (refl, refl)

pub returns : goal.returns
returns c =
    let a = c.args in
    of_reading a.state.now a.s.now (sym (received_read a.s.now a.kind a.body_length (same_false the_type _ _ (sym c.if-eq.ensures)))) c.take_body.ensures
