use mathlib.Core.Path.{◌≡◌, refl, sym, ap, ◌∙◌}
use borrow.Author.Rules.{rules}
use denote.Enum.Bare.{same_true, same_false}
use Rattle.std.specs.Prelude.{Some, None, Ok}
use Rattle.octets.specs.contracts.refusal.Refusal.{the_type}
use Rattle.message.specs.Frame.{framing_of}
use Rattle.message.specs.declared.framing.Frame.{Frame}
use Rattle.rules.specs.Refusals.{received, receiving}
use Rattle.rules.specs.Table.{fields_answer, fields_next}
use Rattle.distributor.proofs.CheckLaws.{oversize_alone}
use Rattle.distributor.proofs.ReceivingLaws.{of_reading, read_down, read_stays}
use Rattle.distributor.proofs.receiving.receive_long.Goals as goal

pub returns-in-Ok-None : goal.returns-in-Ok-None
unfolding receiving
returns-in-Ok-None c =
    let a = c.args in
    let k = c.in-Ok-None in
    let e : c.read_frame.result ≡ Ok None = cc (k.is, k.field-0-is) in
    of_reading a.state.now a.s.now (ap (received a.s.now) (ap framing_of (sym e) ∙ c.read_frame.ensures)) (refl, refl)

pub returns-in-Ok-Some-Version : goal.returns-in-Ok-Some-Version
unfolding receiving fields_answer fields_next
returns-in-Ok-Some-Version c =
    let a = c.args in
    let k = c.in-Ok-Some-Version in
    let e : c.read_frame.result ≡ Ok (Some (Frame.Version k.version)) = cc (k.is, k.field-0-is, k.field-0-0-is) in
    of_reading a.state.now a.s.now (ap (received a.s.now) (ap framing_of (sym e) ∙ c.read_frame.ensures)) (refl, c.put_down.ensures)

pub returns-in-Ok-Some-Whole : goal.returns-in-Ok-Some-Whole
unfolding receiving
returns-in-Ok-Some-Whole c =
    let a = c.args in
    let k = c.in-Ok-Some-Whole in
    let e : c.read_frame.result ≡ Ok (Some (Frame.Whole k.kind k.body_length)) = cc (k.is, k.field-0-is, k.field-0-0-is) in
    of_reading a.state.now a.s.now (ap (received a.s.now) (ap framing_of (sym e) ∙ c.read_frame.ensures)) c.take_whole.ensures

pub returns-then-eq : goal.returns-then-eq
unfolding receiving
returns-then-eq c =
    let a = c.args in
    let r = c.in-Err.refused in
    of_reading a.state.now a.s.now (ap (received a.s.now) c.in-Err.ensures)
    (refl, read_down a.state.now a.s.now r.refusal _ r.taken (same_true the_type (search rules) _ _ (sym c.if-eq.ensures)) c.put_down-then-eq.ensures)

pub returns-else-eq : goal.returns-else-eq
unfolding receiving
returns-else-eq c =
    let a = c.args in
    let r = c.in-Err.refused in
    of_reading a.state.now a.s.now (ap (received a.s.now) c.in-Err.ensures)
    (refl, read_stays a.state.now a.s.now _ r.taken (λ z. same_false the_type _ _ (sym c.if-eq.ensures) (oversize_alone r.refusal z)))
