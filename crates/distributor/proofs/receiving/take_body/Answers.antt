use mathlib.Core.Path.{ap, ◌∙◌}
use Rattle.message.specs.Body.{content}
use Rattle.message.specs.Read.{body_answer}
use Rattle.distributor.proofs.ReceivingLaws.{of_reading, body_refused}
use Rattle.distributor.proofs.receiving.take_body.Goals as goal

pub returns-in-Ok : goal.returns-in-Ok
returns-in-Ok c =
    let a = c.args in
    of_reading a.state.now a.s.now (ap (body_answer a.taken) (c.in-Ok.ensures ∙ ap (content a.kind) c.requires)) c.take_message.ensures

pub returns-in-Err : goal.returns-in-Err
returns-in-Err c =
    let a = c.args in
    body_refused a.state.now a.s.now a.kind _ a.taken _ (c.in-Err.ensures ∙ ap (content a.kind) c.requires)
