use Rattle.service.specs.Request.{request_by}
use Rattle.service.proofs.RequestLaws.{same_serving, frame_request}
use Rattle.service.proofs.serving.serve_one.Goals as goal

pub returns : goal.returns
returns c =
    let a = c.args in
    same_serving (request_by c.from.result _) a.state.now _ a.out.now (frame_request a.frame.now c.if-frame-gt-FRAME_LIMIT.false c.in-Some.ensures.cases.0 c.from.ensures) c.serve_kind.ensures
