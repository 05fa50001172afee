use Rattle.rules.specs.Table.{answer, step}
use Rattle.service.proofs.WritingLaws.{start_served}
use borrow.Author.Rules.{rules}
use Rattle.service.proofs.writing.start.Goals as goal

pub returns : goal.returns
unfolding answer step
returns c =
    let a = c.args in
    start_served a.state.now a.out.now _ (search rules) c.start-sent.result a.body.now c.start-sent.ensures.0 c.start-sent.ensures.1 c.sent.ensures
