use Rattle.rules.specs.Table.{answer, step}
use Rattle.service.proofs.WritingLaws.{close_served}
use borrow.Author.Rules.{rules}
use Rattle.service.proofs.writing.close.Goals as goal

pub returns : goal.returns
unfolding answer step
returns c =
    let a = c.args in
    close_served a.state.now a.out.now _ (search rules) c.close-sent.result a.body.now c.close-sent.ensures.0 c.close-sent.ensures.1 c.sent.ensures
