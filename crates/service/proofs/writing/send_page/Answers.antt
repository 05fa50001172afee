use Rattle.rules.specs.Table.{answer}
use Rattle.service.proofs.WritingLaws.{page_replied}
use borrow.Author.Rules.{rules}
use Rattle.service.proofs.writing.send_page.Goals as goal

pub returns : goal.returns
unfolding answer
returns c =
    let a = c.args in
    page_replied a.state.now a.out.now _ (search rules) c.write_page-sent.result c.write_page-sent.ensures c.sent.ensures
