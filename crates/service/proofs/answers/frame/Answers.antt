use borrow.Author.Rules.{rules}
use Rattle.service.proofs.FrameLaws.{headed}
use Rattle.service.proofs.answers.frame.Goals as goal

pub returns : goal.returns
returns c = headed _ _ _ (search rules) c.put_head.ensures c.put_octets.ensures
