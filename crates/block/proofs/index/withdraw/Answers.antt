use Rattle.block.proofs.WritingLaws as Writing
use Rattle.block.proofs.index.withdraw.Goals as goal

pub returns : goal.returns
returns c =
    Writing.withdraw_is c.args.out.now _ _ c.args.q.now c.args.from c.args.to c.requires.0 c.requires.2 c.shift.ensures c.put_octets.ensures.1
