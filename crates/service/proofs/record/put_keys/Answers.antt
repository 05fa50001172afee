use borrow.Author.Rules.{rules}
use Rattle.distributor.specs.Record.{keys_read}
use Rattle.service.proofs.RecordLaws.{keys_done}
use Rattle.service.proofs.record.put_keys.Goals as goal

pub returns : goal.returns
returns c =
    let a = c.args in
    keys_done a.out.now a.at (keys_read a.k.now) (search rules) c.put_number16.ensures c.put_field-end.ensures c.put_field-end-2.ensures
    c.put_field-end-3.ensures c.put_field-end-4.ensures c.put_field.ensures
