use Rattle.distributor.specs.Record as R
use Rattle.distributor.proofs.looking.keys_of.Goals as goal

pub returns : goal.returns
unfolding R.record_keys
returns c = rw (c.number16.ensures, c.field_at.ensures, c.field_at-2.ensures, c.field_at-3.ensures, c.field_at-4.ensures, c.field_at-5.ensures)
