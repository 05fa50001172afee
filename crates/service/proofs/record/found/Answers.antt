use mathlib.Core.Path.{refl}
use borrow.Author.Rules.{rules}
use Rattle.std.specs.Prelude.{Some, None}
use Rattle.distributor.specs.Record.{keys_read}
use Rattle.service.specs.Reply.{keys_octets, no_keys_octets}
use Rattle.service.proofs.PieceLaws.{whole}
use Rattle.service.proofs.RecordLaws.{record_done, keys_length_lem, found_with}
use Rattle.service.proofs.record.found.Goals as goal

pub returns-in-Some : goal.returns-in-Some
returns-in-Some c =
    let r = c.args.r.now in
    let k = c.in-Some.keys in
    found_with c.args.out.now r.identifier r.endpoint (Some k) c.in-Some.is
    (record_done c.args.out.now r.identifier (keys_octets (keys_read k)) 2 r.endpoint (search rules) (keys_length_lem (keys_read k)) c.put_front-at.ensures c.put_keys.ensures)

pub returns-in-None : goal.returns-in-None
returns-in-None c =
    let r = c.args.r.now in
    found_with c.args.out.now r.identifier r.endpoint None c.in-None.is
    (record_done c.args.out.now r.identifier no_keys_octets 1 r.endpoint (search rules) refl c.put_front-at-in-None.ensures
    (whole _ _ no_keys_octets (search rules) c.put_octets.ensures))
